-- The ROM that the reader of a sketch holds after each line that tells of it.
use Rattle.std.proofs.Common.{◌≡◌, ◌<◌, ◌+◌, ◌-◌, ℕ, List, [], ◌∷◌, ◌++◌, length, get_or, refl, sym, ap, subst, ◌∙◌, arith, true, Bool, Option, Some, take, append-nil}
use Rattle.std.specs.Prelude.{IsFalse, ◌↔◌, ◌/◌}
use Rattle.std.proofs.lemmas.List.{drop_all, length-append, take_all}
use Rattle.std.proofs.lemmas.Option.{none-some}
use Rattle.std.specs.List.{refill}
use Rattle.dvg_mem.specs.Grown.{AreReturns}
use Rattle.dvg_mem.proofs.Roms.{words_from_first}
use Rattle.dvg_read.specs.RomReading.{IsAfterLine, gives_words, tells_map, unstated}
use Rattle.dvg_read.specs.RomTexts.{IsMapLine, IsRomLine, IsRomOf, RomLine, RomText, first_stated}
use Rattle.dvg_read.proofs.HeldRom.{all_fit, first_of_map, returns_held, words_held}
use Rattle.dvg_read.proofs.RomSteps.{stated_rom}
use Rattle.dvg_named.specs.declared.stated_rom.StatedRom.{StatedRom}
use Rattle.dvg_named.specs.Places.{free_after}
use Rattle.dvg_named.specs.StatedRoms.{HoldsStated, TellsStated}

stated_now : (rom : RomText) (stated : Bool) → stated ≡ true → (rom ≡ unstated → ⊥) → IsFalse stated ↔ (rom ≡ unstated)
stated_now rom stated is other = (λ none. absurd cc, λ none. absurd (other none))

map_is_stated : (first : ℕ) → stated_rom (Some first) [] ≡ unstated → ⊥
map_is_stated first e = let is = ap (λ rom. rom.map) e in absurd (none-some first (sym is))

words_are_stated : (map : Option ℕ) (before : List RomLine) (given : RomLine) → stated_rom map (before ++ given ∷ []) ≡ unstated → ⊥
words_are_stated map before given e =
    let count = ap length (ap (λ rom. rom.given) e) in absurd (omega (arith, length-append before (given ∷ [])))

-- the line of a map was read
pub map_taken : (rom : RomText) (line : List ℕ) (old new : StatedRom) (first : ℕ) → HoldsStated rom old → IsFalse old.is_stated
    → IsMapLine first line → new.is_stated ≡ true → AreReturns new.bytes.items (0xC00 - first) → new.free ≡ first
    → TellsStated rom line new
map_taken rom line old new first holds none is stated returns free = record {
  now = stated_rom (Some first) [];
  tells = rw (holds.holds.stated.0 none) (tells_map is);
  holds = record {
    holds = record {
      is_rom = returns_held new.bytes.items first (Some first) refl (first_of_map is) returns;
      stated = stated_now (stated_rom (Some first) []) new.is_stated stated (map_is_stated first);
    };
    free = free;
  };
}

pub first_is : (rom : RomText) (held : StatedRom) (first : ℕ) → HoldsStated rom held
    → first + length held.bytes.items / 2 ≡ 0xC00 → first ≡ first_stated rom.map
first_is rom held first holds e =
    let all = words_from_first held.bytes.items holds.holds.is_rom.whole in
    let is = holds.holds.is_rom.first in omega (arith, all, is, e)

-- bytes of which each was written
refilled : (xs ws : List ℕ) → length ws ≡ length xs → refill (length xs) xs ws ≡ ws
refilled xs ws size =
    ap (λ rest. take (length xs) (ws ++ rest)) (drop_all (length ws) xs (omega (arith, size)))
    ∙ ap (take (length xs)) (append-nil ws) ∙ take_all (length xs) ws (omega (arith, size))

-- a line that gives words was read
pub words_taken : (rom : RomText) (line : List ℕ) (old new : StatedRom) (given : RomLine) (first : ℕ) (lent bytes : List ℕ)
    → HoldsStated rom old → first + length old.bytes.items / 2 ≡ 0xC00 → IsRomLine first given line
    → lent ≡ old.bytes.items → IsAfterLine given first lent bytes → ((i : ℕ) → get_or bytes i 0 < 256)
    → new.bytes.items ≡ refill (length old.bytes.items) old.bytes.items bytes → new.is_stated ≡ true
    → ((first : ℕ) (lines : List RomLine) → old.free ≡ free_after first lines → new.free ≡ free_after first (lines ++ given ∷ []))
    → TellsStated rom line new
words_taken rom line old new given first lent bytes holds e is lends put fits written stated free =
    let behind = subst (λ lent. IsAfterLine given first lent bytes) lends put in
    let whole : new.bytes.items ≡ bytes = written ∙ refilled old.bytes.items bytes behind.count in
    let at = first_is rom old first holds e in
    record {
      now = stated_rom rom.map (rom.given ++ given ∷ []);
      tells = gives_words given (subst (λ first. IsRomLine first given line) at is);
      holds = record {
        holds = record {
          is_rom = subst (λ bytes. IsRomOf (stated_rom rom.map (rom.given ++ given ∷ [])) bytes) (sym whole)
              (words_held rom.map rom.given given old.bytes.items bytes first at holds.holds.is_rom behind (all_fit bytes fits));
          stated = stated_now (stated_rom rom.map (rom.given ++ given ∷ [])) new.is_stated stated (words_are_stated rom.map rom.given given);
        };
        free = free (first_stated rom.map) rom.given holds.free;
      };
    }
