-- The ROM that is held after each line that describes it.
use Rattle.std.proofs.Common.{◌≡◌, ◌<◌, ◌≤◌, ◌+◌, ◌-◌, ◌*◌, ◌⊎◌, inl, inr, ℕ, List, [], ◌∷◌, ◌++◌, length, get_or, refl, sym, ap, subst, ◌∙◌, arith, true, Option, Some, All, take, append-nil}
use Rattle.std.specs.Prelude.{IsFalse, ◌↔◌, ◌/◌}
use Rattle.std.proofs.lemmas.List.{drop_all, get_or_default, length-append, take_all}
use Rattle.std.specs.List.{refill}
use Rattle.std.proofs.lemmas.Option.{none-some}
use Rattle.dvg_code.specs.Words.{word_in}
use Rattle.dvg_mem.specs.Grown.{AreReturns}
use Rattle.dvg_mem.specs.Memory.{IsRom, first_word, rom_word}
use Rattle.dvg_mem.proofs.Roms.{large_first, rom_there, small_first, words_from_first}
use Rattle.dvg_read.specs.declared.rom_text.RomReading.{RomReading}
use Rattle.dvg_read.specs.RomReading.{HoldsRom, IsAfterLine, TellsMore, TellsRom, gives_words, tells_map, unstated}
use Rattle.dvg_read.specs.RomTexts.{IsMapLine, IsRomLine, IsRomOf, RomLine, RomText, first_stated, large, small, word_after, word_after_line}
use Rattle.dvg_read.proofs.RomSteps.{stated_rom}

-- the address of a first word
pub first_of_map : {first : ℕ} {l : List ℕ} → IsMapLine first l → (first ≡ 0x800) ⊎ (first ≡ 0x400)
first_of_map small = inl refl
first_of_map large = inr refl

-- bytes that are as many as a ROM's from this word address on
pub whole_by_count : (R : List ℕ) (first : ℕ) → (first ≡ 0x800) ⊎ (first ≡ 0x400) → length R ≡ 2 * (0xC00 - first) → All (λ byte. byte < 256) R → IsRom R × (first_word R ≡ first)
whole_by_count R first (inl e) size bytes = let small : length R ≡ 2048 = omega arith in (record { count = inl small; bytes = bytes }, small_first R small ∙ sym e)
whole_by_count R first (inr e) size bytes = let large : length R ≡ 4096 = omega arith in (record { count = inr large; bytes = bytes }, large_first R large ∙ sym e)

pub returns_held : (R : List ℕ) (first : ℕ) (map : Option ℕ) → first ≡ first_stated map → (first ≡ 0x800) ⊎ (first ≡ 0x400) → AreReturns R (0xC00 - first) → IsRomOf (stated_rom map []) R
returns_held R first map stated one are =
    let (whole, is) = whole_by_count R first one are.count are.bytes in
    record { whole = whole; first = is ∙ stated; words = λ a low high. rom_there R a low high ∙ ap Some (are.words (a - first_word R) (omega arith)) }

-- the words after one more line
after_more : (roms : List RomLine) (given : RomLine) (a word : ℕ) → word_after (roms ++ given ∷ []) a word ≡ word_after_line given a (word_after roms a word)
after_more [] given a word = refl
after_more (r ∷ roms) given a word = after_more roms given a (word_after_line r a word)

same_size : (R S : List ℕ) → length S ≡ length R → first_word S ≡ first_word R
same_size R S size = rw size

behind_at : (before : List RomLine) (given : RomLine) (R S : List ℕ) (a : ℕ) → IsRom R → IsAfterLine given (first_word R) R S → first_word R ≤ a → a < 0xC00
    → rom_word R a ≡ Some (word_after before a 0xD000) → word_in S (a - first_word R) ≡ word_after (before ++ given ∷ []) a 0xD000
behind_at before given R S a whole behind low high old =
    let size = words_from_first R whole in
    let place : first_word R + (a - first_word R) ≡ a = omega arith in
    let there = rom_there R a low high in
    let was : word_in R (a - first_word R) ≡ word_after before a 0xD000 = cc in
    behind.words (a - first_word R) (omega arith) ∙ ap (λ b. word_after_line given b (word_in R (a - first_word R))) place ∙ ap (word_after_line given a) was ∙ sym (after_more before given a 0xD000)

-- a line that gives words
pub words_held : (map : Option ℕ) (before : List RomLine) (given : RomLine) (R S : List ℕ) (first : ℕ) → first ≡ first_stated map → IsRomOf (stated_rom map before) R → IsAfterLine given first R S → All (λ byte. byte < 256) S → IsRomOf (stated_rom map (before ++ given ∷ [])) S
words_held map before given R S first stated held behind bytes =
    let count = behind.count in
    let same = same_size R S count in
    let put : IsAfterLine given (first_word R) R S = subst (λ first. IsAfterLine given first R S) (stated ∙ sym held.first) behind in
    record {
      whole = record { count = subst (λ n. (n ≡ 2048) ⊎ (n ≡ 4096)) (sym count) held.whole.count; bytes = bytes };
      first = same ∙ held.first;
      words = λ a low high.
          let first : first_word R ≤ a = omega (arith, low, same) in
          rom_there S a low high ∙ ap (λ f. Some (word_in S (a - f))) same ∙ ap Some (behind_at before given R S a held.whole put first high (held.words a first high));
    }

-- bytes that fit
pub all_fit : (R : List ℕ) → ((i : ℕ) → get_or R i 0 < 256) → All (λ byte. byte < 256) R
all_fit R fits = λ k d low. subst (λ b. b < 256) (sym (get_or_default R k d 0 low)) (fits k)

-- what is held, and that something was stated
stated_now : (rom : RomText) (held : RomReading) → held.is_stated ≡ true → (rom ≡ unstated → ⊥) → IsFalse held.is_stated ↔ (rom ≡ unstated)
stated_now rom held is other = (λ none. absurd cc, λ none. absurd (other none))

map_is_stated : (first : ℕ) → stated_rom (Some first) [] ≡ unstated → ⊥
map_is_stated first e = let is = ap (λ rom. rom.map) e in absurd (none-some first (sym is))

words_are_stated : (map : Option ℕ) (before : List RomLine) (given : RomLine) → stated_rom map (before ++ given ∷ []) ≡ unstated → ⊥
words_are_stated map before given e = let count = ap length (ap (λ rom. rom.given) e) in absurd (omega (arith, length-append before (given ∷ [])))

-- the line of a map was read
pub map_stated : (rom : RomText) (line : List ℕ) (old new : RomReading) (first : ℕ) → HoldsRom rom old → IsFalse old.is_stated → IsMapLine first line → new.is_stated ≡ true → AreReturns new.bytes.items (0xC00 - first) → TellsMore rom line new
map_stated rom line old new first holds none is stated returns = record {
  now = stated_rom (Some first) [];
  tells = rw (holds.stated.0 none) (tells_map is);
  holds = record { is_rom = returns_held new.bytes.items first (Some first) refl (first_of_map is) returns; stated = stated_now (stated_rom (Some first) []) new stated (map_is_stated first) };
}

first_is : (rom : RomText) (held : RomReading) (first : ℕ) → HoldsRom rom held → first + length held.bytes.items / 2 ≡ 0xC00 → first ≡ first_stated rom.map
first_is rom held first holds e = let all = words_from_first held.bytes.items holds.is_rom.whole in let is = holds.is_rom.first in omega (arith, all, is, e)

-- bytes of which each was written
refilled : (xs ws : List ℕ) → length ws ≡ length xs → refill (length xs) xs ws ≡ ws
refilled xs ws size =
    ap (λ rest. take (length xs) (ws ++ rest)) (drop_all (length ws) xs (omega (arith, size))) ∙ ap (take (length xs)) (append-nil ws) ∙ take_all (length xs) ws (omega (arith, size))

-- a line that gives words was read
pub words_stated : (rom : RomText) (line : List ℕ) (old new : RomReading) (given : RomLine) (first : ℕ) (lent bytes : List ℕ) → HoldsRom rom old → first + length old.bytes.items / 2 ≡ 0xC00 → IsRomLine first given line
    → lent ≡ old.bytes.items → IsAfterLine given first lent bytes → ((i : ℕ) → get_or bytes i 0 < 256) → new.bytes.items ≡ refill (length old.bytes.items) old.bytes.items bytes → new.is_stated ≡ true → TellsMore rom line new
words_stated rom line old new given first lent bytes holds e is lends put fits written stated =
    let behind = subst (λ lent. IsAfterLine given first lent bytes) lends put in
    let whole : new.bytes.items ≡ bytes = written ∙ refilled old.bytes.items bytes behind.count in
    let at = first_is rom old first holds e in
    record {
      now = stated_rom rom.map (rom.given ++ given ∷ []);
      tells = gives_words given (subst (λ first. IsRomLine first given line) at is);
      holds = record {
        is_rom = subst (IsRomOf (stated_rom rom.map (rom.given ++ given ∷ []))) (sym whole) (words_held rom.map rom.given given old.bytes.items bytes first at holds.is_rom behind (all_fit bytes fits));
        stated = stated_now (stated_rom rom.map (rom.given ++ given ∷ [])) new stated (words_are_stated rom.map rom.given given);
      };
    }

-- a line that tells nothing
pub nothing_stated : (rom now : RomText) (line : List ℕ) (held : RomReading) (first : ℕ) → HoldsRom rom held → first + length held.bytes.items / 2 ≡ 0xC00 → ((first : ℕ) → ¬ IsMapLine first line) → ((given : RomLine) → ¬ IsRomLine first given line) → ¬ TellsRom rom line now
nothing_stated rom now line held first holds e no_map no_rom (tells_map {first = other} m) = no_map other m
nothing_stated rom now line held first holds e no_map no_rom (gives_words g h) = no_rom g (subst (λ first. IsRomLine first g line) (sym (first_is rom held first holds e)) h)
