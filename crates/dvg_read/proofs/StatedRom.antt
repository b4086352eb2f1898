-- What lines state of a ROM gives a ROM.
use Rattle.std.proofs.Common.{◌≡◌, ◌<◌, ◌+◌, ◌-◌, ◌*◌, ◌/◌, ◌%◌, ◌⊎◌, ⊎_elim, inl, ℕ, zero, suc, List, [], ◌∷◌, ◌++◌, length, refl, sym, ap, ◌∙◌, arith, Bool, true, false, Option, Some, None, All, slice_index, if◌then◌else◌, nat_le, nat_lt}
use Rattle.std.specs.Prelude.{◌&&◌}
use Rattle.std.proofs.lemmas.Bool.{cases_lt}
use Rattle.std.proofs.lemmas.Int.Digits.{digits_value-lt}
use Rattle.std.proofs.lemmas.List.{length-append}
use Rattle.std.proofs.lemmas.List.Elements.{All-append}
use Rattle.std.specs.List.{AllZip}
use Rattle.dvg_code.specs.Words.{IsWord, word_in}
use Rattle.dvg_mem.specs.Memory.{first_word}
use Rattle.dvg_mem.proofs.GrownRom.{word_before, word_behind}
use Rattle.dvg_mem.proofs.Roms.{rom_there}
use Rattle.dvg_read.specs.RomTexts.{IsRomLine, IsRomOf, RomLine, first_stated, mapped, unmapped, word_after}
use Rattle.dvg_read.specs.Texts.{IsHex}
use Rattle.dvg_read.specs.TextLaws.{EachRom}
use Rattle.dvg_read.proofs.HeldRom.{first_of_map, whole_by_count}
use Rattle.dvg_read.proofs.RomSteps.{stated_rom}

-- ---- bytes that have these words

record HasWords (word : ℕ → ℕ) (n : ℕ) (bytes : List ℕ) : Type 0 where
  count : length bytes ≡ 2 * n
  fit : All (λ byte. byte < 256) bytes
  words : (k : ℕ) → k < n → word_in bytes k ≡ word k

pair_fits : (low high : ℕ) → low < 256 → high < 256 → All (λ byte. byte < 256) (low ∷ high ∷ [])
pair_fits low high l h zero d less = l
pair_fits low high l h (suc zero) d less = h
pair_fits low high l h (suc (suc k)) d less = absurd (omega arith)

one_more : (word : ℕ → ℕ) (n : ℕ) (bytes : List ℕ) → IsWord (word n) → HasWords word n bytes → HasWords word (suc n) (bytes ++ (word n % 256) ∷ (word n / 256) ∷ [])
one_more word n bytes small has = record {
  count = let size = has.count in length-append bytes _ ∙ omega arith;
  fit = All-append (λ byte. byte < 256) _ _ has.fit (pair_fits (word n % 256) (word n / 256) (omega arith) (omega (arith, small)));
  words = λ k less. let size = has.count in ⊎_elim
      (λ before. word_before bytes _ k (omega arith) ∙ has.words k before)
      (λ last. let at : k ≡ n + 0 = omega arith in
      let same : k ≡ n = omega arith in
      let whole : (word n % 256) + 256 * (word n / 256) ≡ word n = omega arith in
      ap (word_in (bytes ++ (word n % 256) ∷ (word n / 256) ∷ [])) at ∙ word_behind bytes _ n 0 size ∙ whole ∙ ap word (sym same))
      (cases_lt k n);
}

some_bytes : (word : ℕ → ℕ) → ((k : ℕ) → IsWord (word k)) → (n : ℕ) → (bytes : List ℕ) × HasWords word n bytes
some_bytes word small zero = ([], record { count = refl; fit = λ k d less. absurd (omega arith); words = λ k less. absurd (omega arith) })
some_bytes word small (suc n) = let (bytes, has) = some_bytes word small n in (bytes ++ (word n % 256) ∷ (word n / 256) ∷ [], one_more word n bytes (small n) has)

-- ---- the words that lines give have 16 bits

hex_fits : (word : ℕ) (digits : List ℕ) → IsHex 4 word digits → IsWord word
hex_fits word digits h = let small = digits_value-lt 16 digits h.digits in let size = rw h.size at small in omega (arith, size, h.value)

at_place : (words : List ℕ) (spelled : List (List ℕ)) → AllZip (λ word part. IsHex 4 word part) words spelled → (k : ℕ) → IsWord (slice_index words k)
at_place [] spelled h k = omega arith
at_place (word ∷ words) [] h k = absurd h
at_place (word ∷ words) (part ∷ spelled) h zero = hex_fits word part h.0
at_place (word ∷ words) (part ∷ spelled) h (suc k) = at_place words spelled h.1 k

either : (b : Bool) (x y : ℕ) → IsWord x → IsWord y → IsWord (if b then x else y)
either true x y one other = one
either false x y one other = other

all_fit : (first : ℕ) (given : List RomLine) (ls : List (List ℕ)) → AllZip (IsRomLine first) given ls → (a word : ℕ) → IsWord word → IsWord (word_after given a word)
all_fit first [] ls h a word small = small
all_fit first (line ∷ given) [] h a word small = absurd h
all_fit first (line ∷ given) (l ∷ ls) h a word small =
    all_fit first given ls h.1 a _
    (either (nat_le line.address a && nat_lt a (line.address + length line.words)) _ word (at_place line.words h.0.spelled h.0.words (a - line.address)) small)

-- ---- so there are bytes of a ROM

module _ (map : Option ℕ) (given : List RomLine) (ls : List (List ℕ)) (one : (first_stated map ≡ 0x800) ⊎ (first_stated map ≡ 0x400)) (spelled : AllZip (IsRomLine (first_stated map)) given ls) where
  abbrev word : ℕ → ℕ
  word k = word_after given (first_stated map + k) 0xD000

  is_rom : (R : List ℕ) → HasWords word (0xC00 - first_stated map) R → IsRomOf (stated_rom map given) R
  is_rom R has =
      let (whole, first) = whole_by_count R (first_stated map) one has.count has.fit in
      record {
        whole = whole;
        first = first;
        words = λ a low high.
            let at : first_stated map + (a - first_word R) ≡ a = omega (arith, first, low) in
            rom_there R a low high ∙ ap Some (has.words (a - first_word R) (omega (arith, first, low, high)) ∙ ap (λ a. word_after given a 0xD000) at);
      }

  by_lines : (R : List ℕ) × IsRomOf (stated_rom map given) R
  by_lines =
      let (R, has) = some_bytes word (λ k. all_fit (first_stated map) given ls spelled (first_stated map + k) 0xD000 (omega arith)) (0xC00 - first_stated map) in
      (R, is_rom R has)

pub each_rom : EachRom
each_rom rom ls (unmapped {given = given} h) = by_lines None given ls (inl refl) h
each_rom rom (line ∷ ls) (mapped {first = first} {given = given} m h) = by_lines (Some first) given ls (first_of_map m) h
