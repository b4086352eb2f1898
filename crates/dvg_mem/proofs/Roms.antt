-- The words of a ROM, and the address of the first one.
use Rattle.std.proofs.Common.{◌≡◌, ◌∙◌, ℕ, ◌+◌, ◌-◌, ◌*◌, ◌<◌, ◌≤◌, inl, inr, ◌⊎◌, ⊎_elim, Bool, true, false, List, length, Option, Some, None, refl, ap, arith, lit≤, nat_le, nat_lt}
use Rattle.std.specs.Prelude.{◌==◌, ◌&&◌, if◌then◌else◌, slice_index}
use Rattle.std.proofs.lemmas.Bool.{cases_lt, le-leb, lt-ltb}
use Rattle.std.proofs.lemmas.Bool.Decides.{nat_tests}
use Rattle.std.proofs.lemmas.List.Elements.{All-get_or}
use Rattle.dvg_code.specs.Words.{IsWord, word_in}
use Rattle.dvg_mem.specs.Memory.{IsImage, IsRom, first_word, rom_word}

low_by : (b : Bool) → 0x400 ≤ (if b then 0x800 else 0x400)
low_by true = lit≤ tt
low_by false = lit≤ tt

-- the first word lies after the RAM
pub behind_ram : (R : List ℕ) → 0x400 ≤ first_word R
behind_ram R = low_by (length R == 2048)

pub small_first : (R : List ℕ) → length R ≡ 2048 → first_word R ≡ 0x800
small_first R size = ap (λ n. if n == 2048 then 0x800 else 0x400) size

-- the content of a RAM is that of a smaller ROM, too
pub small_rom : (R : List ℕ) → IsImage R → IsRom R
small_rom R image = record { count = inl image.count; bytes = image.bytes }

pub large_first : (R : List ℕ) → length R ≡ 4096 → first_word R ≡ 0x400
large_first R size = ap (λ n. if n == 2048 then 0x800 else 0x400) size

-- from it to BFF there are all words
pub words_from_first : (R : List ℕ) → IsRom R → length R + 2 * first_word R ≡ 0x1800
words_from_first R rom =
    ⊎_elim (λ size. let first = small_first R size in omega arith) (λ size. let first = large_first R size in omega arith) rom.count

-- the word at an address from the first one to BFF, which fits
pub rom_there : (R : List ℕ) (a : ℕ) → first_word R ≤ a → a < 0xC00 → rom_word R a ≡ Some (word_in R (a - first_word R))
rom_there R a low high =
    ap (λ b. if b && nat_lt a 0xC00 then Some (word_in R (a - first_word R)) else None) (le-leb (first_word R) a low)
    ∙ ap (λ b. if b then Some (word_in R (a - first_word R)) else None) (lt-ltb a 0xC00 high)

byte_fits : (R : List ℕ) (j : ℕ) → IsRom R → j < length R → slice_index R j < 256
byte_fits R j rom within = All-get_or (λ byte. byte < 256) R j 0 within rom.bytes

pub word_fits : (R : List ℕ) (a : ℕ) → IsRom R → first_word R ≤ a → a < 0xC00 → IsWord (word_in R (a - first_word R))
word_fits R a rom first last =
    let words = words_from_first R rom in
    let low = byte_fits R (2 * (a - first_word R)) rom (omega arith) in
    let high = byte_fits R (2 * (a - first_word R) + 1) rom (omega arith) in
    omega arith

-- where a word is, its address is one of those
tested : (test : Bool) (v w : ℕ) → (if test then Some v else None) ≡ Some w → test ≡ true
tested true v w is = refl
tested false v w is = let none : ◌≡◌ {A = Option ℕ} None (Some w) = is in cc

pub rom_some : (R : List ℕ) (a w : ℕ) → rom_word R a ≡ Some w → (first_word R ≤ a) × (a < 0xC00)
rom_some R a w is =
    let inside = tested (nat_le (first_word R) a && nat_lt a 0xC00) _ w is in
    (grind (arith, nat_tests), grind (arith, nat_tests))

-- where no word is, its address is none of those
pub rom_none : (R : List ℕ) (a : ℕ) → rom_word R a ≡ None → (a < first_word R) ⊎ (0xC00 ≤ a)
rom_none R a none =
    ⊎_elim (λ below. inl below)
    (λ low. ⊎_elim (λ high. let there = rom_there R a low high in absurd (cc)) (λ past. inr past) (cases_lt a 0xC00))
    (cases_lt a (first_word R))

none_found : (found : Option ℕ) → ((w : ℕ) → found ≡ Some w → ⊥) → found ≡ None
none_found None never = refl
none_found (Some w) never = absurd (never w refl)

pub none_there : (R : List ℕ) (a : ℕ) → (a < first_word R) ⊎ (0xC00 ≤ a) → rom_word R a ≡ None
none_there R a outside =
    none_found (rom_word R a)
    (λ w is. let inside = rom_some R a w is in ⊎_elim (λ below. let low = inside.0 in omega arith) (λ past. let high = inside.1 in omega arith) outside)
