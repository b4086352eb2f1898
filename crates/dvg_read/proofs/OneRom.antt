-- What is stated of a ROM gives one ROM at most.
use Rattle.std.proofs.Common.{◌≡◌, ◌<◌, ◌+◌, ◌-◌, ◌*◌, ◌/◌, ℕ, List, get_or, length, Some, ⊎_elim, sym, ap, ◌∙◌, arith, refl}
use Rattle.std.proofs.lemmas.Bool.{cases_lt}
use Rattle.std.proofs.lemmas.List.{ext_get_or}
use Rattle.std.proofs.lemmas.List.Elements.{All-get_or}
use Rattle.dvg_code.specs.Words.{word_in}
use Rattle.dvg_mem.specs.Memory.{IsRom, first_word, rom_word}
use Rattle.dvg_mem.proofs.Roms.{rom_there, words_from_first}
use Rattle.dvg_read.specs.RomTexts.{IsRomOf, RomText}

byte_of : (R : List ℕ) (i : ℕ) → IsRom R → i < length R → get_or R i 0 < 256
byte_of R i rom low = All-get_or (λ byte. byte < 256) R i 0 low rom.bytes

-- two bytes make one word
same_pair : (R S : List ℕ) (k : ℕ) → IsRom R → IsRom S → 2 * k + 1 < length R → 2 * k + 1 < length S → word_in R k ≡ word_in S k → (get_or R (2 * k) 0 ≡ get_or S (2 * k) 0) × (get_or R (2 * k + 1) 0 ≡ get_or S (2 * k + 1) 0)
same_pair R S k one other low high e =
    let a = byte_of R (2 * k) one (omega arith) in
    let b = byte_of R (2 * k + 1) one low in
    let c = byte_of S (2 * k) other (omega arith) in
    let d = byte_of S (2 * k + 1) other high in
    (omega arith, omega arith)

same_byte : (R S : List ℕ) (i : ℕ) → IsRom R → IsRom S → 2 * (i / 2) + 1 < length R → 2 * (i / 2) + 1 < length S → word_in R (i / 2) ≡ word_in S (i / 2) → get_or R i 0 ≡ get_or S i 0
same_byte R S i one other low high e =
    let pair = same_pair R S (i / 2) one other low high e in
    ⊎_elim
    (λ even. let at : 2 * (i / 2) ≡ i = omega arith in ap (λ k. get_or R k 0) (sym at) ∙ pair.0 ∙ ap (λ k. get_or S k 0) at)
    (λ odd. let at : 2 * (i / 2) + 1 ≡ i = omega arith in ap (λ k. get_or R k 0) (sym at) ∙ pair.1 ∙ ap (λ k. get_or S k 0) at)
    (cases_lt i (2 * (i / 2) + 1))

same_words : (R S : List ℕ) (n : ℕ) → IsRom R → IsRom S → length R ≡ 2 * n → length S ≡ 2 * n → ((k : ℕ) → k < n → word_in R k ≡ word_in S k) → R ≡ S
same_words R S n one other size also e =
    ext_get_or 0 R S (omega (arith, size, also)) (λ i low. same_byte R S i one other (omega (arith, size, also)) (omega (arith, size, also)) (e (i / 2) (omega (arith, size, also))))

word_at_place : (R : List ℕ) (k first : ℕ) → first_word R ≡ first → first + k < 0xC00 → rom_word R (first + k) ≡ Some (word_in R k)
word_at_place R k first is low =
    let place : first + k - first_word R ≡ k = omega arith in
    rom_there R (first + k) (omega arith) low ∙ ap (λ k. Some (word_in R k)) place

-- the same text gives the same ROM
pub one_rom : (rom : RomText) (R S : List ℕ) → IsRomOf rom R → IsRomOf rom S → S ≡ R
one_rom rom R S h k =
    let a = words_from_first R h.whole in
    let b = words_from_first S k.whole in
    let same : first_word S ≡ first_word R = k.first ∙ sym h.first in
    same_words S R (0xC00 - first_word R) k.whole h.whole (omega (arith, a, b, same)) (omega (arith, a)) (λ i low.
    let p = h.words (first_word R + i) (omega arith) (omega arith) in
    let q = k.words (first_word R + i) (omega (arith, same)) (omega arith) in
    let r = word_at_place R i (first_word R) refl (omega arith) in
    let s = word_at_place S i (first_word R) same (omega arith) in
    cc)
