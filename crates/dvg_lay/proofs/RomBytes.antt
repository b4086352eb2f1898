-- The bytes of a ROM, word by word.
use Rattle.std.proofs.Common.{◌≡◌, ◌∙◌, ◌+◌, ◌*◌, ◌-◌, ◌/◌, ◌%◌, ◌<◌, ◌≤◌, ℕ, List, [], ◌∷◌, ◌++◌, All, Some, ap, ap₂, arith, cond, drop, inl, inr, length, refl, subst, sym, ⊎_elim}
use Rattle.std.specs.Int.{byte_at, to_le_bytes, w16}
use Rattle.std.specs.Prelude.{◌⊎◌, nat_eq, slice_index}
use Rattle.std.proofs.lemmas.Option.{same_Some}
use Rattle.std.proofs.lemmas.List.{drop_more}
use Rattle.dvg_code.specs.Words.{word_in}
use Rattle.dvg_mem.specs.Memory.{IsRom, first_word, rom_word}
use Rattle.dvg_mem.proofs.Roms.{rom_there, word_fits}
use Rattle.dvg_blame.proofs.Lists.{grew}

-- the two bytes of word k stand before those of the next
pub word_bytes : (R : List ℕ) (k w : ℕ) → All (λ byte. byte < 256) R → 2 * k + 1 < length R → w ≡ word_in R k
    → drop (2 * k) R ≡ (w % 256) ∷ (w / 256) ∷ drop (2 * (k + 1)) R
word_bytes R k w all within is =
    let low = all (2 * k) 0 (omega arith) in
    let high = all (2 * k + 1) 0 within in
    let both : drop (2 * k) R ≡ slice_index R (2 * k) ∷ slice_index R (2 * k + 1) ∷ drop (2 * k + 1 + 1) R =
    drop_more R (2 * k) 0 (omega arith) ∙ ap (λ l. slice_index R (2 * k) ∷ l) (drop_more R (2 * k + 1) 0 within) in
    let next : 2 * k + 1 + 1 ≡ 2 * (k + 1) = omega arith in
    let low_is : slice_index R (2 * k) ≡ w % 256 = omega (arith, low, high, is) in
    let high_is : slice_index R (2 * k + 1) ≡ w / 256 = omega (arith, low, high, is) in
    both ∙ ap₂ (λ a b. a ∷ b ∷ drop (2 * k + 1 + 1) R) low_is high_is ∙ ap (λ n. (w % 256) ∷ (w / 256) ∷ drop n R) next

-- each word of a ROM has two bytes in it
within_rom : (R : List ℕ) (a first : ℕ) → (length R ≡ 2048) ⊎ (length R ≡ 4096) → first ≡ first_word R → first ≤ a → a < 0xC00 → 2 * (a - first) + 1 < length R
within_rom R a first (inl small) is low high =
    let at : first ≡ 0x800 = is ∙ ap (λ n. cond (nat_eq n 2048) 0x800 0x400) small in
    omega (arith, small, at, low, high)
within_rom R a first (inr large) is low high =
    let at : first ≡ 0x400 = is ∙ ap (λ n. cond (nat_eq n 2048) 0x800 0x400) large in
    omega (arith, large, at, low, high)

-- the bytes of a word, the low one first
pub le_bytes_are : (w : ℕ) → w < 65536 → to_le_bytes w16 w ≡ (w % 256) ∷ (w / 256) ∷ []
le_bytes_are w small =
    let low : byte_at 0 w ≡ w % 256 = omega arith in
    let high : byte_at 1 w ≡ w / 256 = omega arith in
    ap₂ (λ a b. a ∷ b ∷ []) low high

-- the word at an address was added
pub word_added : (R : List ℕ) (a w : ℕ) (old new : List ℕ) → IsRom R → first_word R ≤ a → a < 0xC00 → rom_word R a ≡ Some w
    → new ≡ old ++ to_le_bytes w16 w → old ++ drop (2 * (a - first_word R)) R ≡ R → new ++ drop (2 * (a + 1 - first_word R)) R ≡ R
word_added R a w old new rom low high there more before =
    let k = a - first_word R in
    let within : 2 * k + 1 < length R = within_rom R a (first_word R) rom.count refl low high in
    let is : w ≡ word_in R k = same_Some _ _ (sym there ∙ rom_there R a low high) in
    let small : w < 65536 = subst (λ n. n < 65536) (sym is) (word_fits R a rom low high) in
    let next : a + 1 - first_word R ≡ k + 1 = omega (arith, low) in
    let cut : drop (2 * k) R ≡ (w % 256) ∷ (w / 256) ∷ drop (2 * (a + 1 - first_word R)) R =
    word_bytes R k w rom.bytes within is ∙ ap (λ n. (w % 256) ∷ (w / 256) ∷ drop (2 * n) R) (sym next) in
    grew old ((w % 256) ∷ (w / 256) ∷ []) new (drop (2 * (a + 1 - first_word R)) R) R
    (more ∙ ap (λ bytes. old ++ bytes) (le_bytes_are w small)) (ap (λ l. old ++ l) (sym cut) ∙ before)

-- a ROM has an even number of bytes
pub even_rom : (R bytes : List ℕ) → IsRom R → bytes ≡ R → length bytes % 2 ≡ 0
even_rom R bytes rom is = ⊎_elim
    (λ small. let size = ap length is in omega (arith, size, small))
    (λ large. let size = ap length is in omega (arith, size, large))
    rom.count
