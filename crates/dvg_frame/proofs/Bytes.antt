-- The bytes of words, and their addresses.
use Rattle.std.proofs.Common.{◌≡◌, ℕ, zero, suc, ◌+◌, ◌*◌, ◌/◌, ◌%◌, ◌<◌, ◌≤◌, List, [], ◌∷◌, ◌++◌, length, Some, refl, sym, ap, ◌∙◌, inl, inr, arith}
use Rattle.std.specs.Prelude.{◌⊎◌, All, slice_get}
use Rattle.std.proofs.lemmas.List.Elements.{All-cons, All-nil}
use Rattle.std.proofs.lemmas.Option.{slice_get_within}
use Rattle.dvg_frame.specs.Bytes.{IsBehindWordZero, addressed, bytes}

pub bytes-length : (words : List ℕ) → length (bytes words) ≡ 2 * length words
bytes-length [] = refl
bytes-length (word ∷ words) = let rest = bytes-length words in omega arith

-- the two bytes of word j
bytes_of_word : (words : List ℕ) (j word : ℕ) → slice_get words j ≡ Some word
    → (slice_get (bytes words) (2 * j) ≡ Some (word % 256)) × (slice_get (bytes words) (2 * j + 1) ≡ Some (word / 256))
bytes_of_word [] j word is = let within = slice_get_within [] j word is in absurd (omega arith)
bytes_of_word (x ∷ words) zero word is = let same : x ≡ word = cc in (ap (λ y. Some (y % 256)) same, ap (λ y. Some (y / 256)) same)
bytes_of_word (x ∷ words) (suc j) word is =
    let rest = bytes_of_word words j word is in
    let low : 2 * suc j ≡ suc (suc (2 * j)) = omega arith in
    let high : 2 * suc j + 1 ≡ suc (suc (2 * j + 1)) = omega arith in
    (ap (slice_get (bytes (x ∷ words))) low ∙ rest.0, ap (slice_get (bytes (x ∷ words))) high ∙ rest.1)

zero_or_one : (n : ℕ) → n < 2 → (n ≡ 0) ⊎ (n ≡ 1)
zero_or_one zero low = inl refl
zero_or_one (suc zero) low = inr refl
zero_or_one (suc (suc n)) low = absurd (omega arith)

-- byte k is one of the two bytes of word k / 2
pub byte_in_word : (words : List ℕ) (k word byte : ℕ) → slice_get words (k / 2) ≡ Some word → slice_get (bytes (word ∷ [])) (k % 2) ≡ Some byte → slice_get (bytes words) k ≡ Some byte
byte_in_word words k word byte word_is byte_is =
    let both = bytes_of_word words (k / 2) word word_is in
    elim (zero_or_one (k % 2) (omega arith)) [
      | inl even ↦ (let double : k ≡ 2 * (k / 2) = omega arith in ap (slice_get (bytes words)) double ∙ both.0 ∙ ap (slice_get (bytes (word ∷ []))) (sym even) ∙ byte_is)
      | inr odd ↦ (let double : k ≡ 2 * (k / 2) + 1 = omega arith in ap (slice_get (bytes words)) double ∙ both.1 ∙ ap (slice_get (bytes (word ∷ []))) (sym odd) ∙ byte_is)
    ]

pub bytes-append : (words more : List ℕ) → bytes (words ++ more) ≡ bytes words ++ bytes more
bytes-append [] more = refl
bytes-append (word ∷ words) more = ap (λ rest. (word % 256) ∷ (word / 256) ∷ rest) (bytes-append words more)

pub addressed-length : (a : ℕ) (bs : List ℕ) → length (addressed a bs) ≡ length bs
addressed-length a [] = refl
addressed-length a (byte ∷ bs) = ap suc (addressed-length (suc a) bs)

pub addressed_in_ram : (a : ℕ) (bs : List ℕ) → 2 ≤ a → a + length bs ≤ 0x800 → All IsBehindWordZero (addressed a bs)
addressed_in_ram a [] low high = All-nil IsBehindWordZero
addressed_in_ram a (byte ∷ bs) low high = All-cons IsBehindWordZero (a, byte) (addressed (suc a) bs) (low, omega arith) (addressed_in_ram (suc a) bs (omega arith) (omega arith))
