-- From what was read to what the reader had.
use Rattle.std.proofs.Common.{◌≡◌, ℕ, ◌+◌, ◌*◌, ◌%◌, ◌<◌, ◌≤◌, ◌⊎◌, ⊎_elim, inl, inr, [], ◌∷◌, List, Option, None, Some, IfSome, refl, length, take, length-take, take_all, ap, ◌∙◌, arith}
use Rattle.std.proofs.lemmas.Bool.{cases_lt}
use Rattle.dvg_code.specs.Words.{words_of}

-- what was read is the input, or a front of it that is one byte too long
abbrev pub Read : ℕ → Option (List ℕ) → List ℕ → Type 0
Read most known read = IfSome known (λ input. read ≡ take (most + 1) input)

pub whole : (most : ℕ) (read input : List ℕ) → read ≡ take (most + 1) input → length read ≤ most → read ≡ input
whole most read input e h =
    let short : length input ≤ most + 1 = omega (arith, ap length e, length-take (most + 1) input) in
    e ∙ take_all (most + 1) input short

pub too_long : (most : ℕ) (known : Option (List ℕ)) (read : List ℕ) → Read most known read → most < length read → IfSome known (λ input. most < length input)
too_long most None read e h = tt
too_long most (Some input) read e h = omega (arith, ap length e, length-take (most + 1) input)

-- each word is two bytes
pub length-words_of : (bytes : List ℕ) → length bytes % 2 ≡ 0 → 2 * length (words_of bytes) ≡ length bytes
length-words_of [] even = refl
length-words_of (low ∷ []) even = absurd (omega arith)
length-words_of (low ∷ high ∷ bytes) even = let rest = length-words_of bytes (omega arith) in omega arith

-- what was read is the whole input, or both are too long
pub whole_or_long : (most : ℕ) (read input : List ℕ) → read ≡ take (most + 1) input → (read ≡ input) ⊎ ((most < length read) × (most < length input))
whole_or_long most read input e = ⊎_elim
    (λ fits. inl (whole most read input e (omega arith)))
    (λ over. inr (omega arith, omega (arith, ap length e, length-take (most + 1) input)))
    (cases_lt (length read) (most + 1))
