-- The words of bytes.
use Rattle.std.proofs.Common.{◌≡◌, ℕ, zero, suc, ◌+◌, ◌*◌, ◌<◌, List, [], ◌∷◌, length, slice_index, refl, sym, ap, ◌∙◌, arith}
use Rattle.std.specs.List.{AllByRecursion}
use Rattle.std.proofs.lemmas.List.Elements.{All-from_recursion, recursion_from_All}
use Rattle.dvg_code.specs.Words.{AreBytes, AreWords, IsWord, word_in, words_of}

fit : (bytes : List ℕ) → AllByRecursion (λ byte. byte < 256) bytes → AllByRecursion IsWord (words_of bytes)
fit [] h = tt
fit (low ∷ []) h = tt
fit (low ∷ high ∷ bytes) h = let l = h.0 in let u = h.1.0 in (omega arith, fit bytes h.1.1)

-- they have 16 bits
pub words_fit : (bytes : List ℕ) → AreBytes bytes → AreWords (words_of bytes)
words_fit bytes h = All-from_recursion IsWord (words_of bytes) (fit bytes (recursion_from_All (λ byte. byte < 256) bytes h))

-- and stand in order
pub word_k : (bytes : List ℕ) (k : ℕ) → 2 * k + 1 < length bytes → slice_index (words_of bytes) k ≡ word_in bytes k
word_k [] k h = absurd (omega arith)
word_k (low ∷ []) k h = absurd (omega arith)
word_k (low ∷ high ∷ bytes) zero h = refl
word_k (low ∷ high ∷ bytes) (suc k) h =
    let even : 2 * suc k ≡ suc (suc (2 * k)) = omega arith in
    let odd : 2 * suc k + 1 ≡ suc (suc (2 * k + 1)) = omega arith in
    let low_is : slice_index (low ∷ high ∷ bytes) (2 * suc k) ≡ slice_index bytes (2 * k) = ap (slice_index (low ∷ high ∷ bytes)) even in
    let high_is : slice_index (low ∷ high ∷ bytes) (2 * suc k + 1) ≡ slice_index bytes (2 * k + 1) = ap (slice_index (low ∷ high ∷ bytes)) odd in
    word_k bytes k (omega arith) ∙ sym (ap (λ n. n + 256 * slice_index (low ∷ high ∷ bytes) (2 * suc k + 1)) low_is ∙ ap (λ n. slice_index bytes (2 * k) + 256 * n) high_is)
