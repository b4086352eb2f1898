-- Digits that are put into a line from its end to its front.
use Rattle.std.proofs.Common.{◌≡◌, ℕ, zero, suc, ◌+◌, ◌-◌, ◌*◌, ◌/◌, ◌%◌, ◌^◌, ◌<◌, ◌≤◌, Bool, true, ◌&&◌, T, eqb, List}
use Rattle.std.proofs.Common.{[], ◌∷◌, ◌++◌, length, set, get_or, drop, ap, ◌∙◌, sym, inl, inr, arith, eq-zero-or-pos}
use Rattle.std.proofs.Common.{eqb→eq, length-set, decimal}
use Rattle.std.proofs.lemmas.Fmt.{length-decimal-le}
use Rattle.std.proofs.lemmas.List.{drop-append-le, drop-drop, drop-set, set_comm}
use lib.Ieee.Fits.{and_l, and_r}
use Rattle.dvg_print.specs.Numbering.{padded}
use Rattle.dvg_print.specs.declared.digits.TheConstants.{PAIRS}
use Rattle.dvg_print.proofs.EightDigits.{length_padded, padded_text}

-- the table has the two digits of each number below n
abbrev has_pairs : ℕ → Bool
has_pairs zero = true
has_pairs (suc n) =
    (eqb (get_or PAIRS (2 * n) 0) (48 + n / 10) && eqb (get_or PAIRS (2 * n + 1) 0) (48 + n % 10)) && has_pairs n

pair_below : (n pair : ℕ) → T (has_pairs n) → pair < n
    → (get_or PAIRS (2 * pair) 0 ≡ 48 + pair / 10) × (get_or PAIRS (2 * pair + 1) 0 ≡ 48 + pair % 10)
pair_below zero pair has low = absurd (omega arith)
pair_below (suc n) pair has low =
    elim (eq-zero-or-pos (n - pair)) [
      | inl none ↦ let is : pair ≡ n = omega arith in let here = and_l _ (has_pairs n) has in
          rw is (eqb→eq _ _ (and_l _ _ here), eqb→eq _ _ (and_r _ _ here))
      | inr some ↦ pair_below n pair (and_r _ (has_pairs n) has) (omega arith)
    ]

pub pair_at : (pair : ℕ) → pair < 100
    → (get_or PAIRS (2 * pair) 0 ≡ 48 + pair / 10) × (get_or PAIRS (2 * pair + 1) 0 ≡ 48 + pair % 10)
pair_at pair low = pair_below 100 pair tt low

-- a byte before a place
pub one_put : (bytes : List ℕ) (end byte : ℕ) → 1 ≤ end → end ≤ length bytes
    → drop (end - 1) (set bytes (end - 1) byte) ≡ byte ∷ drop end bytes
one_put bytes end byte some inside =
    let after : end - 1 + 1 ≡ end = omega arith in
    drop-set bytes (end - 1) byte (omega arith) ∙ ap (λ k. byte ∷ drop k bytes) after

-- two bytes before a place
pub two_put : (bytes : List ℕ) (end tens ones : ℕ) → 2 ≤ end → end ≤ length bytes
    → drop (end - 2) (set (set bytes (end - 2) tens) (end - 1) ones) ≡ tens ∷ ones ∷ drop end bytes
two_put bytes end tens ones some inside =
    let next : end - 2 + 1 ≡ end - 1 = omega arith in
    ap (drop (end - 2)) (set_comm bytes (end - 2) (end - 1) tens ones (λ x. omega arith))
    ∙ drop-set (set bytes (end - 1) ones) (end - 2) tens (omega (arith, length-set bytes (end - 1) ones))
    ∙ ap (λ k. tens ∷ drop k (set bytes (end - 1) ones)) next
    ∙ ap (λ rest. tens ∷ rest) (one_put bytes end ones (omega arith) inside)

-- a number of at most k digits, by its last k digits with zeros before it
pub digits_put : (k n end : ℕ) (all rest : List ℕ) → n < 2 ^ 64 → length (decimal n) ≤ k → k ≤ end
    → drop (end - k) all ≡ padded k n ++ rest
    → drop (end - length (decimal n)) all ≡ decimal n ++ rest
digits_put k n end all rest small few room put =
    let count = length (decimal n) in
    let from : end - k + (k - count) ≡ end - count = omega (arith, few, room) in
    sym (ap (λ at. drop at all) from)
    ∙ sym (drop-drop (k - count) (end - k) all)
    ∙ ap (drop (k - count)) put
    ∙ drop-append-le (k - count) (padded k n) rest (omega (arith, length_padded k n))
    ∙ ap (λ text. text ++ rest) (padded_text k n small few)

-- two digits
pub tiny_put : (n end : ℕ) (all rest : List ℕ) → n < 100 → 2 ≤ end
    → drop (end - 2) all ≡ (48 + n / 10) ∷ (48 + n % 10) ∷ rest
    → drop (end - length (decimal n)) all ≡ decimal n ++ rest
tiny_put n end all rest small room put =
    let tens : n / 10 ≡ n / 10 % 10 = omega arith in
    digits_put 2 n end all rest (omega arith) (length-decimal-le 2 n (omega arith) (omega arith) (omega arith)) room
    (put ∙ (λ i. (48 + tens i) ∷ (48 + n % 10) ∷ rest))

-- four digits, two by two
pub small_put : (n end : ℕ) (bytes low all : List ℕ) → n < 10000 → 4 ≤ end
    → drop (end - 2) low ≡ (48 + n % 100 / 10) ∷ (48 + n % 100 % 10) ∷ drop end bytes
    → drop (end - 2 - 2) all ≡ (48 + n / 100 / 10) ∷ (48 + n / 100 % 10) ∷ drop (end - 2) low
    → drop (end - length (decimal n)) all ≡ decimal n ++ drop end bytes
small_put n end bytes low all small room last first =
    let four : end - 2 - 2 ≡ end - 4 = omega arith in
    let d0 : n / 100 / 10 ≡ n / 10 / 10 / 10 % 10 = omega arith in
    let d1 : n / 100 % 10 ≡ n / 10 / 10 % 10 = omega arith in
    let d2 : n % 100 / 10 ≡ n / 10 % 10 = omega arith in
    let d3 : n % 100 % 10 ≡ n % 10 = omega arith in
    digits_put 4 n end all (drop end bytes) (omega arith)
    (length-decimal-le 4 n (omega arith) (omega arith) (omega arith)) room
    (
    sym (ap (λ at. drop at all) four) ∙ first ∙ ap (λ l. (48 + n / 100 / 10) ∷ (48 + n / 100 % 10) ∷ l) last
    ∙ (λ i. (48 + d0 i) ∷ (48 + d1 i) ∷ (48 + d2 i) ∷ (48 + d3 i) ∷ drop end bytes)
    )

-- what stands after a byte that was put
pub after_put : (bytes all : List ℕ) (at end byte : ℕ) → at + 1 ≡ end → drop at all ≡ byte ∷ drop end bytes
    → drop end all ≡ drop end bytes
after_put bytes all at end byte next put =
    let past : at + 1 ≡ end = next in
    sym (ap (λ n. drop n all) past) ∙ sym (drop-drop 1 at all) ∙ ap (drop 1) put
