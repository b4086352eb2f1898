-- The place of a table moves on.
use Rattle.std.proofs.Common.{◌≡◌, ◌≢◌, ℕ, suc, ◌+◌, ◌-◌, ◌*◌, ◌%◌, ◌<◌, Bool, true, false, not, refl, ap, ◌∙◌, arith}
use Rattle.std.proofs.Common.{eqb-true, eq-eqb}
use Rattle.std.proofs.lemmas.Bool.{eqb-false, ne_eqb}
use Rattle.std.specs.Prelude.{nat_eq}
use Rattle.dvg_calls_6502.proofs.StoredByte.{phase_then, carried}

pub wrapped : (next : ℕ) → next < 256 → nat_eq ((next + 1) % 256) 0 ≡ true → next ≡ 255
wrapped next small is = let e : (next + 1) % 256 ≡ 0 = eqb-true ((next + 1) % 256) 0 is in omega arith

pub not_wrapped : (next : ℕ) → next < 256 → nat_eq ((next + 1) % 256) 0 ≡ false → ((next + 1) % 256 ≡ next + 1)
    × (next < 255)
not_wrapped next small is =
    let e : (next + 1) % 256 ≢ 0 = λ zero. eqb-false ((next + 1) % 256) 0 is zero in
    let low : next < 255 = less next small e in (omega (arith, low), low)
  where
    less : (next : ℕ) → next < 256 → ((next + 1) % 256 ≢ 0) → next < 255
    less next small e = omega (arith, e)

-- what is left
pub left_on : (next pages end more : ℕ) (wrap : Bool) → next < 256 → pages < 256 → end < 256
    → nat_eq ((next + 1) % 256) 0 ≡ wrap → next + suc more ≡ 256 * pages + end
    → (next + 1) % 256 + more ≡ 256 * carried wrap 255 pages + end
left_on next pages end more true n p e is left = let full = wrapped next n is in omega arith
left_on next pages end more false n p e is left = let up = (not_wrapped next n is).0 in omega arith

-- an address moves on by one
pub address_on : (low high next : ℕ) (wrap : Bool) → next < 256 → high < 256 → nat_eq ((next + 1) % 256) 0 ≡ wrap
    → low + 256 * high + next + 1 < 65536
    → low + 256 * carried wrap 1 high + (next + 1) % 256 ≡ low + 256 * high + next + 1
address_on low high next true n h is within = let full = wrapped next n is in omega arith
address_on low high next false n h is within = let up = (not_wrapped next n is).0 in omega arith

pub parity_on : (next : ℕ) (odd : Bool) → nat_eq (next % 2) 1 ≡ odd → nat_eq ((next + 1) % 256 % 2) 1 ≡ not odd
parity_on next true is = let e : next % 2 ≡ 1 = eqb-true (next % 2) 1 is in
    ne_eqb ((next + 1) % 256 % 2) 1 (λ one. absurd (omega arith))
parity_on next false is = let e : next % 2 ≢ 1 = λ one. eqb-false (next % 2) 1 is one in
    let f : (next + 1) % 256 % 2 ≡ 1 = flips next e in eq-eqb ((next + 1) % 256 % 2) 1 f
  where
    flips : (next : ℕ) → next % 2 ≢ 1 → (next + 1) % 256 % 2 ≡ 1
    flips next e = omega (arith, e)

-- where bytes are left, the phase stays
pub stays : (up pages end more publish : ℕ) → up < 256 → end < 256 → up + suc more ≡ 256 * pages + end
    → phase_then (nat_eq ((up + 256 - end) % 256) 0) (nat_eq pages 0) publish ≡ 0x80
stays up pages end more publish u e left = by (nat_eq ((up + 256 - end) % 256) 0) (nat_eq pages 0) refl refl
  where
    by : (ends last : Bool) → nat_eq ((up + 256 - end) % 256) 0 ≡ ends → nat_eq pages 0 ≡ last
        → phase_then ends last publish ≡ 0x80
    by false last is also = refl
    by true false is also = refl
    by true true is also = let same : (up + 256 - end) % 256 ≡ 0 = eqb-true ((up + 256 - end) % 256) 0 is in
        let none : pages ≡ 0 = eqb-true pages 0 also in absurd (omega arith)

-- where none is left, the frame is published
pub done : (up pages end publish : ℕ) → up < 256 → end < 256 → up + 0 ≡ 256 * pages + end
    → phase_then (nat_eq ((up + 256 - end) % 256) 0) (nat_eq pages 0) publish ≡ publish
done up pages end publish u e left =
    let none : pages ≡ 0 = omega arith in
    let same : (up + 256 - end) % 256 ≡ 0 = omega arith in
    ap (λ (t : Bool). phase_then t (nat_eq pages 0) publish) (eq-eqb ((up + 256 - end) % 256) 0 same)
    ∙ ap (λ (t : Bool). phase_then true t publish) (eq-eqb pages 0 none)
