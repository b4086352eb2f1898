-- A magnitude that counts 256 times as much moves counters as one that is 256 times as large.
use Rattle.std.proofs.Common.{◌≡◌, ℕ, zero, suc, ◌*◌, pos, ◌*ℤ◌, neg_ℤ, sym, ap, ◌∙◌, arith}
use Rattle.dvg_code.specs.Fields.{signed}
use Rattle.dvg_gen.specs.declared.counters.Counters.{Counters}
use Rattle.dvg_gen.specs.Counting.{rounded, counted, stepped}

same : (e u : ℕ) → e * (256 * u) ≡ 256 * e * u
same e u = omega arith

scaled : (from s e d u : ℕ) → d ≡ 256 * e → counted from (rounded (signed s e *ℤ pos (256 * u))) ≡ counted from (rounded (signed s d *ℤ pos u))
scaled from zero e d u is = ap (λ n. counted from (rounded (pos n))) (same e u ∙ ap (λ d. d * u) (sym is))
scaled from (suc s) zero d u is = by d is
  where
    by : (d : ℕ) → d ≡ 256 * 0 → counted from (rounded (signed (suc s) 0 *ℤ pos (256 * u))) ≡ counted from (rounded (signed (suc s) d *ℤ pos u))
    by zero is = let none : 0 * (256 * u) ≡ 0 * u = omega arith in ap (λ n. counted from (rounded (pos n))) none
    by (suc k) is = absurd (omega arith)
scaled from (suc s) (suc e) d u is = by d is
  where
    by : (d : ℕ) → d ≡ 256 * suc e → counted from (rounded (signed (suc s) (suc e) *ℤ pos (256 * u))) ≡ counted from (rounded (signed (suc s) d *ℤ pos u))
    by zero is = absurd (omega arith)
    by (suc k) is = ap (λ n. counted from (rounded (neg_ℤ (pos n)))) (same (suc e) u ∙ ap (λ d. d * u) (sym is))

pub stepped_to : (old : Counters) (sx sy dx dy ex ey u : ℕ) → dx ≡ 256 * ex → dy ≡ 256 * ey
    → stepped old (signed sx ex *ℤ pos (256 * u)) (signed sy ey *ℤ pos (256 * u)) ≡ stepped old (signed sx dx *ℤ pos u) (signed sy dy *ℤ pos u)
stepped_to old sx sy dx dy ex ey u px py =
    ap (λ k. record { x = k; y = counted old.y (rounded (signed sy ey *ℤ pos (256 * u))) }) (scaled old.x sx ex dx u px)
    ∙ ap (λ k. record { x = counted old.x (rounded (signed sx dx *ℤ pos u)); y = k }) (scaled old.y sy ey dy u py)
