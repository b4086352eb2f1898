use Rattle.std.proofs.Common.{◌≡◌, ◌⊎◌, inl, inr, Bool, true, false, not, ℕ, ap}
use Rattle.dvg_frame.specs.declared.op.OpKind.{OpKind}
use Rattle.dvg_frame.specs.declared.op.OpKind.TheVariants.{Call, Jump}
use Rattle.dvg_rows.specs.Rows.{plainly}
use Rattle.dvg_named.proofs.reading.is_without_number.Goals as goal
use Rattle.dvg_named.proofs.reading.is_without_number.Goals.{in-Call, in_default}

-- one that has a number may not stand
numbered : (kind : OpKind) → ((n : ℕ) × kind ≡ Call n) ⊎ ((n : ℕ) × kind ≡ Jump n)
    → ((n : ℕ) → (plainly kind ≡ plainly (Call n) → ⊥) × (plainly kind ≡ plainly (Jump n) → ⊥)) → ⊥
numbered kind (inl (n, e)) none = (none n).0 (ap plainly e)
numbered kind (inr (n, e)) none = (none n).1 (ap plainly e)

same_kind : (kind other : OpKind) → plainly kind ≡ plainly other → kind ≡ other
same_kind kind other e = cc

not_both : (b : Bool) → not b ≡ true → b ≡ true → ⊥
not_both true e f = cc
not_both false e f = cc

pub returns : goal.returns
returns c = elim c.match-matches.branch [
  | in-Call w ↦
      (λ yes. absurd (not_both c.match-matches.matches yes w.matches-is), λ may. absurd (numbered c.args.kind w.in-Call.is may))
  | in_default w ↦ (
    λ yes n.
        (λ e. w.in_default.not-Call n (same_kind c.args.kind (Call n) e), λ e. w.in_default.not-Jump n (same_kind c.args.kind (Jump n) e)),
    λ may. ap not w.matches-is,
  )
]
