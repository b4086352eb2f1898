use Rattle.std.proofs.Common.{◌≡◌, ◌+◌, false, get_or, sym, ◌∙◌, ap, arith, inl, inr}
use Rattle.std.proofs.Math.Nat.{eq-or-lt_of_le}
use Rattle.std.proofs.lemmas.Bool.{ne_eqb}
use Rattle.std.specs.Prelude.{nat_eq}
use Rattle.dvg_game_check.proofs.Knows.{has_at, has_none}
use Rattle.dvg_game_check.proofs.known.contains.Goals as goal

pub returns-then-list-i : goal.returns-then-list-i
returns-then-list-i c = sym (has_at c.args.list.now c.loop-i.i c.args.n (omega arith) c.if-list-i.true)

pub loop-i-preserved : goal.loop-i-preserved
loop-i-preserved c k h =
    elim (eq-or-lt_of_le {n = k} {m = c.loop-i.i} (omega (arith, h))) as (λ _. nat_eq (get_or c.args.list.now k 0) c.args.n ≡ false) [
      | inl same ↦ ap (λ m. nat_eq (get_or c.args.list.now m 0) c.args.n) same
          ∙ ne_eqb (get_or c.args.list.now c.loop-i.i 0) c.args.n c.if-list-i.false
      | inr less ↦ c.loop-i.invariant k less
    ]

pub returns : goal.returns
returns c = sym (has_none c.args.list.now c.args.n (λ k h. c.loop-i.invariant k (omega (arith, h))))
