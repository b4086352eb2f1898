use Rattle.std.proofs.Common.{arith, refl}
use Rattle.dvg_frame.proofs.Firsts.{misses_at, no_miss}
use Rattle.dvg_frame.proofs.Sizes.{read_op}
use Rattle.dvg_frame.proofs.checking.checks.first_miss.Goals as goal

pub returns-then-names_none : goal.returns-then-names_none
returns-then-names_none c =
    let op = read_op _ _ _ c.loop-i-test.true c.index-draft-i.is in
    (misses_at _ _ _ _ _ op c.kind.ensures.value refl (c.names_none.ensures.0 c.if-names_none.true), c.loop-i.invariant)

pub returns : goal.returns
returns c = no_miss _ _ (omega arith) c.loop-i.invariant
