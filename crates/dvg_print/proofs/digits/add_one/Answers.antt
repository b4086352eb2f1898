use Rattle.std.proofs.Common.{rules}
use Rattle.dvg_print.proofs.Counting.{counts_up, none_carried, one_carried}
use Rattle.dvg_print.proofs.digits.add_one.Goals as goal

pub loop-at-init : goal.loop-at-init
loop-at-init c = none_carried c.args.bytes.now c.args.count (search rules)

pub loop-at-preserved : goal.loop-at-preserved
loop-at-preserved c =
    one_carried c.args.bytes.now c.loop-at.bytes c.args.count c.loop-at.at c.loop-at.invariant c.loop-at-test.true
    c.if-bytes-at-eq57.true

pub returns-then-bytes-at-lt57 : goal.returns-then-bytes-at-lt57
returns-then-bytes-at-lt57 c _ =
    counts_up c.args.bytes.now c.loop-at.bytes c.args.count c.loop-at.at c.loop-at.invariant c.if-at-gt0.true
    c.if-bytes-at-lt57.true
