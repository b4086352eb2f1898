use Rattle.dvg_blame.specs.Refusals.{NamesHighWord}
use Rattle.dvg_blame.proofs.Lists.{all_at, all_in}
use Rattle.dvg_blame.proofs.checking.first_low.Goals as goal

pub loop-i-preserved : goal.loop-i-preserved
loop-i-preserved c = all_at NamesHighWord c.args.ops.now c.loop-i.i c.index-ops-i.result c.loop-i-test.true c.index-ops-i.is c.loop-i.invariant (c.names_high_word.ensures.0 c.if-not-names_high_word.false)

pub returns : goal.returns
returns c = all_in NamesHighWord c.args.ops.now c.loop-i.i c.loop-i-test.false c.loop-i.invariant
