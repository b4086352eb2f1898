use Rattle.dvg_blame.specs.Refusals.{NamesHighRom}
use Rattle.dvg_blame.proofs.Lists.{all_at, all_in}
use Rattle.dvg_blame.proofs.Described.{low_at, unlaid_weaker}
use Rattle.dvg_blame.proofs.checking.check_low_words.Goals as goal

pub returns-in-Some-clause-refused : goal.returns-in-Some-clause-refused
returns-in-Some-clause-refused g c =
    low_at c.args.names.now c.args.frames.now c.loop-frame.frame-index c.frame-item.result c.loop-frame-test.true c.frame-item.is c.loop-frame.invariant c.tell.result
    (unlaid_weaker _ _ (λ refusal described. (c.in-Some.i, c.in-Some.ensures, described.0, described.1)) c.tell.result c.tell.ensures)

pub loop-frame-preserved : goal.loop-frame-preserved
loop-frame-preserved g c = all_at NamesHighRom c.args.frames.now c.loop-frame.frame-index c.frame-item.result c.loop-frame-test.true c.frame-item.is c.loop-frame.invariant c.in_default.ensures

pub returns-clause-expressible : goal.returns-clause-expressible
returns-clause-expressible g c = all_in NamesHighRom c.args.frames.now c.loop-frame.frame-index c.loop-frame-test.false c.loop-frame.invariant
