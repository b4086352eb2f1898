use Rattle.dvg_blame.specs.Refusals.{IsGood}
use Rattle.dvg_blame.proofs.Lists.{all_at, all_in}
use Rattle.dvg_blame.proofs.Described.{fault_at}
use Rattle.dvg_blame.proofs.checking.check_all.Goals as goal

pub returns-in-Err-clause-refused : goal.returns-in-Err-clause-refused
returns-in-Err-clause-refused g c =
    fault_at c.args.names.now c.args.frames.now c.loop-frame.frame-index c.frame-item.result c.loop-frame-test.true c.frame-item.is c.args.rom.now c.loop-frame.invariant
    c.in-Err.unlaid c.in-Err.ensures.refused

pub loop-frame-preserved : goal.loop-frame-preserved
loop-frame-preserved g c = all_at (IsGood c.args.rom.now) c.args.frames.now c.loop-frame.frame-index c.frame-item.result c.loop-frame-test.true c.frame-item.is c.loop-frame.invariant c.in_default.ensures.good.0

pub returns-clause-good : goal.returns-clause-good
returns-clause-good g c = all_in (IsGood c.args.rom.now) c.args.frames.now c.loop-frame.frame-index c.loop-frame-test.false c.loop-frame.invariant
