use Rattle.dvg_tool.proofs.PrefixDecides.{finds_bound}
use Rattle.dvg_tool.proofs.checks.BoundEngineEngine.find.Goals as goal

pub returns : goal.returns
returns g c = finds_bound c.args.read.now c.judge.result c.judge.ensures.said c.judge.ensures.fault
