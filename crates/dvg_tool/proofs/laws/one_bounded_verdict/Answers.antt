use Rattle.dvg_tool.proofs.OneVerdict.{one_bounded_verdict}
use Rattle.dvg_tool.proofs.laws.one_bounded_verdict.Goals as goal

pub returns : goal.returns
returns c = one_bounded_verdict
