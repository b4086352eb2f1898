use Rattle.dvg_calls_6502.proofs.BuiltFrame.{built_accepted}
use Rattle.dvg_calls_6502.proofs.built_accepted.Goals as goal

pub returns : goal.returns
returns c = built_accepted
