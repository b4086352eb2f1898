use Rattle.std.proofs.Common.{◌-◌, arith}
use Rattle.dvg_game_check.proofs.Loops.{code_true}
use Rattle.dvg_game_check.proofs.States.{under_set}
use Rattle.dvg_game_check.proofs.maker.put.Goals as goal

pub returns : goal.returns
returns c notes under here =
    under_set c.args.states.now (c.args.at - 0x6A87) c.args.at c.args.state notes (omega arith) (omega arith)
    (code_true c.args.at (omega arith) (omega arith)) under here
