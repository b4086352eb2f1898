use Rattle.dvg_world.proofs.Judging.{goes_on}
use Rattle.dvg_world.proofs.judge.Drawing.after_fetch.Goals as goal

pub returns-in_default : goal.returns-in_default
returns-in_default c = λ run draws. goes_on c.args.self c.in_default.not-Begun (c.args.address, c.args.word) run draws
