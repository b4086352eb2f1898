use Rattle.dvg_moment.proofs.JudgeAfterLog.{low_left}
use Rattle.dvg_moment.proofs.judge.MomentJudge.low.Goals as goal

pub returns : goal.returns
returns c = λ log stands. low_left c.args.self.now c.read_byte.new.self log c.args.address c.from.result c.args.byte stands c.from.ensures c.read_byte.ensures
