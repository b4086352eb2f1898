use Rattle.dvg_moment.proofs.JudgeAfterLog.{fetched_left}
use Rattle.dvg_moment.proofs.judge.MomentJudge.fetched.Goals as goal

pub returns : goal.returns
returns c = λ log stands. fetched_left c.args.self.now c.read_word.new.self log c.args.address c.args.word stands c.read_word.ensures
