use Rattle.std.proofs.Common.{refl}
use Rattle.dvg_moment.proofs.JudgeAfterLog.{at_first}
use Rattle.dvg_moment.proofs.judge.MomentJudge.new.Goals as goal

pub returns : goal.returns
returns c = at_first _ refl refl refl refl refl
