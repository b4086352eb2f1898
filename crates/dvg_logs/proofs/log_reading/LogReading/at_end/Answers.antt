use Rattle.dvg_logs.proofs.LogReads.{whole_said}
use Rattle.dvg_logs.proofs.log_reading.LogReading.at_end.Goals as goal

pub returns : goal.returns
returns g c = λ base said texts fine. whole_said g.J.LineJudge.Ends c.args.self.now.judged c.at_end.result texts fine c.at_end.ensures
