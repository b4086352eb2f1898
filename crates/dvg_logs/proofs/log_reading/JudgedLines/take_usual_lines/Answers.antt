use Rattle.std.proofs.Common.{refl}
use Rattle.dvg_logs.proofs.NumberLines.{one_taken}
use Rattle.dvg_logs.proofs.log_reading.JudgedLines.take_usual_lines.Goals as goal

pub loop-self-preserved : goal.loop-self-preserved
loop-self-preserved g c = one_taken c.loop-self.invariant c.in-Some.ensures.taken (c.in-Some.ensures.count refl)
