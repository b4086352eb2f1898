use Rattle.std.proofs.Common.{length}
use Rattle.dvg_logs.specs.LogReading.{TakesLines}
use Rattle.dvg_logs.proofs.log_reading.JudgedLines.take_usual_lines.Given as goal

abbrev pub invariant-loop-self : goal.invariant-loop-self
invariant-loop-self g l = TakesLines g.J.LineJudge.Stands g.J.LineJudge.Passes l.initial.self l.self l.fn.text l.rest

abbrev pub decreases-loop-self : goal.decreases-loop-self
decreases-loop-self g l = length l.rest
