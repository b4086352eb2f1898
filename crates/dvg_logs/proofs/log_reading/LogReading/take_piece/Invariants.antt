use Rattle.std.proofs.Common.{◌≤◌, ◌<◌, length}
use Rattle.dvg_logs.specs.LogReading.{ReadsFront, place_of}
use Rattle.dvg_logs.proofs.log_reading.LogReading.take_piece.Given as goal

abbrev pub invariant-loop-end : goal.invariant-loop-end
invariant-loop-end g l = record {
  done : ReadsFront g.J.LineJudge.Stands g.J.LineJudge.Passes l.initial.self l.self l.fn.piece l.rest;
  count : l.initial.self.judged.count ≤ l.self.judged.count;
  farther : (place_of l.initial.self ≤ place_of l.self) × (length l.rest < length l.fn.piece → place_of l.initial.self < place_of l.self);
}

abbrev pub decreases-loop-end : goal.decreases-loop-end
decreases-loop-end g l = length l.rest
