use Rattle.std.proofs.Common.{◌≡◌, ◌≤◌, ◌<◌, length}
use Rattle.dvg_io.specs.Watching.{failures_of, stream_of}
use Rattle.dvg_logs.specs.LogReading.{place_of}
use Rattle.dvg_logs.specs.Telling.{TellsFront}
use Rattle.dvg_logs.proofs.tears_all.Telling.take_piece.Given as goal

abbrev pub invariant-loop-rest : goal.invariant-loop-rest
invariant-loop-rest g l = record {
  done : TellsFront (g.W.Write.contents (stream_of l.initial.writer)) (g.W.Write.contents (stream_of l.writer)) l.initial.self l.self l.fn.piece l.rest;
  count : l.initial.self.reading.judged.count ≤ l.self.reading.judged.count;
  farther : (place_of l.initial.self.reading ≤ place_of l.self.reading) × (length l.rest < length l.fn.piece → place_of l.initial.self.reading < place_of l.self.reading);
  counted : failures_of l.writer ≡ failures_of l.initial.writer;
}

abbrev pub decreases-loop-rest : goal.decreases-loop-rest
decreases-loop-rest g l = length l.rest
