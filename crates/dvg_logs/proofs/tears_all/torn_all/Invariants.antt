use Rattle.std.proofs.Common.{◌≡◌, ◌-◌, ◌*◌, ◌^◌, ℕ, List}
use Rattle.std.specs.Io.KnownBytes.{Consumes}
use Rattle.dvg_io.specs.Watching.{failures_of, stream_of}
use Rattle.dvg_logs.specs.LogReading.{place_of}
use Rattle.dvg_logs.specs.Telling.{HasTold}
use Rattle.dvg_logs.proofs.tears_all.torn_all.Given as goal

abbrev pub invariant-loop-count : goal.invariant-loop-count
invariant-loop-count g l = record {
  counted : failures_of l.reader ≡ failures_of l.initial.reader;
  wrote : failures_of l.writer ≡ failures_of l.initial.writer;
  told : (text : List ℕ) × Consumes (g.R.Read.remaining (stream_of l.initial.reader)) (g.R.Read.remaining (stream_of l.reader)) text
      × HasTold l.fn.base (g.W.Write.contents (stream_of l.initial.writer)) (g.W.Write.contents (stream_of l.writer)) l.telling text;
}

abbrev pub decreases-loop-count : goal.decreases-loop-count
decreases-loop-count g l = 65 * 2 ^ 64 - place_of l.telling.reading
