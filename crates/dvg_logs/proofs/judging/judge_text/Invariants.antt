use Rattle.std.proofs.Common.{◌≡◌, ◌-◌, ◌*◌, ◌^◌, ℕ, List, []}
use Rattle.std.specs.Io.KnownBytes.{Consumes}
use Rattle.dvg_io.specs.Watching.{failures_of, stream_of}
use Rattle.dvg_logs.specs.LogReading.{HasRead, place_of}
use Rattle.dvg_logs.proofs.judging.judge_text.Given as goal

abbrev pub invariant-loop-count : goal.invariant-loop-count
invariant-loop-count g l = record {
  counted : failures_of l.reader ≡ failures_of l.initial.reader;
  read : (text : List ℕ) × Consumes (g.R.Read.remaining (stream_of l.initial.reader)) (g.R.Read.remaining (stream_of l.reader)) text × HasRead l.fn.base g.J.LineJudge.Stands (g.J.LineJudge.Passes []) l.reading text;
}

abbrev pub decreases-loop-count : goal.decreases-loop-count
decreases-loop-count g l = 65 * 2 ^ 64 - place_of l.reading
