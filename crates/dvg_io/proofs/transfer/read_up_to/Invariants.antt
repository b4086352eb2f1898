use Rattle.std.proofs.Common.{◌≡◌, ◌≤◌, ◌+◌, ◌-◌, vec_len}
use Rattle.std.specs.Io.KnownBytes.{Consumes}
use Rattle.dvg_io.specs.Watching.{failures_of, stream_of}
use Rattle.dvg_io.proofs.transfer.read_up_to.Given as goal

abbrev pub invariant-loop-piece : goal.invariant-loop-piece
invariant-loop-piece g l = record {
  fits : vec_len l.bytes ≤ l.most + 1;
  took : Consumes (g.R.Read.remaining (stream_of l.initial.reader)) (g.R.Read.remaining (stream_of l.reader)) l.bytes.items;
  counted : failures_of l.reader ≡ failures_of l.initial.reader;
}

abbrev pub decreases-loop-piece : goal.decreases-loop-piece
decreases-loop-piece g l = (l.most + 1) - vec_len l.bytes
