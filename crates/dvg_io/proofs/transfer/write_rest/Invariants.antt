use Rattle.std.proofs.Common.{◌≡◌, ℕ, List, ◌++◌, length}
use Rattle.std.specs.Io.KnownBytes.{Appends}
use Rattle.dvg_io.specs.Watching.{failures_of, stream_of}
use Rattle.dvg_io.proofs.transfer.write_rest.Given as goal

abbrev pub invariant-loop-rest : goal.invariant-loop-rest
invariant-loop-rest g l = record {
  went_out : (done : List ℕ) × (l.fn.text ≡ done ++ l.rest) × Appends (g.W.Write.contents (stream_of l.initial.writer)) (g.W.Write.contents (stream_of l.writer)) done;
  counted : failures_of l.writer ≡ failures_of l.initial.writer;
}

abbrev pub decreases-loop-rest : goal.decreases-loop-rest
decreases-loop-rest g l = length l.rest
