use Rattle.std.proofs.Common.{◌≡◌, drop, flat_map}
use Rattle.dvg_io.specs.Watching.{Went, failures_of, stream_of}
use Rattle.dvg_game.proofs.engine.write_places.Given as goal

abbrev pub invariant-loop-line : goal.invariant-loop-line
invariant-loop-line g l = record {
  counted : failures_of l.writer ≡ failures_of l.initial.writer;
  went : Went (flat_map (λ line. line.bytes.items) l.lines) (flat_map (λ line. line.bytes.items) (drop l.line-index l.lines))
      (g.W.Write.contents (stream_of l.initial.writer)) (g.W.Write.contents (stream_of l.writer));
}
