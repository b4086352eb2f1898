use Rattle.std.proofs.Common.{◌≡◌, drop, flat_map}
use Rattle.dvg_io.specs.Watching.{Went, failures_of, stream_of}
use Rattle.dvg_dump.specs.Units.{moves_ahead, setting_out}
use Rattle.dvg_picture.specs.Texts.{moved_text}
use Rattle.dvg_picture.proofs.moves.write_moves.Given as goal

abbrev pub invariant-loop-ran : goal.invariant-loop-ran
invariant-loop-ran g l = record {
  counted : failures_of l.writer ≡ failures_of l.initial.writer;
  went : Went (flat_map (moved_text l.as_strokes) (moves_ahead (setting_out l.units) l.trace))
      (flat_map (moved_text l.as_strokes) (moves_ahead l.follower (drop l.ran-index l.trace)))
      (g.W.Write.contents (stream_of l.initial.writer)) (g.W.Write.contents (stream_of l.writer));
}
