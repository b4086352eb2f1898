use Rattle.std.proofs.Common.{◌≡◌, drop, flat_map, map}
use Rattle.dvg_world.specs.Kept.{picture_seen}
use Rattle.dvg_io.specs.Watching.{Went, failures_of, stream_of}
use Rattle.dvg_tool.specs.Plays.{picture_text}
use Rattle.dvg_tool.proofs.plays_pictures.write_pictures.Given as goal

abbrev pub invariant-loop-picture : goal.invariant-loop-picture
invariant-loop-picture g l = record {
  counted : failures_of l.writer ≡ failures_of l.initial.writer;
  went : Went (flat_map picture_text (map picture_seen l.pictures)) (flat_map picture_text (map picture_seen (drop l.picture-index l.pictures))) (g.W.Write.contents (stream_of l.initial.writer)) (g.W.Write.contents (stream_of l.writer));
}
