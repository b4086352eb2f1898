use Rattle.std.proofs.Common.{◌≡◌, ◌-◌, drop, length}
use Rattle.dvg_io.specs.Watching.{Went, failures_of, stream_of}
use Rattle.dvg_svg.specs.Svg.{groups, strokes_of}
use Rattle.dvg_svg.proofs.pictures.write_groups.Given as goal

abbrev pub invariant-loop-number : goal.invariant-loop-number
invariant-loop-number g l =
    let last = length l.pictures - 1 in
    record {
      counted : failures_of l.writer ≡ failures_of l.initial.writer;
      went : Went (groups l.rate last 0 (strokes_of l.pictures)) (groups l.rate last l.number (strokes_of (drop l.number l.pictures))) (g.W.Write.contents (stream_of l.initial.writer)) (g.W.Write.contents (stream_of l.writer));
    }
