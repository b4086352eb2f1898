use Rattle.std.proofs.Common.{◌≡◌, ◌+◌, ◌-◌, length, replicate, true}
use Rattle.dvg_log.specs.Entries.{map_entry}
use Rattle.dvg_print.specs.Shows.{entry_line, shown}
use Rattle.dvg_io.specs.Watching.{Went, failures_of, stream_of}
use Rattle.dvg_world.specs.Keeping.{entry_in}
use Rattle.dvg_tool.proofs.shows.write_others.Given as goal

abbrev pub invariant-loop-again : goal.invariant-loop-again
invariant-loop-again g l = record {
  counted : failures_of l.writer ≡ failures_of l.initial.writer;
  next : l.lines.next ≡ l.initial.lines.next + (l._again - 1);
  alike : l.lines.text
      ≡ entry_line (l.lines.next - 1) (map_entry (λ _. length l.run.strokes.now) l.run.entry.now);
  went : Went (shown true l.initial.lines.next (replicate (l.run.times - 1) (entry_in l.run)))
      (shown true l.lines.next (replicate (l.run.times - l._again) (entry_in l.run)))
      (g.W.Write.contents (stream_of l.initial.writer)) (g.W.Write.contents (stream_of l.writer));
}
