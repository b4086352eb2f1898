use Rattle.std.proofs.Common.{◌≤◌, ◌-◌, replicate}
use Rattle.dvg_log.specs.Events.{Happening}
use Rattle.dvg_read.specs.Texts.{lines}
use Rattle.dvg_read.specs.TraceEvents.{HasEvents, IsNameLine, name_bytes}
use Rattle.dvg_read.proofs.text_lines.TextLines.take_names.Given as goal

abbrev pub invariant-loop-after : goal.invariant-loop-after
invariant-loop-after l = record {
  few : l.count ≤ l.most;
  taken : (event : Happening) → IsNameLine event (name_bytes l.name) → HasEvents (lines l.self.rest.now) (replicate l.count event) (lines l.rest);
}

abbrev pub decreases-loop-after : goal.decreases-loop-after
decreases-loop-after l = l.most - l.count
