use Rattle.std.proofs.Common.{◌+◌, ◌-◌, ◌≤◌, length}
use Rattle.dvg_read.specs.Texts.{lines}
use Rattle.dvg_read.specs.TraceEvents.{AddsEvents}
use Rattle.dvg_log.specs.declared.trace.TheConstants.{MOST_EVENTS}
use Rattle.dvg_read.proofs.trace_events.take_events.Given as goal

abbrev pub invariant-loop-room : goal.invariant-loop-room
invariant-loop-room g l = record {
  few : l.room ≤ l.most;
  fits : length l.events + l.room ≤ MOST_EVENTS;
  adds : AddsEvents (lines l.initial.lines.rest.now) l.initial.events (l.most - l.room) (lines l.lines.rest.now) l.events;
}

abbrev pub decreases-loop-room : goal.decreases-loop-room
decreases-loop-room g l = l.room
