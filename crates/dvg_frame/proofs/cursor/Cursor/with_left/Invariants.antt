use Rattle.std.proofs.Common.{◌≡◌, ◌-◌}
use Rattle.dvg_frame.proofs.cursor.Cursor.with_left.Given as goal

abbrev pub invariant-loop : goal.invariant-loop
invariant-loop l = l.cursor ≡ record l.initial.cursor { left = l.initial.cursor.left - l.counter }
