use Rattle.std.proofs.Common.{◌≤◌, ◌*◌}
use Rattle.dvg_mem.specs.Memory.{fetched}
use Rattle.dvg_lay.proofs.TimedRun.{Follows}
use Rattle.dvg_lay.proofs.walk.time_over.Given as goal

abbrev pub invariant-loop-step : goal.invariant-loop-step
invariant-loop-step g l = record {
  follows : Follows (fetched l.ram l.rom) l.step l.walk l.spent;
  vectors : l.spent.vectors ≤ l.step;
  others : l.spent.others ≤ l.step;
  parts : l.spent.parts ≤ 128756 * l.step;
}
