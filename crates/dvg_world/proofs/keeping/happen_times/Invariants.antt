use Rattle.std.proofs.Common.{◌+◌, ◌≤◌}
use Rattle.dvg_log.specs.Traces.{seen_as}
use Rattle.dvg_world.specs.own.Running.{KeepsRun}
use Rattle.dvg_world.proofs.keeping.happen_times.Given as goal

abbrev pub invariant-loop-done : goal.invariant-loop-done
invariant-loop-done g l = record {
  kept : KeepsRun l.fn.world (g.K.Keeper.IsKept l.fn.keeper) l.number (seen_as l.event) l.done l.world (g.K.Keeper.IsKept l.keeper);
  left : g.K.Keeper.room l.fn.keeper ≤ g.K.Keeper.room l.keeper + l.done;
}
