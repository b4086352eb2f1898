use Rattle.std.proofs.Common.{◌≡◌, ◌+◌, ◌≤◌, ℕ, List, [], length}
use Rattle.dvg_world.specs.Standing.{WorldAfter}
use Rattle.dvg_world.proofs.KeptSoFar.{IsKeptSoFar}
use Rattle.dvg_world.proofs.keeping.happen_all.Given as goal

abbrev pub invariant-loop-run : goal.invariant-loop-run
invariant-loop-run g l = record {
  so_far : (R image : List ℕ) → WorldAfter R image [] l.fn.world → g.K.Keeper.IsKept l.fn.keeper []
      → IsKeptSoFar R image l.trace l.run-iterator (g.K.Keeper.IsKept l.keeper) l.number l.world;
  all : l.number + length l.run-iterator ≡ length l.trace;
  room : length l.run-iterator ≤ g.K.Keeper.room l.keeper;
}
