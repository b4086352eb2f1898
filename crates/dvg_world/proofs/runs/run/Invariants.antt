use Rattle.std.proofs.Common.{map}
use Rattle.dvg_log.specs.Events.{happening_of}
use Rattle.dvg_world.proofs.WholeRuns.{IsSoFar}
use Rattle.dvg_world.proofs.runs.run.Given as goal

abbrev pub invariant-loop-number : goal.invariant-loop-number
invariant-loop-number g l = IsSoFar l.fn.rom l.image (map happening_of l.events) l.entries l.number l.world
