use Rattle.std.proofs.Common.{◌-◌}
use Rattle.dvg_frame.specs.declared.checking.pair.TheConstants.{PAIRS}
use Rattle.dvg_frame.specs.own.Sweeps.{Sweeps}
use Rattle.dvg_frame.proofs.checking.sweep.sweep.Given as goal

abbrev pub invariant-loop-done : goal.invariant-loop-done
invariant-loop-done g l = Sweeps l.draft l.rom l.list l.best l.done

abbrev pub decreases-loop-done : goal.decreases-loop-done
decreases-loop-done g l = PAIRS - l.done
