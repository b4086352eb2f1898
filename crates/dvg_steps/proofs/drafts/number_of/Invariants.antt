use Rattle.std.proofs.Common.{◌≡◌, take}
use Rattle.dvg_steps.specs.Steps.{op_count}
use Rattle.dvg_steps.proofs.Places.{NoneNames}
use Rattle.dvg_steps.proofs.drafts.number_of.Given as goal

abbrev pub invariant-loop-step : goal.invariant-loop-step
invariant-loop-step l = record {
  count : l.number ≡ op_count (take l.step-index l.steps);
  none : NoneNames l.name (take l.step-index l.steps);
}
