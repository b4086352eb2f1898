use Rattle.std.proofs.Common.{◌≡◌, ℕ, ◌<◌, filter, length, take}
use Rattle.std.specs.List.{AllZip}
use Rattle.dvg_steps.specs.Drafts.{IsDrafted, IsUnknown}
use Rattle.dvg_steps.specs.Steps.{is_operation, op_count}
use Rattle.dvg_steps.proofs.drafts.draft_of.Given as goal

abbrev pub invariant-loop-place : goal.invariant-loop-place
invariant-loop-place l = record {
  drafted : AllZip (IsDrafted l.steps) (filter is_operation (take l.place l.steps)) l.draft;
  count : length l.draft ≡ op_count (take l.place l.steps);
  known : (k : ℕ) → k < l.place → ¬ IsUnknown l.steps k;
}
