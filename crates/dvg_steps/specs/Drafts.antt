-- The draft of a list of steps.
use Rattle.std.specs.Prelude.{◌≡◌, ◌<◌, ◌≤◌, ℕ, List, filter, slice_get, Some, take}
use Rattle.std.specs.List.{AllZip}
use Rattle.dvg_frame.specs.declared.draft.TheConstants.{MAX_OPS}
use Rattle.dvg_frame.specs.declared.op.OpKind.{OpKind}
use Rattle.dvg_frame.specs.declared.op.OpKind.TheVariants as kinds
use Rattle.dvg_steps.specs.declared.fault.StepsFault.{StepsFault}
use Rattle.dvg_steps.specs.declared.fault.StepsFault.TheVariants.{Full, Twice, Unknown}
use Rattle.dvg_steps.specs.declared.step.Step.{Step}
use Rattle.dvg_steps.specs.declared.step.Step.TheVariants.{Name, Op, Call, Jump}
use Rattle.dvg_steps.specs.Steps.{IsNumberOf, Names, Wants, is_operation, op_count}

-- a step that is an operation is this one in the draft: a call or a jump names the operation by its number
abbrev pub IsDrafted : List Step → Step → OpKind → Type 0
IsDrafted steps (Op op) kind = op ≡ kind
IsDrafted steps (Call name) kind = (number : ℕ) × IsNumberOf steps name.now number × (kind ≡ kinds.Call number)
IsDrafted steps (Jump name) kind = (number : ℕ) × IsNumberOf steps name.now number × (kind ≡ kinds.Jump number)
IsDrafted steps (Name name) kind = ⊥

-- the draft has the operations of the steps, in order
abbrev pub IsDraftOf : List Step → List OpKind → Type 0
IsDraftOf steps draft = AllZip (IsDrafted steps) (filter is_operation steps) draft

-- this step gives a name that one before it gives
abbrev pub GivesAgain : List Step → ℕ → Type 0
GivesAgain steps place = (step : Step) × (name : List ℕ) × (slice_get steps place ≡ Some step) × Names step name
    × ((number : ℕ) × IsNumberOf (take place steps) name number)

-- this step calls or jumps to a name that no step gives
abbrev pub WantsUnknown : List Step → Step → Type 0
WantsUnknown steps step = (name : List ℕ) × Wants step name × ((number : ℕ) → ¬ IsNumberOf steps name number)

-- the step at this place does so
abbrev pub IsUnknown : List Step → ℕ → Type 0
IsUnknown steps place = (step : Step) × (slice_get steps place ≡ Some step) × WantsUnknown steps step

-- this holds at this place, and at none before it
abbrev pub IsFirst : (ℕ → Type 0) → ℕ → Type 0
IsFirst P place = P place × ((earlier : ℕ) → earlier < place → ¬ P earlier)

-- the fault of steps: too many operations, else the first name that is given again, else the first that is wanted
-- and not given
abbrev pub HasFault : List Step → StepsFault → Type 0
HasFault steps Full = MAX_OPS < op_count steps
HasFault steps (Twice place) = (op_count steps ≤ MAX_OPS) × IsFirst (GivesAgain steps) place
HasFault steps (Unknown place) = (op_count steps ≤ MAX_OPS) × ((again : ℕ) → ¬ GivesAgain steps again)
    × IsFirst (IsUnknown steps) place
