-- Steps, and the numbers of their operations.
use Rattle.std.specs.Prelude.{◌≡◌, ℕ, List, ◌∷◌, ◌++◌, Bool, true, false, count_by}
use Rattle.dvg_steps.specs.declared.step.Step.{Step}
use Rattle.dvg_steps.specs.declared.step.Step.TheVariants.{Name, Call, Jump}

-- the step is an operation
abbrev pub is_operation : Step → Bool
is_operation (Name name) = false
is_operation _ = true

-- how many operations there are
abbrev pub op_count : List Step → ℕ
op_count steps = count_by is_operation steps

-- the step gives this name
abbrev pub Names : Step → List ℕ → Type 0
Names (Name given) name = given.now ≡ name
Names _ name = ⊥

-- the step calls or jumps to this name
abbrev pub Wants : Step → List ℕ → Type 0
Wants (Call wanted) name = wanted.now ≡ name
Wants (Jump wanted) name = wanted.now ≡ name
Wants _ name = ⊥

-- a step gives this name to the operation of this number: as many operations stand before it
pub record IsNumberOf (steps : List Step) (name : List ℕ) (number : ℕ) : Type 0 where
  pub before : List Step
  pub step : Step
  pub after : List Step
  pub cut : steps ≡ before ++ step ∷ after
  pub names : Names step name
  pub count : number ≡ op_count before
