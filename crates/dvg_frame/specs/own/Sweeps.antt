-- The pairs that a sweep comes to, and the first one with a fault among them. Only the check's own functions cite this.
use Rattle.std.specs.Prelude.{◌≡◌, ℕ, ◌+◌, ◌<◌, ◌≤◌, ◌⊎◌, List, length, Option, Some, None, IfSome, Contains, slice_get}
use Rattle.dvg_frame.specs.declared.checking.pair.TheConstants.{DEEPEST}
use Rattle.dvg_frame.specs.declared.op.OpKind.{OpKind}
use Rattle.dvg_frame.specs.declared.fault.FrameFault.{FrameFault}
use Rattle.dvg_frame.specs.declared.checking.pair.Pair.{Pair}
use Rattle.dvg_frame.specs.declared.checking.way.Way.{Way}
use Rattle.dvg_frame.specs.declared.checking.way.Way.TheVariants.{Move, Jump, Call, Return, Halt}
use Rattle.dvg_frame.specs.declared.checking.sweep.Found.{Found}
use Rattle.dvg_frame.specs.Steps.{Bad, IsFine, Leads, Reached}
use Rattle.dvg_frame.specs.own.Pairs.{IsPlace, pair_of, first_pair, index}
use Rattle.dvg_frame.specs.own.Ways.{IsLeast}

-- the pair is reached
abbrev pub ReachedPair : List OpKind → List ℕ → Pair → Type 0
ReachedPair F R pair = Reached F R pair.place pair.depth

-- this fault holds at the pair
abbrev pub BadPair : List OpKind → List ℕ → Pair → FrameFault → Type 0
BadPair F R pair = Bad F R pair.place pair.depth

-- no fault holds at the pair
abbrev pub FinePair : List OpKind → List ℕ → Pair → Type 0
FinePair F R pair = IsFine F R pair.place pair.depth

-- a step from a pair to a pair
abbrev pub LeadsTo : List OpKind → List ℕ → Pair → Pair → Type 0
LeadsTo F R pair next = Leads F R pair.place pair.depth next.place next.depth

-- the way leads from this depth to the pair
abbrev pub WayLeadsTo : Way → ℕ → Pair → Type 0
WayLeadsTo (Move after words) d next = next ≡ pair_of after d
WayLeadsTo (Jump to) d next = next ≡ pair_of to d
WayLeadsTo (Call to after) d next = (next ≡ pair_of to (d + 1)) ⊎ (next ≡ pair_of after d)
WayLeadsTo Return d next = ⊥
WayLeadsTo Halt d next = ⊥

-- each pair that the way leads to from this depth is one that a draft can have
abbrev pub StaysIn : Way → ℕ → Type 0
StaysIn (Move after words) d = IsPlace after
StaysIn (Jump to) d = IsPlace to
StaysIn (Call to after) d = IsPlace to × IsPlace after × (d < DEEPEST)
StaysIn Return d = Unit {0}
StaysIn Halt d = Unit {0}

-- a reached pair that has a fault, with that of least number
pub record IsFound (F : List OpKind) (R : List ℕ) (found : Found) : Type 0 where
  pub reached : ReachedPair F R found.pair
  pub bad : IsLeast (BadPair F R found.pair) found.fault

-- what was found does not come after this pair
abbrev pub IsUpTo : Option Found → Pair → Type 0
IsUpTo None pair = ⊥
IsUpTo (Some found) pair = index found.pair ≤ index pair

-- a pair was looked at: if it is fine, what it leads to is in the list; if it has a fault, the pair
-- that was found comes no later
pub record IsDone (F : List OpKind) (R : List ℕ) (items : List Pair) (best : Option Found) (pair : Pair) : Type 0 where
  pub fine : FinePair F R pair → (next : Pair) → LeadsTo F R pair next → Contains items next
  pub bad : (fault : FrameFault) → BadPair F R pair fault → IsUpTo best pair

-- a sweep that looked at this many of the pairs in its list
pub record Sweeps (F : List OpKind) (R : List ℕ) (items : List Pair) (best : Option Found) (done : ℕ) : Type 0 where
  pub count : done ≤ length items
  pub begins : Contains items first_pair
  pub reached : (pair : Pair) → Contains items pair → ReachedPair F R pair
  pub looked : (j : ℕ) (pair : Pair) → j < done → slice_get items j ≡ Some pair → IsDone F R items best pair
  pub found : IfSome best (IsFound F R)
