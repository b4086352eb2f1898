-- Which fault a draft is refused for.
use Rattle.std.specs.Prelude.{◌≡◌, ℕ, ◌<◌, ◌≤◌, ◌⊎◌, List, [], length, Result, Ok, Err}
use Rattle.dvg_frame.specs.declared.op.OpKind.{OpKind}
use Rattle.dvg_frame.specs.declared.place.Place.{Place}
use Rattle.dvg_frame.specs.declared.place.Place.TheVariants.{InFrame, InRom}
use Rattle.dvg_frame.specs.declared.fault.FrameFault.{FrameFault}
use Rattle.dvg_frame.specs.declared.fault.FrameFault.TheVariants.{Empty, NoLabs, TooLong, Target, RunsOff, OutOfRom}
use Rattle.dvg_frame.specs.declared.fault.FrameFault.TheVariants.{TooDeep, Loops}
use Rattle.dvg_frame.specs.Layout.{size}
use Rattle.dvg_frame.specs.Steps.{Bad, Reached, BeginsWithLabs, Misses, IsWellFormed, Closed}
use Rattle.dvg_frame.specs.Loops.{HasLoop}
use Rattle.dvg_frame.specs.Picture.{IsBound}

-- the order of the faults that can hold at one pair
abbrev pub rank : FrameFault → ℕ
rank (RunsOff i) = 5
rank (OutOfRom p) = 6
rank (TooDeep p) = 7
rank fault = 8

-- the order of pairs: operations before ROM words, each by number, and of one place the lesser depth first
abbrev pub Precedes : Place → ℕ → Place → ℕ → Type 0
Precedes (InFrame i) d (InFrame j) e = (i < j) ⊎ ((i ≡ j) × (d ≤ e))
Precedes (InFrame i) d (InRom b) e = Unit {0}
Precedes (InRom a) d (InFrame j) e = ⊥
Precedes (InRom a) d (InRom b) e = (a < b) ⊎ ((a ≡ b) × (d ≤ e))

-- the first reached pair at which a fault holds, and the fault of least number there
pub record Least (F : List OpKind) (R : List ℕ) (fault : FrameFault) : Type 0 where
  pub place : Place
  pub depth : ℕ
  pub reached : Reached F R place depth
  pub bad : Bad F R place depth fault
  pub first : (q : Place) (e : ℕ) (other : FrameFault) → Reached F R q e → Bad F R q e other → Precedes place depth q e
  pub least : (other : FrameFault) → Bad F R place depth other → rank fault ≤ rank other

-- the fault that is picked: faults 1 to 4 in their order, then that of the first reached pair (`Bad`), and last a loop
abbrev pub Refuses : List OpKind → List ℕ → FrameFault → Type 0
Refuses F R Empty = F ≡ []
Refuses F R NoLabs = (0 < length F) × ¬ BeginsWithLabs F
Refuses F R TooLong = BeginsWithLabs F × (511 < size F)
Refuses F R (Target i) = BeginsWithLabs F × (size F ≤ 511) × Misses F i × ((k : ℕ) → k < i → ¬ Misses F k)
Refuses F R Loops = Closed F R × HasLoop F R
Refuses F R fault = IsWellFormed F × Least F R fault

-- the draft has none of the faults 1 to 8, and no loop
pub record Accepts (F : List OpKind) (R : List ℕ) : Type 0 where
  pub closed : Closed F R
  pub ends : ¬ HasLoop F R

-- what contracts see of a frame: the operations of its draft, and the words that its whole run fetches
pub record FrameState : Type 0 where
  pub operations : List OpKind
  pub bound : ℕ

-- what the check answers: if there is no fault, a frame of the draft with its bound; else the fault
-- that is picked
abbrev pub IsChecked : List OpKind → List ℕ → Result FrameState FrameFault → Type 0
IsChecked F R (Ok frame) = Accepts F R × (frame.operations ≡ F) × IsBound F R frame.bound
IsChecked F R (Err fault) = Refuses F R fault
