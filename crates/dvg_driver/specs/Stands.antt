-- After which lives a driver stands. A driver is specified by all that it has done since its reset,
-- not by its state.
use Rattle.std.specs.Prelude.{ℕ, Bool, not, List, [], ◌∷◌, ◌≡◌, ◌<◌, ◌≤◌, Option, Some, IfSome, length, nat_eq}
use Rattle.std.specs.Prelude.{if◌then◌else◌}
use Rattle.dvg_mem.specs.declared.half.Half.{Half}
use Rattle.dvg_mem.specs.Areas.{half_of_high, other}
use Rattle.dvg_frame.specs.declared.op.OpKind.{OpKind}
use Rattle.dvg_driver.specs.declared.action.Action.{Action}
use Rattle.dvg_driver.specs.declared.action.Action.TheVariants.{Peek, Wrote, Read}
use Rattle.dvg_driver.specs.Script.{Item, Did, has_flip, word_zero}
use Rattle.dvg_driver.specs.Place.{Place, Start, Writing, place_of_life, with_left}

-- the stage of a driver: its place in the script, the current half, and whether it has flipped since its reset
pub record Stage : Type 0 where
  pub place : Place
  pub half : Half
  pub flipped : Bool

-- what contracts see of a driver: its stage, and the frame that it keeps while it writes it
pub record Driving : Type 0 where
  pub stage : Stage
  pub frame : Option (List OpKind)

-- a frame that is kept was kept before
abbrev pub KeepsNoOther : (old new : Driving) → Type 0
KeepsNoOther old new = IfSome new.frame (λ F. old.frame ≡ Some F)

-- byte 001, as the life gives it: what its last flip wrote, or else what was handed in at its peek
abbrev pub byte1_of : ℕ → List Item → ℕ
byte1_of peeked [] = peeked
byte1_of peeked (Did Peek ∷ life) = peeked
byte1_of peeked (Did (Wrote a byte) ∷ life) = if nat_eq a 1 then byte else byte1_of peeked life
byte1_of peeked (item ∷ life) = byte1_of peeked life

-- the current half is the one that byte 001 names; before the peek it may be any
abbrev pub KnowsHalf : Place → Half → ℕ → Type 0
KnowsHalf Start half byte1 = Unit {0}
KnowsHalf place half byte1 = half ≡ half_of_high byte1

-- the driver stands after the life, at whose peek this byte was handed in
pub record StandsAfter (stage : Stage) (peeked : ℕ) (life : List Item) : Type 0 where
  pub place : place_of_life life ≡ Some stage.place
  pub half : KnowsHalf stage.place stage.half (byte1_of peeked life)
  pub flipped : has_flip life ≡ stage.flipped

-- what was handed in at the peek, after an action at which this byte was handed in
abbrev pub peeked_after : Action → ℕ → ℕ → ℕ
peeked_after Peek byte1 peeked = byte1
peeked_after action byte1 peeked = peeked

-- a read shows the flag that was handed in
abbrev pub ShowsFlag : Action → Bool → Type 0
ShowsFlag (Read shown) halted = shown ≡ halted
ShowsFlag action halted = Unit {0}

-- a written address is one of the RAM
abbrev pub IsInRam : Action → Type 0
IsInRam (Wrote a byte) = a < 0x800
IsInRam action = Unit {0}

-- the first of the writes that are to come is done now, and nothing else changes
abbrev pub WritesNext : (old new : Stage) → ℕ × ℕ → Type 0
WritesNext old new write = (more : List (ℕ × ℕ)) × (old.place ≡ Writing (write ∷ more))
    × (new ≡ record { place = with_left more; half = old.half; flipped = old.flipped })

-- no byte of a frame comes next: there are no more writes to come than those of word zero
abbrev pub WritesNoByte : Stage → Type 0
WritesNoByte stage = (writes : List (ℕ × ℕ)) → stage.place ≡ Writing writes
    → length writes ≤ length (word_zero (other stage.half) (not stage.flipped))

-- the action writes a byte of word zero
abbrev pub WritesWordZero : Action → Type 0
WritesWordZero (Wrote a byte) = a < 2
WritesWordZero action = ⊥
