-- What the notes that are made say: no more than all notes that are accepted.
use Rattle.std.specs.Prelude.{◌≡◌, ℕ, zero, suc, ◌+◌, ◌-◌, ◌≤◌, ◌<◌, ◌&&◌, Bool, true, false, Option, None, Some, List, [], ◌∷◌, IfSome}
use Rattle.std.specs.Prelude.{slice_index_or}
use Rattle.dvg_game_words.specs.Checker
use Rattle.dvg_game_words.specs.Checker.{Notes, accepts, all_serve, ends_of, fine_at, first, implies, interrupts, is_code, leads, noted, same_level, serve, starts}
use Rattle.dvg_game_words.specs.Machine.{nmi_vector, word_at}
use Rattle.dvg_game_check.specs.declared.note.Change.{Change}
use Rattle.dvg_game_check.specs.declared.note.Change.TheVariants.{Pushes, Pulls, Begins}
use Rattle.dvg_game_check.specs.declared.note.Note.{Note}
use Rattle.dvg_game_check.specs.declared.note.Slot.{Slot}
use Rattle.dvg_game_check.specs.declared.note.Slot.TheVariants.{Any}
use Rattle.dvg_game_check.specs.declared.state.State.{State}
use Rattle.dvg_game_check.specs.declared.step.Needs.{Needs}
use Rattle.dvg_game_check.specs.declared.step.Onward.{Onward}
use Rattle.dvg_game_check.specs.declared.step.Step.{Step}
use Rattle.dvg_game_check.specs.Rules.{HasBytes, changed, held_meant, level_meant, notes_in, slot_meant}

abbrev pub is_nmi : Checker.Note → Bool
is_nmi n = same_level n.level Checker.Nmi

-- how many bytes may be on the stack, with all that may still be pushed, since a level began
abbrev pub limit : Checker.Note → ℕ
limit n = elim n.level [ Checker.Main ↦ 223 | Checker.Sub ↦ 223 | Checker.Nmi ↦ 29 ]

-- of the NMI: what n says of A, X, Y and the stack, m says, too
pub record IsKnown (m n : Checker.Note) : Type 0 where
  pub held : all_serve n.held m.held ≡ true
  pub slots : serve n.slots m.slots ≡ true
  pub ends : n.fuel ≤ 800

-- m says no more than n of what comes along the ways to a place
pub record Comes (m n : Checker.Note) : Type 0 where
  pub level : m.level ≡ n.level
  pub depth : m.depth ≡ n.depth
  pub awake : implies n.awake m.awake ≡ true
  pub blank : implies m.blank n.blank ≡ true
  pub room : n.room + n.depth ≤ limit n
  pub nmi : is_nmi n ≡ true → IsKnown m n

-- and of what is needed there
pub record IsNeeded (bytes steps : ℕ) (blank : Bool) (n : Checker.Note) : Type 0 where
  pub room : bytes ≤ n.room
  pub fuel : is_nmi n ≡ true → steps ≤ n.fuel
  pub ends : implies blank n.ends ≡ true

pub record IsUnder (m n : Checker.Note) : Type 0 where
  pub comes : Comes m n
  pub needed : IsNeeded m.room m.fuel m.ends n

abbrev pub UnderAt : Option Checker.Note → Option Checker.Note → Type 0
UnderAt None n = Unit {0}
UnderAt (Some m) None = ⊥
UnderAt (Some m) (Some n) = IsUnder m n

-- each note of the first ones is under one of the second
abbrev pub AreUnder : Notes → Notes → Type 0
AreUnder found notes = (at : ℕ) → UnderAt (noted found at) (noted notes at)

-- these are accepted
pub record IsGame (rom : ℕ → ℕ) (start : ℕ) (notes : Notes) : Type 0 where
  pub begins : starts (noted notes start) ≡ true
  pub nmi : interrupts (noted notes (word_at rom nmi_vector)) ≡ true
  pub fine : (at : ℕ) → fine_at notes rom at (noted notes at) ≡ true

-- what was found of a program is under all that is accepted for it
abbrev pub IsLeast : (bytes : List ℕ) → List (Option Note) → (start : ℕ) → Type 0
IsLeast bytes made start = (rom : ℕ → ℕ) (notes : Notes) → HasBytes bytes rom → accepts rom start notes ≡ true
    → AreUnder (notes_in made) notes

-- the slots of so many bytes, the newest first
abbrev pub stacked : List Slot → ℕ → List Checker.Slot
stacked slots zero = []
stacked slots (suc depth) = slot_meant (slice_index_or slots depth Any) ∷ stacked slots depth

abbrev pub state_meant : State → Checker.Note
state_meant s = record {
  level = level_meant s.level;
  depth = s.depth;
  held = held_meant s.held;
  slots = stacked s.slots s.depth;
  room = s.room;
  fuel = s.fuel;
  awake = s.awake;
  blank = s.blank;
  ends = s.ends;
}

abbrev pub found_meant : Option State → Option Checker.Note
found_meant None = None
found_meant (Some s) = Some (state_meant s)

abbrev pub states_in : List (Option State) → Notes
states_in states at = found_meant (slice_index_or states (at - first) None)

abbrev pub ComesAt : Checker.Note → Option Checker.Note → Type 0
ComesAt m None = ⊥
ComesAt m (Some n) = Comes m n

abbrev pub NeededAt : Needs → Option Checker.Note → Type 0
NeededAt needs None = ⊥
NeededAt needs (Some n) = IsNeeded needs.room needs.fuel needs.ends n

-- how many bytes may be pushed before a change, where so many may be behind it
abbrev pub room_before : Change → ℕ → ℕ
room_before (Pushes slot) room = room + 1
room_before (Pulls held) room = room - 1
room_before (Begins ends) room = room + 2
room_before change room = room

abbrev pub passes : Change → Bool
passes (Begins ends) = false
passes change = true

-- an instruction with the note n, of which m is found, goes on so
pub record IsOnward (one : Onward) (m n : Checker.Note) (notes : Notes) : Type 0 where
  pub behind : Checker.Note
  pub comes : Comes (changed one.change m) behind
  pub led : leads notes one.to behind ≡ true
  pub room : (r : ℕ) → r ≤ behind.room → room_before one.change r ≤ n.room
  pub ends : passes one.change ≡ true → implies behind.ends n.ends ≡ true
  pub fuel : is_nmi n ≡ true → (is_nmi behind ≡ true) × (behind.fuel ≤ n.fuel)

pub record IsStep (step : Step) (m n : Checker.Note) (notes : Notes) : Type 0 where
  pub next : IfSome step.next (λ one. IsOnward one m n notes)
  pub to : IfSome step.to (λ one. IsOnward one m n notes)
  pub room : step.room ≤ n.room
  pub ends : implies step.ends n.ends ≡ true
