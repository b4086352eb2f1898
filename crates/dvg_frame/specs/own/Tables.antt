-- What is known of each place, and the table of it. Only the check's own functions cite this.
use Rattle.std.specs.Prelude.{◌≡◌, ℕ, ◌+◌, ◌/◌, ◌<◌, ◌≤◌, ◌^◌, List, [], ◌∷◌, ◌++◌, length, Option, Some}
use Rattle.std.specs.Prelude.{None, slice_index_or, ◌==◌, if◌then◌else◌, All, Result, MatchResult, true, false}
use Rattle.dvg_code.specs.Acts.{Act, Moves, Jumps, Calls, Returns as GoesBack, Halts as Stops}
use Rattle.dvg_gen.specs.declared.beam.Beam.{Beam}
use Rattle.dvg_gen.specs.declared.stroke.Stroke.{Stroke}
use Rattle.dvg_frame.specs.declared.op.OpKind.{OpKind}
use Rattle.dvg_frame.specs.declared.place.Place.{Place}
use Rattle.dvg_frame.specs.declared.checking.pair.TheConstants.{DEEPEST, PLACES}
use Rattle.dvg_frame.specs.declared.checking.table.Drawn.{Drawn}
use Rattle.dvg_frame.specs.declared.checking.table.Note.{Note}
use Rattle.dvg_frame.specs.declared.checking.table.Ending.{Ending}
use Rattle.dvg_frame.specs.declared.checking.table.Ending.TheVariants.{Halts, Returns}
use Rattle.dvg_frame.specs.declared.checking.way.Way.{Way}
use Rattle.dvg_frame.specs.declared.checking.way.Way.TheVariants.{Move, Jump, Call, Return, Halt}
use Rattle.dvg_frame.specs.own.Pairs.{IsPlace, place_index}
use Rattle.dvg_frame.specs.Steps.{Stands, Reached, IsFine, Leads, IsWellFormed}
use Rattle.dvg_frame.specs.declared.fault.FrameFault.{FrameFault}
use Rattle.dvg_frame.specs.Faults.{Accepts, Refuses}
use Rattle.dvg_frame.specs.Picture.{End, AtHalt, AtReturn, IsBound, Draws as DrawsSo}
use Rattle.dvg_frame.specs.Loops.{Walks, HasLoop}
use Rattle.dvg_frame.specs.own.Ways.{IsPlaceOf}

-- no reached pair has a fault
abbrev pub AllFine : List OpKind → List ℕ → Type 0
AllFine F R = (p : Place) (d : ℕ) → Reached F R p d → IsFine F R p d

-- there is a fault at a reached pair, or a loop
abbrev pub IsRefused : List OpKind → List ℕ → Type 0
IsRefused F R = AllFine F R → HasLoop F R

-- the bound of a draft without the faults 1 to 4, which is accepted, or the fault that is picked of one that is refused
abbrev pub BoundOrFault : List OpKind → List ℕ → Result ℕ FrameFault → Type 0
BoundOrFault F R answer = MatchResult answer (λ n. Accepts F R × IsBound F R n × (n < 2 ^ 63))
    (λ fault. Refuses F R fault)

-- how many places there are: the operations and the words of the ROM
abbrev pub places : List OpKind → List ℕ → ℕ
places F R = length F + length R / 2

-- what the table has at a place
abbrev pub known_at : List (Option Drawn) → Place → Option Drawn
known_at table p = slice_index_or table (place_index p) None

-- the table has this of a place
abbrev pub Knows : List (Option Drawn) → Place → Drawn → Type 0
Knows table p drawn = IsPlace p × (known_at table p ≡ Some drawn)

-- the table has nothing
abbrev pub HasNone : List (Option Drawn) → Type 0
HasNone table = (p : Place) → IsPlace p → known_at table p ≡ None

-- what was there still is
abbrev pub KeepsKnown : List (Option Drawn) → List (Option Drawn) → Type 0
KeepsKnown old new = (p : Place) (drawn : Drawn) → IsPlace p → known_at old p ≡ Some drawn → known_at new p ≡ Some drawn

-- what a note says in this round
abbrev pub noted : ℕ → Note → Option Drawn
noted round note = if note.round == round then Some
    (record { words = note.words; end = note.end; returns = note.returns; calls = note.calls }) else None

-- a note for each place, of this round or of one before it
pub record AreNotes (round : ℕ) (notes : List Note) : Type 0 where
  pub size : length notes ≡ PLACES
  pub past : All (λ note. note.round ≤ round) notes

-- how what is drawn ends
abbrev pub end_of : Ending → End
end_of Halts = AtHalt
end_of Returns = AtReturn

-- at this depth no call is one too deep, and no return is without a call
pub record FitsAt (drawn : Drawn) (d : ℕ) : Type 0 where
  pub deep : d + drawn.calls ≤ DEEPEST
  pub back : drawn.returns ≡ true → 0 < d

-- this is drawn from a place, whatever the beam, and steps at one depth from there come to an end
pub record IsDrawnFrom (F : List OpKind) (R : List ℕ) (p : Place) (drawn : Drawn) : Type 0 where
  pub count : ℕ
  pub few : count < 2 ^ 64 → drawn.words ≡ count
  pub draws : (beam : Beam) → (strokes : List Stroke) × (last : Beam)
      × DrawsSo F R p beam strokes last (end_of drawn.end) count
  pub ends : (k : ℕ) × ((d : ℕ) (q : Place) → ¬ Walks F R d p k q)

-- a step leads to a place of the table that fits the depth there
pub record GoesTo (table : List (Option Drawn)) (q : Place) (e : ℕ) : Type 0 where
  pub inside : IsPlace q
  pub drawn : Drawn
  pub known : known_at table q ≡ Some drawn
  pub fits : FitsAt drawn e

-- this holds of a place: at a depth that it fits it has no fault and leads to such places, and at a depth at which it
-- is reached it fits where no reached pair has a fault
pub record IsKnown (F : List OpKind) (R : List ℕ) (table : List (Option Drawn)) (p : Place)
    (drawn : Drawn) : Type 0 where
  pub fine : (d : ℕ) → FitsAt drawn d → IsFine F R p d
  pub leads : (d : ℕ) (q : Place) (e : ℕ) → FitsAt drawn d → Leads F R p d q e → GoesTo table q e
  pub tight : AllFine F R → (d : ℕ) → Reached F R p d → FitsAt drawn d
  pub draws : IsDrawnFrom F R p drawn

-- what the table has is right
abbrev pub IsTable : List OpKind → List ℕ → List (Option Drawn) → Type 0
IsTable F R table = (p : Place) (drawn : Drawn) → IsPlace p → known_at table p ≡ Some drawn → IsKnown F R table p drawn

-- where an act leads on at one depth
abbrev pub Next : Act Place → Place → Place → Type 0
Next (Moves instr) after q = after ≡ q
Next (Jumps to) after q = to ≡ q
Next (Calls to) after q = after ≡ q
Next GoesBack after q = ⊥
Next Stops after q = ⊥

-- one step at one depth
pub record StepsOn (F : List OpKind) (R : List ℕ) (p q : Place) : Type 0 where
  pub act : Act Place
  pub after : Place
  pub stands : Stands F R p act after
  pub next : Next act after q

-- a place without a fault at this depth, which is reached there if no reached pair has a fault
pub record IsGood (F : List OpKind) (R : List ℕ) (d : ℕ) (p : Place) : Type 0 where
  pub inside : IsPlaceOf F R p
  pub fine : IsFine F R p d
  pub reached : AllFine F R → Reached F R p d

-- such a place, where the table has this of where it leads on
pub record IsReady (F : List OpKind) (R : List ℕ) (table : List (Option Drawn)) (p : Place) (d : ℕ)
    (rest : Drawn) : Type 0 where
  pub begins : IsWellFormed F
  pub good : IsGood F R d p
  pub entries : IsTable F R table
  pub next : Place
  pub goes : StepsOn F R p next
  pub knows : Knows table next rest

-- where a way leads on at its own depth
abbrev pub onward : Way → Option Place
onward (Move after words) = Some after
onward (Jump to) = Some to
onward (Call to after) = Some after
onward Return = None
onward Halt = None

-- what is drawn from an instruction whose way leads nowhere: a return goes back, and all else halts
abbrev pub last_drawn : Way → Drawn
last_drawn Return = record { words = 1; end = Returns; returns = true; calls = 0 }
last_drawn _ = record { words = 1; end = Halts; returns = false; calls = 0 }

-- steps at one depth lead through these places, one after the other, and then to the last one
abbrev pub Linked : List OpKind → List ℕ → ℕ → Place → List Place → Place → Type 0
Linked F R d start [] last = start ≡ last
Linked F R d start (place ∷ passed) last = (start ≡ place) × IsGood F R d place
    × ((next : Place) × StepsOn F R place next × Linked F R d next passed last)

-- a list has such places after what was there before, and the table has this of the last one
pub record HasChain (F : List OpKind) (R : List ℕ) (table : List (Option Drawn)) (d : ℕ) (start : Place)
    (rest : Drawn) (before all : List Place) : Type 0 where
  pub passed : List Place
  pub is : all ≡ before ++ passed
  pub last : Place
  pub linked : Linked F R d start passed last
  pub knows : Knows table last rest

-- the same is drawn, with this many more words
pub record IsLonger (rest : Drawn) (more : ℕ) (new : Drawn) : Type 0 where
  pub sum : rest.words + more < 2 ^ 64 → new.words ≡ rest.words + more
  pub end : new.end ≡ rest.end
  pub returns : new.returns ≡ rest.returns
  pub calls : new.calls ≡ rest.calls

-- this is drawn from a call, by what is drawn from its target and from the place after it
pub record IsCalled (inside rest new : Drawn) : Type 0 where
  pub halts : inside.end ≡ Halts → (new.end ≡ Halts) × (inside.words + 1 < 2 ^ 64 → new.words ≡ inside.words + 1)
  pub goes_on : inside.end ≡ Returns
      → (new.end ≡ rest.end) × (inside.words + rest.words + 1 < 2 ^ 64 → new.words ≡ inside.words + rest.words + 1)
  pub returns : new.returns ≡ rest.returns
  pub rest_calls : rest.calls ≤ new.calls
  pub deeper : new.calls < 255 → inside.calls < new.calls
  pub least : (most : ℕ) → rest.calls ≤ most → inside.calls < most → new.calls ≤ most
