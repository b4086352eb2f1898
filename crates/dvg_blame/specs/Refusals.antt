-- Why frames are not laid out.
use Rattle.std.specs.Prelude.{◌≡◌, ℕ, ◌<◌, ◌≤◌, List, ◌∷◌, ◌++◌, All, length, get_or, Option, Some, None}
use Rattle.std.specs.Prelude.{option_map, slice_get, take}
use Rattle.dvg_frame.specs.declared.op.OpKind.{OpKind}
use Rattle.dvg_frame.specs.declared.op.OpKind.TheVariants.{CallRom, JumpRom}
use Rattle.dvg_frame.specs.declared.place.Place.{Place}
use Rattle.dvg_frame.specs.declared.place.Place.TheVariants.{InFrame, InRom}
use Rattle.dvg_frame.specs.declared.fault.FrameFault.{FrameFault}
use Rattle.dvg_frame.specs.declared.fault.FrameFault.TheVariants.{Target, RunsOff, OutOfRom, TooDeep}
use Rattle.dvg_frame.specs.declared.fault.FrameFault.TheVariants.{NoCaller}
use Rattle.dvg_frame.specs.Faults.{Accepts, Refuses}
use Rattle.dvg_named.specs.declared.meaning.NamedFrame.{NamedFrame}
use Rattle.dvg_named.specs.declared.meaning.RomName.{RomName}
use Rattle.dvg_rows.specs.declared.source.Source.{Source}
use Rattle.dvg_blame.specs.Said.{said}
use Rattle.dvg_blame.specs.declared.refusal.Blamed.{Blamed}
use Rattle.dvg_blame.specs.declared.refusal.Blamed.TheVariants.{Line, Word}
use Rattle.dvg_blame.specs.declared.refusal.Reason.TheVariants.{Fault, NamesNoWord}
use Rattle.dvg_blame.specs.declared.refusal.Refusal.{Refusal}
use Rattle.dvg_blame.specs.declared.refusal.Unlaid.{Unlaid}
use Rattle.dvg_blame.specs.declared.refusal.Unlaid.TheVariants.{Refused, Memory}

-- a named frame has at most 511 operations, and one source line for each of them
pub record IsLent (frame : NamedFrame) : Type 0 where
  pub few : length frame.ops.now ≤ 511
  pub lines : length frame.sources.now ≡ length frame.ops.now

-- the check accepts the frame over a ROM
abbrev pub IsGood : (R : List ℕ) → NamedFrame → Type 0
IsGood R frame = Accepts frame.ops.now R

-- what the operation names of the ROM stands from word 400 on
abbrev pub NamesHighWord : OpKind → Type 0
NamesHighWord (CallRom a) = 0x400 ≤ a
NamesHighWord (JumpRom a) = 0x400 ≤ a
NamesHighWord op = Unit {0}

-- what the operations of the frame name of the ROM stands from 400 on
abbrev pub NamesHighRom : NamedFrame → Type 0
NamesHighRom frame = All NamesHighWord frame.ops.now

-- this is the first item of which `Good` doesn't hold; what is said of it is `Bad`
pub record IsFirst {X : Type 0} (Good Bad : X → Type 0) (xs : List X) : Type 0 where
  pub before : List X
  pub item : X
  pub after : List X
  pub cut : xs ≡ before ++ item ∷ after
  pub good : All Good before
  pub bad : Bad item

-- the place that a fault names; of a fault of the whole draft it is operation 0
abbrev pub place_of : FrameFault → Place
place_of (Target i) = InFrame i
place_of (RunsOff i) = InFrame i
place_of (OutOfRom place) = place
place_of (TooDeep place) = place
place_of (NoCaller place) = place
place_of _ = InFrame 0

-- the line of an operation; where there is none, the line that begins the frame
abbrev pub line_of : NamedFrame → ℕ → Source
line_of frame i = get_or frame.sources.now i frame.begin

-- a name is at a word or before it, and no nearer one was found
abbrev pub IsNearer : ℕ → Option RomName → RomName → Type 0
IsNearer a None name = name.address ≤ a
IsNearer a (Some found) name = (found.address ≤ name.address) × (name.address ≤ a)

-- the name that stands at a word or before it: that of the greatest address, and of such names
-- the last one
pub record IsNameBefore (names : List RomName) (a : ℕ) (found : RomName) : Type 0 where
  pub before : List RomName
  pub after : List RomName
  pub cut : names ≡ before ++ found ∷ after
  pub low : found.address ≤ a
  pub earlier : All (λ name. name.address ≤ a → name.address ≤ found.address) before
  pub later : All (λ name. name.address ≤ a → name.address < found.address) after

-- the text of the name that stands at a word or before it; none where no name does
abbrev pub NamesBefore : List RomName → ℕ → Option (List ℕ) → Type 0
NamesBefore names a (Some text) =
    (found : RomName) × IsNameBefore names a found × (text ≡ found.name.now)
NamesBefore names a None = All (λ name. a < name.address) names

-- this is blamed for a fault at a place of a frame: the operation's line, or the word of the ROM
abbrev pub Blames : {A : Type 0} → List RomName → NamedFrame → Place → Blamed A → Type 0
Blames names frame (InFrame i) (Line number text) =
    (number ≡ (line_of frame i).number) × (text.items ≡ said (line_of frame i).line.now)
Blames names frame (InRom a) (Word name address) =
    (address ≡ a) × NamesBefore names a (option_map (λ text. text.items) name)
Blames names frame _ _ = ⊥

-- the refusal tells the fault that the check picks of a frame
abbrev pub TellsFault : {A : Type 0} → (R : List ℕ) → List RomName → Refusal A → NamedFrame → Type 0
TellsFault R names refusal frame = (fault : FrameFault) × Refuses frame.ops.now R fault
    × (refusal.reason ≡ Fault fault) × Blames names frame (place_of fault) refusal.blamed

-- it tells of the first frame that the check doesn't accept
abbrev pub IsFault : {A : Type 0} → (R : List ℕ) → List RomName → List NamedFrame → Refusal A
    → Type 0
IsFault R names frames refusal = IsFirst (IsGood R) (TellsFault R names refusal) frames

-- this operation of a draft is the first that names a word of the ROM below 400
pub record IsFirstLow (F : List OpKind) (i : ℕ) : Type 0 where
  pub op : OpKind
  pub stands : slice_get F i ≡ Some op
  pub low : ¬ NamesHighWord op
  pub first : All NamesHighWord (take i F)

-- the refusal tells the first such operation of a frame
abbrev pub TellsLow : {A : Type 0} → List RomName → Refusal A → NamedFrame → Type 0
TellsLow names refusal frame = (i : ℕ) × IsFirstLow frame.ops.now i × (refusal.reason ≡ NamesNoWord)
    × Blames names frame (InFrame i) refusal.blamed

-- the check accepts all frames, and the refusal tells of the first that a table can't express
abbrev pub IsLow : {A : Type 0} → (R : List ℕ) → List RomName → List NamedFrame → Refusal A → Type 0
IsLow R names frames refusal =
    All (IsGood R) frames × IsFirst NamesHighRom (TellsLow names refusal) frames

-- why nothing is laid out: the refusal that `Tells` allows, or want of memory
abbrev pub IsUnlaid : {A : Type 0} → (Tells : Refusal A → Type 0) → Unlaid A → Type 0
IsUnlaid Tells (Refused refusal) = Tells refusal
IsUnlaid Tells Memory = Unit {0}
