-- What the reader of traces answers.
use Rattle.std.specs.Prelude.{◌≡◌, ℕ, ◌+◌, ◌<◌, ◌≤◌, List, ◌∷◌, [], ◌++◌, length, Bool}
use Rattle.std.specs.Prelude.{true, false, Option, Some, None}
use Rattle.dvg_frame.specs.declared.op.OpKind.{OpKind}
use Rattle.dvg_log.specs.Events.{Happening}
use Rattle.dvg_read.specs.declared.fault.Unread.{Unread}
use Rattle.dvg_read.specs.declared.fault.Unread.TheVariants.{Text, Memory}
use Rattle.dvg_read.specs.declared.fault.LineFault.{LineFault}
use Rattle.dvg_read.specs.declared.fault.LineFault.TheVariants as line_fault
use Rattle.dvg_read.specs.declared.trace_text.TraceReading.{TraceReading}
use Rattle.dvg_read.specs.OpLines.{IsOpLine}
use Rattle.dvg_read.specs.RomTexts.{IsRomOf, RomText}
use Rattle.dvg_read.specs.declared.rom_text.RomReading.{RomReading}
use Rattle.dvg_read.specs.RomReading.{HoldsRom}
use Rattle.dvg_read.specs.TraceReading.{Takes}
use Rattle.dvg_read.specs.FirstFaults.{Reaches}
use Rattle.dvg_read.specs.TraceEvents.{AddsEvents, BeginsWithEvent}
use Rattle.dvg_read.specs.TextLines.{AddsOps}
use Rattle.dvg_read.specs.Texts.{lines, unpassed}
use Rattle.dvg_read.specs.TraceTexts.{DenotesTrace, FitsTrace, HasTraceFault, IsFineTrace, SpellsTrace}
use Rattle.dvg_log.specs.declared.trace.TheConstants.{MOST_EVENTS}
use Rattle.dvg_frame.specs.declared.draft.TheConstants.{MAX_OPS}

-- the text denotes these events and a ROM of these bytes
pub record GivesTrace (text : List ℕ) (events : List Happening) (R : List ℕ) : Type 0 where
  pub rom : RomText
  pub denotes : DenotesTrace text rom events
  pub bytes : IsRomOf rom R

-- a line brings events or ends an offer; no line before it is at fault, and the lines up to it spell
-- 65,536 events at most
pub record BringsEvents (text : List ℕ) : Type 0 where
  pub n : ℕ
  pub before : List (List ℕ)
  pub line : List ℕ
  pub reaches : Reaches IsFineTrace text n before line
  pub rom : RomText
  pub events : List Happening
  pub right : SpellsTrace rom events None (unpassed before ++ line ∷ [])
  pub some : 1 ≤ length events
  pub few : length events ≤ MOST_EVENTS

-- why a trace isn't read: the fault of its text, or want of memory, where a line brings events
abbrev pub StopsReading : Unread → List ℕ → Type 0
StopsReading (Text fault) text = HasTraceFault text fault
StopsReading Memory text = BringsEvents text

-- the events that were read (this and what follows is for private contracts)
abbrev pub events_read : {A : Type 0} → TraceReading A → List Happening
events_read reading = reading.events

-- the operations of the newest offer, where it isn't ended
abbrev pub opened_by : Bool → List OpKind → Option (List OpKind)
opened_by true F = Some F
opened_by false F = None

-- the operations of the offer that isn't ended
abbrev pub opened_of : {A : Type 0} → TraceReading A → Option (List OpKind)
opened_of reading = opened_by reading.is_open reading.draft

-- what was read is within the limits
abbrev pub IsHeld : {A : Type 0} → TraceReading A → Type 0
IsHeld reading = FitsTrace (events_read reading) (opened_of reading)

-- one more line was read, after lines that gave this ROM
pub record TakesLine (rom : RomText) (old : List Happening) (opened : Option (List OpKind)) (line : List ℕ)
    (new : List Happening) (left : Option (List OpKind)) (held : RomReading) : Type 0 where
  pub now : RomText
  pub takes : Takes rom old opened line now new left
  pub holds : HoldsRom now held

-- the same, of the reader before the line and after it
abbrev pub ReadsLine : {A : Type 0} → TraceReading A → List ℕ → TraceReading A → Type 0
ReadsLine old line new = (rom : RomText) → HoldsRom rom old.rom
    → TakesLine rom (events_read old) (opened_of old) line (events_read new) (opened_of new) new.rom

-- lines that spell an event each were read, so many, where no offer is open, and these are left
pub record ReadsEvents {A : Type 0} (old : TraceReading A) (left : List (List ℕ)) (count : ℕ) (new : TraceReading A)
    (rest : List (List ℕ)) : Type 0 where
  pub outside : opened_of old ≡ None
  pub adds : AddsEvents left (events_read old) count rest (events_read new)
  pub opened : opened_of new ≡ None
  pub rom : new.rom ≡ old.rom

-- lines that spell an operation each were read, so many, where an offer is open, and these are left
pub record ReadsOps {A : Type 0} (old : TraceReading A) (left : List (List ℕ)) (count : ℕ)
    (new : TraceReading A)
    (rest : List (List ℕ)) : Type 0 where
  pub inside : opened_of old ≡ Some old.draft
  pub adds : AddsOps left old.draft count rest new.draft
  pub opened : opened_of new ≡ Some new.draft
  pub events : events_read new ≡ events_read old
  pub rom : new.rom ≡ old.rom

-- so many of these lines were read, all of events or all of operations, and `rest` is left
pub data ReadsAhead {A : Type 0} (old : TraceReading A) (left : List (List ℕ)) (count : ℕ)
    (new : TraceReading A)
    (rest : List (List ℕ)) : Type 0 where
  reads_events : ReadsEvents old left count new rest → ReadsAhead old left count new rest
  reads_ops : ReadsOps old left count new rest → ReadsAhead old left count new rest

-- memory was wanted for one of these lines, which begin with an event that a trace has room for
pub record WantsMemory {A : Type 0} (reading : TraceReading A) (left : List (List ℕ)) : Type 0 where
  pub outside : opened_of reading ≡ None
  pub room : length (events_read reading) < MOST_EVENTS
  pub begins : BeginsWithEvent left

-- all lines of a text were read, and this is held of them
pub record ReadsText {A : Type 0} (text : List ℕ) (reading : TraceReading A) : Type 0 where
  pub rom : RomText
  pub spelled : SpellsTrace rom (events_read reading) (opened_of reading) (unpassed (lines text))
  pub fits : IsHeld reading
  pub holds : HoldsRom rom reading.rom

-- why one more line isn't read
abbrev pub StopsLine : LineFault → List Happening → Option (List OpKind) → RomReading → List ℕ → Type 0
StopsLine line_fault.Syntax old opened held line = (rom now : RomText) (new : List Happening)
    (left : Option (List OpKind)) → HoldsRom rom held → ¬ Takes rom old opened line now new left
StopsLine line_fault.Full old opened held line = (F : List OpKind) × (MAX_OPS < length F)
    × ((rom : RomText) → Takes rom old opened line rom old (Some F))
StopsLine line_fault.Many old opened held line = (new : List Happening) × (MOST_EVENTS < length new)
    × ((rom : RomText) → Takes rom old opened line rom new None)
StopsLine line_fault.Memory old opened held line =
    (new : List Happening) × (1 ≤ length new) × (length new ≤ MOST_EVENTS)
    × ((rom : RomText) → Takes rom old opened line rom new None)
StopsLine _ old opened held line = ⊥

-- why one more operation isn't read
abbrev pub StopsOperation : LineFault → List OpKind → List ℕ → Type 0
StopsOperation line_fault.Syntax F line = (op : OpKind) → ¬ IsOpLine op line
StopsOperation line_fault.Full F line = (op : OpKind) × (MAX_OPS ≤ length F) × IsOpLine op line
StopsOperation _ F line = ⊥

-- why these further events aren't held
abbrev pub StopsEvents : LineFault → List Happening → List Happening → Type 0
StopsEvents line_fault.Many old more = MOST_EVENTS < length old + length more
StopsEvents line_fault.Memory old more = length old + length more ≤ MOST_EVENTS
StopsEvents _ old more = ⊥
