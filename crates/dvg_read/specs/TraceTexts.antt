-- What the text of a trace denotes, and its first fault.
use Rattle.std.specs.Prelude.{◌≡◌, ℕ, ◌<◌, ◌≤◌, List, [], ◌∷◌, ◌++◌, length, replicate, codes, decimal, Option, Some}
use Rattle.std.specs.Prelude.{None, All, IfSome}
use Rattle.std.specs.List.{AllZip}
use Rattle.dvg_frame.specs.declared.op.OpKind.{OpKind}
use Rattle.dvg_log.specs.Events.{Happening}
use Rattle.dvg_log.specs.declared.event.Event.TheVariants.{Offer, Redraw, Tick, Strobe, Fetch, ResetGen, ResetCpu}
use Rattle.dvg_log.specs.declared.event.Event.TheVariants.{ResetAll}
use Rattle.dvg_read.specs.declared.fault.TextFault.{TextFault}
use Rattle.dvg_read.specs.declared.fault.TextFault.TheVariants.{TooLong, Syntax, Full, Many, Unended}
use Rattle.dvg_read.specs.Texts.{IsHex, lines, parts, unpassed}
use Rattle.dvg_read.specs.OpLines.{IsOpLine}
use Rattle.dvg_read.specs.RomTexts.{RomText, SpellsRom}
use Rattle.dvg_read.specs.FirstFaults.{IsShort, Reaches}
use Rattle.dvg_read.specs.declared.draft_text.TheConstants.{MOST_TEXT_BYTES}
use Rattle.dvg_log.specs.declared.trace.TheConstants.{MOST_EVENTS}
use Rattle.dvg_frame.specs.declared.draft.TheConstants.{MAX_OPS}

-- a name alone, or a name and a count
pub data Counts (name : List ℕ) : ℕ → List (List ℕ) → Type 0 where
  once : Counts name 1 (name ∷ [])
  times : {n : ℕ} → 1 ≤ n → n ≤ 9999 → Counts name n (name ∷ decimal n ∷ [])

-- the parts of a line that spells events by itself
pub data EventParts : List Happening → List (List ℕ) → Type 0 where
  redraw : EventParts (Redraw ∷ []) (codes "redraw" ∷ [])
  tick : {n : ℕ} {ps : List (List ℕ)} → Counts (codes "tick") n ps → EventParts (replicate n Tick) ps
  strobe : {n : ℕ} {ps : List (List ℕ)} → Counts (codes "strobe") n ps → EventParts (replicate n Strobe) ps
  fetch : {n : ℕ} {ps : List (List ℕ)} → Counts (codes "fetch") n ps → EventParts (replicate n Fetch) ps
  resetgen : EventParts (ResetGen ∷ []) (codes "resetgen" ∷ [])
  resetcpu : EventParts (ResetCpu ∷ []) (codes "resetcpu" ∷ [])
  resetall : {byte : ℕ} {digits : List ℕ} → IsHex 2 byte digits
      → EventParts (ResetAll (replicate 2048 byte) ∷ []) (codes "resetall" ∷ digits ∷ [])

-- lines of whole events, in order: lines that spell events by themselves, and offers from `offer` to `end`
pub data Whole : List Happening → List (List ℕ) → Type 0 where
  nothing : Whole [] []
  alone : {events more : List Happening} {ls : List (List ℕ)} (line : List ℕ) → Whole events ls
      → EventParts more (parts line) → Whole (events ++ more) (ls ++ line ∷ [])
  offer : {events : List Happening} {ls : List (List ℕ)} (F : List OpKind) (ops : List (List ℕ)) → Whole events ls
      → AllZip IsOpLine F ops
      → Whole (events ++ Offer F ∷ []) (ls ++ codes "offer" ∷ ops ++ codes "end" ∷ [])

-- lines of whole events, and perhaps those of an offer that isn't ended
pub data Begun : List Happening → Option (List OpKind) → List (List ℕ) → Type 0 where
  whole : {events : List Happening} {ls : List (List ℕ)} → Whole events ls → Begun events None ls
  inside : {events : List Happening} {ls : List (List ℕ)} (F : List OpKind) (ops : List (List ℕ)) → Whole events ls
      → AllZip IsOpLine F ops
      → Begun events (Some F) (ls ++ codes "offer" ∷ ops)

-- lines that describe the ROM, and then lines of events
pub record SpellsTrace (rom : RomText) (events : List Happening) (opened : Option (List OpKind))
    (ls : List (List ℕ)) : Type 0 where
  pub front : List (List ℕ)
  pub rest : List (List ℕ)
  pub cut : ls ≡ front ++ rest
  pub head : SpellsRom rom front
  pub begun : Begun events opened rest

-- what an offer brings can be held by a draft
abbrev pub FitsDraft : Happening → Type 0
FitsDraft (Offer F) = length F ≤ MAX_OPS
FitsDraft event = Unit {0}

-- at most 65,536 events, with drafts of at most 511 operations
pub record FitsTrace (events : List Happening) (opened : Option (List OpKind)) : Type 0 where
  pub count : length events ≤ MOST_EVENTS
  pub drafts : All FitsDraft events
  pub last : IfSome opened (λ F. length F ≤ MAX_OPS)

-- the text denotes this ROM and these events: what those of its lines spell that aren't passed over
pub record DenotesTrace (text : List ℕ) (rom : RomText) (events : List Happening) : Type 0 where
  pub short : IsShort text
  pub spelled : SpellsTrace rom events None (unpassed (lines text))
  pub fits : FitsTrace events None

-- lines that spell a ROM and events within the limits, perhaps with an offer that isn't ended
pub record IsFineTrace (ls : List (List ℕ)) : Type 0 where
  pub rom : RomText
  pub events : List Happening
  pub opened : Option (List OpKind)
  pub spelled : SpellsTrace rom events opened ls
  pub fits : FitsTrace events opened

-- line n is the first with which the lines spell nothing
pub record TraceMeetsSyntax (text : List ℕ) (n : ℕ) : Type 0 where
  pub before : List (List ℕ)
  pub line : List ℕ
  pub reaches : Reaches IsFineTrace text n before line
  pub wrong : (rom : RomText) (events : List Happening) (opened : Option (List OpKind))
      → ¬ SpellsTrace rom events opened (unpassed before ++ line ∷ [])

-- line n is that of operation number 511 of an offer, which no draft can hold
pub record TraceMeetsFull (text : List ℕ) (n : ℕ) : Type 0 where
  pub before : List (List ℕ)
  pub line : List ℕ
  pub reaches : Reaches IsFineTrace text n before line
  pub rom : RomText
  pub events : List Happening
  pub F : List OpKind
  pub right : SpellsTrace rom events (Some F) (unpassed before ++ line ∷ [])
  pub over : MAX_OPS < length F

-- line n brings the number of events above 65,536
pub record MeetsMany (text : List ℕ) (n : ℕ) : Type 0 where
  pub before : List (List ℕ)
  pub line : List ℕ
  pub reaches : Reaches IsFineTrace text n before line
  pub rom : RomText
  pub events : List Happening
  pub right : SpellsTrace rom events None (unpassed before ++ line ∷ [])
  pub over : MOST_EVENTS < length events

-- no line is at fault, and the text ends inside an offer
pub record EndsInside (text : List ℕ) : Type 0 where
  pub short : IsShort text
  pub rom : RomText
  pub events : List Happening
  pub F : List OpKind
  pub spelled : SpellsTrace rom events (Some F) (unpassed (lines text))
  pub fits : FitsTrace events (Some F)

-- the fault of a trace's text
abbrev pub HasTraceFault : List ℕ → TextFault → Type 0
HasTraceFault text TooLong = MOST_TEXT_BYTES < length text
HasTraceFault text (Syntax n) = TraceMeetsSyntax text n
HasTraceFault text (Full n) = TraceMeetsFull text n
HasTraceFault text (Many n) = MeetsMany text n
HasTraceFault text Unended = EndsInside text
HasTraceFault text _ = ⊥
