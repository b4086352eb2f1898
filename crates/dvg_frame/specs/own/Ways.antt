-- What stands at a place, as the check sees it. Only the check's own functions cite this.
use Rattle.std.specs.Prelude.{◌≡◌, ℕ, ◌+◌, ◌<◌, ◌≤◌, ◌⊎◌, List, length, Some, None}
use Rattle.dvg_code.specs.Spelling.{IsFirst, word_count}
use Rattle.dvg_code.specs.Acts.{Act, Moves, Jumps, Calls, Returns, Halts}
use Rattle.dvg_mem.specs.Memory.{first_word, rom_word}
use Rattle.dvg_frame.specs.declared.draft.TheConstants.{MAX_OPS}
use Rattle.dvg_frame.specs.declared.op.OpKind.{OpKind}
use Rattle.dvg_frame.specs.declared.place.Place.{Place}
use Rattle.dvg_frame.specs.declared.place.Place.TheVariants.{InFrame, InRom}
use Rattle.dvg_frame.specs.declared.fault.FrameFault.{FrameFault}
use Rattle.dvg_frame.specs.declared.fault.FrameFault.TheVariants.{Empty, NoLabs, TooLong, Target, RunsOff, OutOfRom}
use Rattle.dvg_frame.specs.declared.fault.FrameFault.TheVariants.{TooDeep, NoCaller, Loops}
use Rattle.dvg_frame.specs.declared.checking.pair.Pair.{Pair}
use Rattle.dvg_frame.specs.declared.checking.pair.TheConstants.{DEEPEST}
use Rattle.dvg_mem.specs.declared.TheConstants.{ROM_END}
use Rattle.dvg_frame.specs.declared.checking.way.Way.{Way}
use Rattle.dvg_frame.specs.declared.checking.way.Way.TheVariants.{Move, Jump, Call, Return, Halt}
use Rattle.dvg_frame.specs.declared.checking.way.Span.{Span}
use Rattle.dvg_frame.specs.declared.checking.way.Span.TheVariants.{Over, Into}
use Rattle.dvg_frame.specs.Steps.{Stands}
use Rattle.dvg_frame.specs.Faults.{rank}

-- the way of an act with this place after it
abbrev pub way : Act Place → Place → Way
way (Moves instr) after = Move after (word_count instr)
way (Jumps to) after = Jump to
way (Calls to) after = Call to after
way Returns after = Return
way Halts after = Halt

-- what is fetched from a place to where it leads on at its own depth
abbrev pub span : Way → Span
span (Move after words) = Over words
span (Jump to) = Over 1
span (Call to after) = Into to
span Return = Over 1
span Halt = Over 1

-- the operation or instruction at this place leads on in this way
pub record StandsSo (F : List OpKind) (R : List ℕ) (p : Place) (seen : Way) : Type 0 where
  pub act : Act Place
  pub after : Place
  pub stands : Stands F R p act after
  pub is : seen ≡ way act after

-- this is an operation of the draft or a word of the ROM
abbrev pub IsPlaceOf : List OpKind → List ℕ → Place → Type 0
IsPlaceOf F R (InFrame i) = (i < length F) × (i < MAX_OPS)
IsPlaceOf F R (InRom a) = (first_word R ≤ a) × (a < ROM_END)

-- the ROM ends within the instruction at this place
abbrev pub EndsWithin : List ℕ → Place → Type 0
EndsWithin R (InFrame i) = ⊥
EndsWithin R (InRom a) = (word : ℕ) × (rom_word R a ≡ Some word) × IsFirst word × (a + 1 ≡ ROM_END)

-- it leads to the place after it
abbrev pub LeadsOn : Way → Type 0
LeadsOn (Move after words) = Unit {0}
LeadsOn (Jump to) = ⊥
LeadsOn (Call to after) = Unit {0}
LeadsOn Return = ⊥
LeadsOn Halt = ⊥

-- a place at an address at which the ROM has no word
abbrev pub Outside : List ℕ → Place → Type 0
Outside R (InFrame i) = ⊥
Outside R (InRom a) = rom_word R a ≡ None

-- it leads to such a place
abbrev pub LeadsOutside : List ℕ → Way → Type 0
LeadsOutside R (Move after words) = Outside R after
LeadsOutside R (Jump to) = Outside R to
LeadsOutside R (Call to after) = Outside R to ⊎ Outside R after
LeadsOutside R Return = ⊥
LeadsOutside R Halt = ⊥

-- it is a call
abbrev pub IsCall : Way → Type 0
IsCall (Move after words) = ⊥
IsCall (Jump to) = ⊥
IsCall (Call to after) = Unit {0}
IsCall Return = ⊥
IsCall Halt = ⊥

-- it is a return
abbrev pub IsReturn : Way → Type 0
IsReturn (Move after words) = ⊥
IsReturn (Jump to) = ⊥
IsReturn (Call to after) = ⊥
IsReturn Return = Unit {0}
IsReturn Halt = ⊥

-- the fault holds at a pair among this many operations, where this is the way on
abbrev pub HasFaultAt : List ℕ → ℕ → Pair → Way → FrameFault → Type 0
HasFaultAt R count pair seen Empty = ⊥
HasFaultAt R count pair seen NoLabs = ⊥
HasFaultAt R count pair seen TooLong = ⊥
HasFaultAt R count pair seen (Target i) = ⊥
HasFaultAt R count pair seen (RunsOff i) = (pair.place ≡ InFrame i) × (i + 1 ≡ count) × LeadsOn seen
HasFaultAt R count pair seen (OutOfRom p) = (pair.place ≡ p) × LeadsOutside R seen
HasFaultAt R count pair seen (TooDeep p) = (pair.place ≡ p) × IsCall seen × (pair.depth ≡ DEEPEST)
HasFaultAt R count pair seen (NoCaller p) = (pair.place ≡ p) × IsReturn seen × (pair.depth ≡ 0)
HasFaultAt R count pair seen Loops = ⊥

-- this fault holds, and none of a lesser rank does
pub record IsLeast (Holds : FrameFault → Type 0) (fault : FrameFault) : Type 0 where
  pub holds : Holds fault
  pub least : (other : FrameFault) → Holds other → rank fault ≤ rank other
