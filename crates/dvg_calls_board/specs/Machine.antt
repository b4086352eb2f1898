-- One machine: a 6502 that runs the driver's machine code, on the bus of a board of cells.
use Rattle.std.specs.Prelude.{◌≡◌, ℕ, ◌+◌, ◌<◌, Bool, true, false, if◌then◌else◌, nat_eq, List, [], ◌∷◌, slice_index}
use Rattle.std.specs.Prelude.{Option, Some, None, is_none}
use Rattle.dvg_mem.specs.Memory.{IsImage, IsRom}
use Rattle.dvg_frame.specs.declared.op.OpKind.{OpKind}
use Rattle.dvg_frame.specs.Ops.{IsDraft}
use Rattle.dvg_frame.specs.Faults.{Accepts}
use Rattle.dvg_driver.specs.Script.{Item, has_flip}
use Rattle.dvg_log.specs.declared.event.Event.TheVariants.{Offer, Redraw, ResetCpu, ResetAll}
use Rattle.dvg_log.specs.declared.entry.Entry.TheVariants.{Offered, Busy, Asked, NothingPublished, Cleared}
use Rattle.dvg_log.specs.Log.{◌⟼◌, Log, ram, life, open_run, published}
use Rattle.dvg_calls_6502.specs.Processor.{Cpu, Access, Reads, Writes}
use Rattle.dvg_calls_6502.specs.Board.{seen}
use Rattle.dvg_calls_6502.specs.Build.{IsBuilt}
use Rattle.dvg_calls_6502.specs.Calls
use Rattle.dvg_calls_6502.specs.Calls.{Routine, Call, Brings, is_over, answer, IsSession, IsSessionBy, IsLifeOf}
use Rattle.dvg_cells_board.specs.Board.{Board, Bus, q, clock}
use Rattle.dvg_cells_board.specs.Clocks.{IsBus, IsServed, after, sends, looks, changes}
use Rattle.dvg_cells_board.specs.Logs.{did, answered}

-- what a call has accessed of the hardware, the newest first
abbrev pub accesses_of : Call → List Access
accesses_of call = seen (Calls.after call).log

-- a call at its beginning, and some steps later
abbrev pub begun : Routine → Cpu → (ℕ → ℕ → ℕ) → Call
begun routine from others = record { routine = routine; from = from; steps = 0; others = others }

abbrev pub later : ℕ → Call → Call
later n call = record call { steps = call.steps + n }

-- the bus of a clock makes an access: a write, or a read that finds what is on `q` in the next clock, whatever that is
abbrev pub Makes : Board → Bus → Access → Type 0
Makes board bus (Reads a byte) = (bus.access ≡ 1) × (bus.write ≡ 0) × (bus.a ≡ a)
    × ((next : Bus) → q (clock board bus) next ≡ byte)
Makes board bus (Writes a byte) = (bus.access ≡ 1) × (bus.write ≡ 1) × (bus.a ≡ a) × (bus.d ≡ byte)

-- nobody reads the flag or byte 001, or writes the RAM or the strobe
abbrev pub IsIdle : Board → Bus → Type 0
IsIdle board bus = (looks board bus ≡ None) × (changes bus ≡ None)

-- a table that is offered, or a frame that is built, is of a draft; the check accepts it, or each shape that it calls
abbrev pub IsChecked : List ℕ → Routine → Type 0
IsChecked R (Calls.Offer F) = IsDraft F × Accepts F R
IsChecked R (Calls.Open F) = IsDraft F × IsBuilt R F
IsChecked R routine = Unit {0}

-- where the processor is reset, its memory at 4000 to 47FF is the board's RAM
abbrev pub SharesRam : Routine → (ℕ → ℕ) → Board → Type 0
SharesRam Calls.Reset mem board = (a : ℕ) → a < 2048 → mem (0x4000 + a) ≡ board.ram a
SharesRam routine mem board = Unit {0}

-- the calls after a clock: a reset of the whole system ends them
abbrev pub calls_after : Bus → Bool → List Call → List Call
calls_after bus whole calls = if nat_eq bus.reset 0 then calls else if whole then [] else calls

-- the log where a call begins: dvg_reset is a reset of the processor
abbrev pub with_reset : Routine → Log → Log
with_reset Calls.Reset log = (ResetCpu ⟼ Cleared) ∷ log
with_reset routine log = log

-- the log where a call returns with this C, or is decided so: a frame or a redraw is taken, or refused
abbrev pub with_answer : List ℕ → Routine → (c : Bool) → Log → Log
with_answer image (Calls.Offer F) false log = (Offer F ⟼ Offered) ∷ log
with_answer image (Calls.Offer F) true log = (Offer F ⟼ Busy) ∷ log
with_answer image (Calls.Open F) false log = (Offer F ⟼ Offered) ∷ log
with_answer image (Calls.Open F) true log = (Offer F ⟼ Busy) ∷ log
with_answer image Calls.Redraw false log = (Redraw ⟼ Asked) ∷ log
with_answer image Calls.Redraw true log =
    (Redraw ⟼ (if has_flip (life image log) then Busy else NothingPublished)) ∷ log
with_answer image routine c log = log

-- the log after steps of a call without an access: it may be over
abbrev pub told : List ℕ → Call → Log → Log
told image call log = if is_over call then with_answer image call.routine (answer call) log else log

-- a machine so far: the processor's calls, the log, and the board's clocks, each the newest first; what a call brings,
-- and what is checked of it, is as it is asked
pub data IsMachineBy (brings : Routine → Cpu → Option (ℕ × List ℕ) → Type 0) (checks : Routine → Type 0)
    (R image : List ℕ) (held : ℕ → ℕ) : List Call → Log → List Bus → Type 0 where
  -- power-up, with any RAM
  powers : IsRom R → IsImage image → ((a : ℕ) → a < 2048 → held a ≡ slice_index image a) → IsMachineBy brings checks R image held [] [] []
  -- a clock in which the processor leaves the board alone
  waits : {calls : List Call} {log : Log} {older : List Bus} (bus : Bus) (whole : Bool)
      → IsMachineBy brings checks R image held calls log older → IsBus bus → IsServed R (after held older) bus
      → IsIdle (after held older) bus
      → IsMachineBy brings checks R image held (calls_after bus whole calls) (answered image held older bus whole log) (bus ∷ older)
  -- a clock before the first call since power-up or a reset of the whole system, in which the processor does anything
  -- but send a strobe, as a test of the RAM: such a reset again, over what the RAM then holds
  tests : {log : Log} {older : List Bus} (bus : Bus) → IsMachineBy brings checks R image held [] log older → IsBus bus
      → IsServed R (after held older) bus → sends bus ≡ false
      → IsMachineBy brings checks R image held [] ((ResetAll (ram image (did (changes bus) log)) ⟼ Cleared) ∷ log)
      (bus ∷ older)
  -- a call begins
  begins : {calls : List Call} {log : Log} {older : List Bus} (routine : Routine) (from : Cpu) (others : ℕ → ℕ → ℕ)
      → IsMachineBy brings checks R image held calls log older → IsSessionBy brings (begun routine from others ∷ calls)
      → checks routine
      → SharesRam routine from.mem (after held older)
      → IsMachineBy brings checks R image held (begun routine from others ∷ calls) (with_reset routine log) older
  -- it takes steps without an access of the hardware
  steps : {call : Call} {calls : List Call} {log : Log} {older : List Bus} (n : ℕ)
      → IsMachineBy brings checks R image held (call ∷ calls) log older → is_over call ≡ false → IsSessionBy brings (later n call ∷ calls)
      → accesses_of (later n call) ≡ accesses_of call
      → IsMachineBy brings checks R image held (later n call ∷ calls) (told image (later n call) log) older
  -- it takes steps up to an access, which is made on the bus in one clock
  accesses : {call : Call} {calls : List Call} {log : Log} {older : List Bus} (n : ℕ) (access : Access) (bus : Bus)
      → IsMachineBy brings checks R image held (call ∷ calls) log older → IsSessionBy brings (later n call ∷ calls)
      → accesses_of (later n call) ≡ access ∷ accesses_of call → IsBus bus → IsServed R (after held older) bus
      → Makes (after held older) bus access
      → IsMachineBy brings checks R image held (later n call ∷ calls) (did (changes bus) (answered image held older bus false log))
      (bus ∷ older)

-- the machines that the laws speak of
abbrev pub IsMachine : (R image : List ℕ) (held : ℕ → ℕ) → List Call → Log → List Bus → Type 0
IsMachine R image held = IsMachineBy Brings (IsChecked R) R image held

-- this holds of each machine: over each ROM, first image and first content of the RAM, of its calls, log and clocks
abbrev pub OfEachMachine : (List ℕ → List ℕ → (ℕ → ℕ) → List Call → Log → List Bus → Type 0) → Type 0
OfEachMachine P = (R image : List ℕ) (held : ℕ → ℕ) (calls : List Call) (log : Log) (clocks : List Bus)
    → IsMachine R image held calls log clocks → P R image held calls log clocks

-- the driver's lines since its newest reset are what these calls do; without calls there are none
abbrev pub AreDone : List Call → List Item → Type 0
AreDone [] items = items ≡ []
AreDone (call ∷ calls) items = IsLifeOf (call ∷ calls) items

-- what the newest call's memory has at 4000 to 47FF is the board's RAM
abbrev pub HaveRam : List Call → Board → Type 0
HaveRam [] board = Unit {0}
HaveRam (call ∷ calls) board = (a : ℕ) → a < 2048 → (Calls.after call).mem (0x4000 + a) ≡ board.ram a

-- where the newest call reads the vector RAM next, what it finds there is on `q` in the next clock
abbrev pub FindsRam : List Call → Board → Type 0
FindsRam [] board = Unit {0}
FindsRam (call ∷ calls) board = (n a byte : ℕ) → a < 2048 → IsSession (later n call ∷ calls)
    → accesses_of (later n call) ≡ Reads (0x4000 + a) byte ∷ accesses_of call → (bus : Bus) → IsBus bus
    → bus.access ≡ 1 → bus.write ≡ 0 → bus.a ≡ 0x4000 + a → Makes board bus (Reads (0x4000 + a) byte)

-- the board can have a clock more, with neither a reset nor a hold, in which the processor leaves it alone
abbrev pub CanIdle : List ℕ → List ℕ → (ℕ → ℕ) → List Call → Log → List Bus → Type 0
CanIdle R image held calls log clocks = (bus : Bus) × (bus.reset ≡ 0) × (bus.hold ≡ 0)
    × IsIdle (after held clocks) bus
    × IsMachine R image held calls (answered image held clocks bus false log) (bus ∷ clocks)

-- what is written is a byte, and a read of the flag finds in bit 7 whether a run is open
abbrev pub FitsPins : Log → Access → Type 0
FitsPins log (Reads a byte) = a ≡ 0x2002 → byte ≡ (if is_none (open_run log) then 0 else 128)
FitsPins log (Writes a byte) = byte < 256

-- if the newest call's next access fits the pins, the machine can have a clock that makes it
abbrev pub AccessComes : List ℕ → List ℕ → (ℕ → ℕ) → List Call → Log → List Bus → Type 0
AccessComes R image held [] log clocks = Unit {0}
AccessComes R image held (call ∷ calls) log clocks = (n : ℕ) (access : Access) → IsSession (later n call ∷ calls)
    → accesses_of (later n call) ≡ access ∷ accesses_of call → FitsPins log access
    → (bus : Bus) × IsMachine R image held (later n call ∷ calls)
    (did (changes bus) (answered image held clocks bus false log)) (bus ∷ clocks)

-- the check accepts what is published
abbrev pub AcceptsPublished : List ℕ → Log → Type 0
AcceptsPublished R log = (F : List OpKind) → published log ≡ Some F → Accepts F R
