-- The board in the world: logs whose driver's lines are accesses and answers of the machine code.
use Rattle.std.specs.Prelude.{◌≡◌, ◌⊎◌, ℕ, Bool, true, false, List, [], ◌∷◌, ◌++◌, is_none, pos}
use Rattle.dvg_code.specs.declared.instr.Instr.TheVariants.{Labs, Vctr}
use Rattle.dvg_mem.specs.declared.half.Half.TheVariants.{H1}
use Rattle.dvg_mem.specs.Memory.{IsImage, IsRom}
use Rattle.dvg_frame.specs.declared.op.OpKind.{OpKind}
use Rattle.dvg_frame.specs.declared.op.OpKind.TheVariants.{Draw, Halt}
use Rattle.dvg_frame.specs.Faults.{Accepts}
use Rattle.dvg_driver.specs.declared.action.Action.TheVariants.{Peek, Read, Wrote}
use Rattle.dvg_driver.specs.Script
use Rattle.dvg_driver.specs.Script.{Item, Did, has_flip}
use Rattle.dvg_driver.specs.Stands.{ShowsFlag}
use Rattle.dvg_log.specs.Events.{Happening, IsEvent}
use Rattle.dvg_log.specs.declared.event.Event.TheVariants.{Offer, Redraw, Tick}
use Rattle.dvg_log.specs.Entries.{Shown}
use Rattle.dvg_log.specs.declared.entry.Entry.TheVariants.{Offered, Busy, Asked, NothingPublished, Acted}
use Rattle.dvg_log.specs.Log.{◌⟼◌, Log, Throughout, open_run, life}
use Rattle.dvg_log.specs.Legal.{IsLegal, Fits}
use Rattle.dvg_log.specs.Headline.{KeepsHeadline}
use Rattle.dvg_calls_6502.specs.Processor.{Cpu, run, at_return}
use Rattle.dvg_calls_6502.specs.Code.{dvg_tick}
use Rattle.dvg_calls_6502.specs.Routines.{Enters}
use Rattle.dvg_calls_6502.specs.Build.{IsBuilt, put_items}
use Rattle.dvg_calls_6502.specs.Calls
use Rattle.dvg_calls_6502.specs.Calls.{Call, after, has_returned, IsSession, IsLifeOf, IsAnswered}

-- calls of the routines make this life
abbrev pub IsMade : List Item → Type 0
IsMade items = (calls : List Call) × IsSession calls × IsLifeOf calls items

-- what a draft is answered: by dvg_offer, where it is checked before; or by dvg_open, where a program then builds it
abbrev pub IsOfferAnswered : List ℕ → List OpKind → Bool → List Item → Type 0
IsOfferAnswered R F c items = (Accepts F R × IsAnswered (Calls.Offer F) c items)
    ⊎ (IsBuilt R F × IsAnswered (Calls.Open F) c items)

-- an event gets this entry: the driver's are what the machine code does, and the others as they are in each legal log
abbrev pub FitsBoard : List ℕ → List ℕ → Log → Happening → Shown → Type 0
-- an access of the hardware; where the code reads the flag, it shows whether no run is open
FitsBoard R image log Tick (Acted action) = IsMade (Did action ∷ life image log)
    × ShowsFlag action (is_none (open_run log))
-- an answer of dvg_offer or dvg_open: C clear, or C set
FitsBoard R image log (Offer F) Offered = IsOfferAnswered R F false (life image log)
FitsBoard R image log (Offer F) Busy = IsOfferAnswered R F true (life image log)
-- an answer of dvg_redraw: C clear, or C set, where the log says why
FitsBoard R image log Redraw Asked = IsAnswered Calls.Redraw false (life image log)
FitsBoard R image log Redraw Busy = IsAnswered Calls.Redraw true (life image log) × (has_flip (life image log) ≡ true)
FitsBoard R image log Redraw NothingPublished = IsAnswered Calls.Redraw true (life image log)
    × (has_flip (life image log) ≡ false)
FitsBoard R image log event entry = Fits R image log event entry

-- a log of the board, over a ROM and a first image of the RAM
abbrev pub IsBoards : List ℕ → List ℕ → Log → Type 0
IsBoards R image [] = IsRom R × IsImage image
IsBoards R image ((event ⟼ entry) ∷ log) = FitsBoard R image log event entry × IsEvent event × IsBoards R image log

-- each log of the board is legal, and keeps the headline
abbrev pub BoardKeeps : Type 0
BoardKeeps = (R image : List ℕ) (log : Log) → IsBoards R image log → IsLegal R image log
    × Throughout (KeepsHeadline R image) log

-- a frame of one stroke
abbrev pub stroke : List OpKind
stroke = Draw (Labs 512 512 0) ∷ Draw (Vctr 9 (pos 100) (pos 0) 7) ∷ Halt ∷ []

-- there are calls: after the boot the table of that frame is offered, and taken, in the free half; amid that comes an
-- NMI, which counts in byte 0
abbrev pub SomeCalls : Type 0
SomeCalls = (call : Call) × (calls : List Call) × IsSession (call ∷ calls)
    × IsLifeOf (call ∷ calls) (Script.Offered H1 stroke ∷ Did (Read true) ∷ Did Peek ∷ [])
    × (call.from.mem 0 ≡ 0) × ((after call).mem 0 ≡ 1)

-- there are calls of which an NMI does some: amid that offer a tick comes that is idle, after three instructions; and
-- after its store of the phase, where it hasn't returned, one that writes the frame's first byte
abbrev pub SomeTicks : Type 0
SomeTicks = (tick : Call) × (offer : Call) × (calls : List Call) × IsSession (tick ∷ offer ∷ calls)
    × (tick.routine ≡ Calls.Tick) × (offer.routine ≡ Calls.Offer stroke)
    × (has_returned tick ≡ true) × (has_returned offer ≡ false)
    × IsLifeOf (tick ∷ offer ∷ calls)
    (Did (Wrote 0x402 0x00) ∷ Script.Offered H1 stroke ∷ Did (Read true) ∷ Did Peek ∷ [])
    × (idle : Cpu) × (steps : ℕ) × Enters idle dvg_tick × (at_return idle.s (run idle.s steps idle) ≡ true)
    × (offer.others 3 ≡ (run idle.s steps idle).mem)

-- there are calls that build: after such a boot dvg_open, dvg_labs and dvg_close build a frame of one LABS
abbrev pub SomeBuilding : Type 0
SomeBuilding = (call : Call) × (calls : List Call) × IsSession (call ∷ calls)
    × IsLifeOf (call ∷ calls) (put_items 0x4406 (0x00 ∷ 0xB0 ∷ []) ++ (put_items 0x4402 (0x00 ∷ 0xA2 ∷ 0x00 ∷ 0x02 ∷ [])
    ++ Script.Offered H1 (Draw (Labs 512 512 0) ∷ Halt ∷ []) ∷ Did (Read true) ∷ Did Peek ∷ []))

-- and there are logs of the board in which that frame is taken, over each ROM and each first image
abbrev pub SomeLogs : Type 0
SomeLogs = (R image : List ℕ) → IsRom R → IsImage image
    → IsBoards R image ((Offer stroke ⟼ Offered) ∷ (Tick ⟼ Acted (Read true)) ∷ (Tick ⟼ Acted Peek) ∷ [])
