-- What each call of a routine does, from its entry to its return.
use Rattle.std.specs.Prelude.{◌≡◌, ◌≢◌, ℕ, ◌+◌, ◌*◌, ◌/◌, ◌%◌, ◌<◌, Bool, true, false, not, List, [], ◌∷◌}
use Rattle.std.specs.Prelude.{length}
use Rattle.dvg_mem.specs.declared.half.Half.{Half}
use Rattle.dvg_mem.specs.Areas.{other}
use Rattle.dvg_frame.specs.declared.op.OpKind.{OpKind}
use Rattle.dvg_driver.specs.declared.action.Action.{Action}
use Rattle.dvg_driver.specs.declared.action.Action.TheVariants.{Peek, Wrote, Read, Sent, Idle}
use Rattle.dvg_driver.specs.Script.{Item, Did, frame_writes}
use Rattle.dvg_driver.specs.Place.{Place, Start, Resting, Writing, Waiting}
use Rattle.dvg_driver.specs.Stands.{ShowsFlag, Stage, StandsAfter, peeked_after}
use Rattle.dvg_calls_6502.specs.Processor.{Cpu, Access, Reads, Writes, put, run, at_return, flag_place}
use Rattle.dvg_calls_6502.specs.Code.{dvg_reset, dvg_tick, dvg_offer, dvg_redraw, dvg_put, dvg_pair, dvg_labs, dvg_vector}
use Rattle.dvg_calls_6502.specs.Board.{seen, is_own, byte1_place, strobe_place, tells_halted, IsLoaded}
use Rattle.dvg_calls_6502.specs.Holds.{Holds}
use Rattle.dvg_calls_6502.specs.Tables.{HasTable, table_of}
use Rattle.dvg_calls_6502.specs.Moves.{number, vector_bytes}

-- at a routine's entry, with nothing logged yet
pub record Enters (cpu : Cpu) (here : ℕ) : Type 0 where
  pub entry : cpu.pc ≡ here
  pub log : cpu.log ≡ []
  pub loaded : IsLoaded cpu.mem
  pub a : cpu.a < 256
  pub x : cpu.x < 256
  pub s : cpu.s < 256

-- an action as its access of the hardware
abbrev pub Shows : Action → List Access → Type 0
Shows Peek accesses = (byte : ℕ) × (accesses ≡ Reads byte1_place byte ∷ [])
Shows (Wrote a byte) accesses = accesses ≡ Writes (0x4000 + a) byte ∷ []
Shows (Read halted) accesses = (byte : ℕ) × (accesses ≡ Reads flag_place byte ∷ []) × (halted ≡ tells_halted byte)
Shows Sent accesses = (byte : ℕ) × (accesses ≡ Writes strobe_place byte ∷ [])
Shows Idle accesses = accesses ≡ []

-- what an action leaves of a memory
abbrev pub acted : Action → (ℕ → ℕ) → ℕ → ℕ
acted (Wrote a byte) mem = put (0x4000 + a) byte mem
acted action mem = mem

-- the call returns with S as it was, after one action that goes on the life; but for its own bytes and the strobe's,
-- memory is as the action leaves it
pub record Ticks (cpu : Cpu) (begin stop peeked : ℕ) (life : List Item) : Type 0 where
  pub steps : ℕ
  pub action : Action
  pub new : Stage
  pub returns : at_return cpu.s (run cpu.s steps cpu) ≡ true
  pub shows : Shows action (seen (run cpu.s steps cpu).log)
  pub tells : ShowsFlag action (tells_halted (cpu.flags 0))
  pub stands : StandsAfter new (peeked_after action (cpu.mem byte1_place) peeked) (Did action ∷ life)
  pub holds : Holds (run cpu.s steps cpu).mem begin stop new
  pub loaded : IsLoaded (run cpu.s steps cpu).mem
  pub kept : (b : ℕ) → is_own b ≡ false → b ≢ strobe_place → (run cpu.s steps cpu).mem b ≡ acted action cpu.mem b

-- each call of dvg_tick does the script's next action
abbrev pub TickRefines : Type 0
TickRefines = (cpu : Cpu) (begin stop : ℕ) (stage : Stage) (peeked : ℕ) (life : List Item) → Enters cpu dvg_tick
    → Holds cpu.mem begin stop stage → StandsAfter stage peeked life → Ticks cpu begin stop peeked life

-- the call returns with S as it was and with this C, touches no hardware, and its memory holds this stage; but for its
-- own bytes, memory is as it was
pub record Answers (cpu : Cpu) (c : Bool) (begin stop : ℕ) (new : Stage) : Type 0 where
  pub steps : ℕ
  pub returns : at_return cpu.s (run cpu.s steps cpu) ≡ true
  pub carry : (run cpu.s steps cpu).c ≡ c
  pub shows : seen (run cpu.s steps cpu).log ≡ []
  pub holds : Holds (run cpu.s steps cpu).mem begin stop new
  pub loaded : IsLoaded (run cpu.s steps cpu).mem
  pub kept : (b : ℕ) → is_own b ≡ false → (run cpu.s steps cpu).mem b ≡ cpu.mem b

-- after dvg_reset a driver stands at its start, whatever memory held
abbrev pub ResetRefines : Type 0
ResetRefines = (cpu : Cpu) (begin stop : ℕ) (half : Half) → Enters cpu dvg_reset
    → Answers cpu cpu.c begin stop (record { place = Start; half = half; flipped = false })

-- the place isn't a rest
abbrev pub IsBusy : Place → Type 0
IsBusy (Resting first) = ⊥
IsBusy place = Unit {0}

-- where the driver rests, dvg_offer takes a table with C clear: the frame's writes are to come
abbrev pub OfferTakes : Type 0
OfferTakes = (cpu : Cpu) (begin stop : ℕ) (half : Half) (flipped first : Bool) (F : List OpKind) → Enters cpu dvg_offer
    → Holds cpu.mem begin stop (record { place = Resting first; half = half; flipped = flipped })
    → HasTable cpu.mem (cpu.a + 256 * cpu.x) F
    → let t = cpu.a + 256 * cpu.x + 2 in
    Answers cpu false t (t + length (table_of F))
    (record { place = Writing (frame_writes (other half) F (not flipped)); half = half; flipped = flipped })

-- and else it answers with C set, and changes nothing
abbrev pub OfferRefuses : Type 0
OfferRefuses = (cpu : Cpu) (begin stop : ℕ) (stage : Stage) → Enters cpu dvg_offer → Holds cpu.mem begin stop stage
    → IsBusy stage.place → Answers cpu true begin stop stage

-- where the driver rests and has flipped, dvg_redraw is taken with C clear: it waits for the generator
abbrev pub RedrawTakes : Type 0
RedrawTakes = (cpu : Cpu) (begin stop : ℕ) (half : Half) (first : Bool) → Enters cpu dvg_redraw
    → Holds cpu.mem begin stop (record { place = Resting first; half = half; flipped = true })
    → Answers cpu false begin stop (record { place = Waiting first; half = half; flipped = true })

-- and else it answers with C set, and changes nothing
abbrev pub RedrawRefuses : Type 0
RedrawRefuses = (cpu : Cpu) (begin stop : ℕ) (stage : Stage) → Enters cpu dvg_redraw → Holds cpu.mem begin stop stage
    → (stage.flipped ≡ true → IsBusy stage.place) → Answers cpu true begin stop stage

-- a routine that puts a part of a frame
pub data Part : Type 0 where
  Put : Part
  Pair : Part
  Labs : Part
  Vector : Part

abbrev pub begins : Part → ℕ
begins Put = dvg_put
begins Pair = dvg_pair
begins Labs = dvg_labs
begins Vector = dvg_vector

-- the bytes that it puts; dvg_vector puts none where there is no such vector
abbrev pub put_by : Part → Cpu → List ℕ
put_by Put cpu = cpu.a ∷ cpu.x ∷ []
put_by Pair cpu = cpu.mem 0x1B ∷ cpu.mem 0x1C ∷ cpu.mem 0x1D ∷ cpu.mem 0x1E ∷ []
put_by Labs cpu =
    cpu.mem 0x1B ∷ (0xA0 + cpu.mem 0x1C % 16) ∷ cpu.mem 0x1D ∷ (16 * (cpu.a / 16) + cpu.mem 0x1E % 16) ∷ []
put_by Vector cpu = vector_bytes (cpu.a / 16) (number (cpu.mem 0x1D) (cpu.mem 0x1E)) (number (cpu.mem 0x1B) (cpu.mem 0x1C))
    (cpu.a % 16)
