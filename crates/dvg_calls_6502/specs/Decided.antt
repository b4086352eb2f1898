-- From where on a call of the main program takes its code alone, so that ticks of an NMI may act.
use Rattle.std.specs.Prelude.{◌≡◌, ◌≢◌, ℕ, ◌<◌, ◌⊎◌, ◌||◌, Bool, true, false, nat_eq, List, [], ◌∷◌}
use Rattle.dvg_calls_6502.specs.Processor.{Cpu, run, at_return}
use Rattle.dvg_calls_6502.specs.Code.{dvg_labs, dvg_pair}
use Rattle.dvg_calls_6502.specs.Board.{IsLoaded, phase_in, seen}
use Rattle.dvg_calls_6502.specs.Routines.{Enters, Put, Pair, Labs, put_by}
use Rattle.dvg_calls_6502.specs.Amid.{ComesOut, CameOut, AreHarmless, amid, guards, is_code, is_work}
use Rattle.dvg_calls_6502.specs.Calls.{Call, Routine, Offer, Open, Redraw, Puts, Close, after, IsSession, is_decided, is_over, answer}

-- the call returns with this C, writes nothing and touches no hardware, whatever others do to all bytes but the code's
pub record IsDecided (cpu : Cpu) (c : Bool) : Type 0 where
  pub steps : ℕ
  pub returns : at_return cpu.s (run cpu.s steps cpu) ≡ true
  pub carry : (run cpu.s steps cpu).c ≡ c
  pub shows : seen (run cpu.s steps cpu).log ≡ seen cpu.log
  pub kept : (run cpu.s steps cpu).mem ≡ cpu.mem
  pub alike : ComesOut (guards is_code cpu.s) cpu

-- after a look that refuses: at the phase in dvg_offer, dvg_open, dvg_put, dvg_pair, dvg_close and dvg_redraw, and at
-- `publish` in dvg_redraw
abbrev pub IsRefusing : Cpu → Type 0
IsRefusing cpu = (((cpu.pc ≡ 0x6900) ⊎ (cpu.pc ≡ 0x6926)) × (nat_eq cpu.y 2 ≡ false))
    ⊎ ((((cpu.pc ≡ 0x6959) ⊎ ((cpu.pc ≡ 0x698B) ⊎ (cpu.pc ≡ 0x6A02))) × (nat_eq cpu.y 7 ≡ false))
    ⊎ (((cpu.pc ≡ 0x6945) × (nat_eq cpu.a 2 ≡ false)) ⊎ ((cpu.pc ≡ 0x694B) × (nat_eq cpu.a 4 ≡ false))))

-- after the store of the phase: in dvg_offer and dvg_open, dvg_redraw, dvg_close
abbrev pub IsTaking : Cpu → Type 0
IsTaking cpu = (cpu.pc ≡ 0x6941) ⊎ ((cpu.pc ≡ 0x6953) ⊎ (cpu.pc ≡ 0x6A15))

-- there a call is decided
abbrev pub Decides : Type 0
Decides = (cpu : Cpu) → IsLoaded cpu.mem → cpu.a < 256 → cpu.y < 256
    → (IsRefusing cpu → IsDecided cpu true) × (IsTaking cpu → IsDecided cpu false)

-- so each call whose answer is decided returns with that C, with S as it was
abbrev pub CallsDecide : Type 0
CallsDecide = (call : Call) (calls : List Call) → IsSession (call ∷ calls) → is_decided call ≡ true
    → IsDecided (after call) (answer call) × ((after call).s ≡ call.from.s)

-- the routines that begin something where the driver is idle
abbrev pub asks : Routine → Bool
asks (Offer F) = true
asks (Open F) = true
asks Redraw = true
asks routine = false

-- where the driver is idle, it is so until such a call is over: ticks amid it do nothing
abbrev pub StaysIdle : Type 0
StaysIdle = (call : Call) (calls : List Call) → IsSession (call ∷ calls) → asks call.routine ≡ true
    → phase_in call.from.mem ≡ 2 → is_over call ≡ false → phase_in (after call).mem ≡ 2

-- the routines that go on with a frame, and begin with a look at the phase
abbrev pub goes_on : Routine → Bool
goes_on (Puts Put) = true
goes_on (Puts Pair) = true
goes_on Close = true
goes_on routine = false

-- where a frame is being built, it is so until such a call is over
abbrev pub StaysBuilding : Type 0
StaysBuilding = (call : Call) (calls : List Call) → IsSession (call ∷ calls) → goes_on call.routine ≡ true
    → phase_in call.from.mem ≡ 7 → is_over call ≡ false → phase_in (after call).mem ≡ 7

-- what dvg_labs takes before it looks at the phase: its code, dvg_y and dvg_x
abbrev pub is_labs : ℕ → Bool
is_labs b = is_code b || is_work b

-- it makes its LABS in dvg_y and dvg_x, and then it is dvg_pair: so where ticks act before that, it counts as a call of
-- dvg_pair, which begins there; the same amid others
pub record MakesLabs (cpu : Cpu) : Type 0 where
  pub place : (run cpu.s 8 cpu).pc ≡ dvg_pair
  pub stack : (run cpu.s 8 cpu).s ≡ cpu.s
  pub shows : seen (run cpu.s 8 cpu).log ≡ []
  pub words : put_by Pair (run cpu.s 8 cpu) ≡ put_by Labs cpu
  pub kept : (b : ℕ) → b ≢ 0x1C → b ≢ 0x1E → (run cpu.s 8 cpu).mem b ≡ cpu.mem b
  pub alike : (others : ℕ → ℕ → ℕ) → AreHarmless (guards is_labs cpu.s) cpu.s others 8 cpu
      → CameOut (guards is_labs cpu.s) (run cpu.s 8 cpu) (amid cpu.s others 8 cpu)

abbrev pub LabsIsPair : Type 0
LabsIsPair = (cpu : Cpu) → Enters cpu dvg_labs → MakesLabs cpu
