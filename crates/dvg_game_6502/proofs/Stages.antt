-- Where a play stands, whatever bears its calls: in the game, in a call of the driver, or in an NMI that came amid one.
use Rattle.std.specs.Prelude.{◌≡◌, ◌⊎◌, ℕ, ◌+◌, ◌/◌, ◌%◌, ◌<◌, ◌≤◌, Bool, true, false, List, Option, None, Some}
use Rattle.dvg_calls_6502.specs.Processor.{Cpu, Access, flags_byte}
use Rattle.dvg_calls_6502.specs.Amid.{is_code}
use Rattle.dvg_calls_6502.specs.Calls.{Routine, Call, bounds, entry, frame_of, UnlessReset}
use Rattle.dvg_game_rules.specs.Kinds.{kind_of}
use Rattle.dvg_game_rules.specs.Kinds as kinds
use Rattle.dvg_game_rules.specs.Machine.{State, IsRun, calling, is_outside, restarts, word_at}
use Rattle.dvg_game_rules.specs.Checker.{Notes, accepts}
use Rattle.dvg_game_rules.specs.Safe.{IsSafe}
use Rattle.dvg_game_rules.specs.Alike.{of_cpu}
use Rattle.dvg_game_rules.proofs.RunsAreSafe.{checked_is_safe}
use Rattle.dvg_game_6502.specs.Play.{IsByteWide}
use Rattle.dvg_game_6502.specs.Open.{InRom, Rested}
use Rattle.dvg_game_6502.specs.Interrupt.{IsSpared}
use Rattle.dvg_game_6502.proofs.Bearers.{Bearer}

-- a game that the checker accepts
pub record IsAccepted (rom : ℕ → ℕ) (start : ℕ) : Type 0 where
  pub notes : Notes
  pub yes : accepts rom start notes ≡ true

pub safe_at : {rom : ℕ → ℕ} {start : ℕ} (game : IsAccepted rom start) (st : State) → IsRun rom start st → IsSafe rom st
safe_at {rom} {start} game st run = checked_is_safe rom start game.notes game.yes st run

-- a frame that is begun has something in it
abbrev pub NotBlank : Option (ℕ × List ℕ) → Type 0
NotBlank None = Unit {0}
NotBlank (Some frame) = 1 ≤ frame.0

-- between two calls
pub record Rests (R : List ℕ) (calls : List Call) (mem : ℕ → ℕ) (blank : Bool) : Type 0 where
  pub rested : Rested R calls mem
  pub frame : blank ≡ false → NotBlank (frame_of calls)

-- in the game, or in an NMI that came amid it
pub record InGame (R : List ℕ) (B : Bearer R) (rom : ℕ → ℕ) (start : ℕ) (cpu : Cpu) (since : ℕ) (w : B.World) : Type 0
  where
    pub st : State
    pub run : IsRun rom start (of_cpu cpu st)
    pub homeless : st.home ≡ None
    pub time : st.since ≡ since
    pub bytes : IsByteWide cpu
    pub calls : List Call
    pub between : B.Between calls cpu.mem w
    pub tables : (b : ℕ) → (bounds calls).0 ≤ b → b < (bounds calls).1 → InRom b
    pub rests : st.awake ≡ true → Rests R calls cpu.mem st.blank

-- how the driver was called: by a JSR, whose return address stands there, or by a JMP, which is a call and a return
pub data Back (st : State) (mem : ℕ → ℕ) (s : ℕ) : Type 0 where
  jsr : kind_of (st.mem st.pc) ≡ kinds.Call → s + 2 ≡ st.s → mem (0x100 + (s + 1)) ≡ (st.pc + 2) % 256
      → mem (0x100 + (s + 2)) ≡ (st.pc + 2) / 256 → Back st mem s
  jmp : kind_of (st.mem st.pc) ≡ kinds.Jump → s ≡ st.s → Back st mem s

-- in a call of the driver, where the machine stands at its JSR or JMP
pub record InDriver (R : List ℕ) (B : Bearer R) (rom : ℕ → ℕ) (start : ℕ) (cpu : Cpu) (w : B.World) : Type 0 where
  pub st : State
  pub run : IsRun rom start st
  pub outside : st.amid ≡ None
  pub homeless : st.home ≡ None
  pub calls_it : calling (kind_of (st.mem st.pc)) st ≡ true
  pub goes : restarts st ≡ false
  pub routine : Routine
  pub to : word_at st.mem (st.pc + 1) ≡ entry routine
  pub s : ℕ
  pub back : Back st cpu.mem s
  pub calls : List Call
  pub mine : List Access
  pub doing : B.Amid routine s calls cpu mine w
  pub most : st.s ≤ 255
  pub top : s ≤ st.s
  pub level : (cpu.s ≡ s) ⊎ (cpu.s + 2 ≡ s)
  pub place : is_code cpu.pc ≡ true
  pub rom_kept : (b : ℕ) → 0x4800 ≤ b → b < 0x8000 → cpu.mem b ≡ rom b
  pub stack_kept : (b : ℕ) → 0x100 + st.s < b → b < 0x200 → cpu.mem b ≡ st.mem b
  pub bytes : IsByteWide cpu
  pub frame : UnlessReset routine (st.blank ≡ false → NotBlank (frame_of calls))

-- in an NMI that came amid a call of the driver
pub record InNmi (R : List ℕ) (B : Bearer R) (rom : ℕ → ℕ) (start : ℕ) (cpu : Cpu) (since : ℕ)
    (w : B.World) : Type 0 where
  pub outer : Cpu
  pub driver : InDriver R B rom start outer w
  pub st : State
  pub run : IsRun rom start (of_cpu cpu st)
  pub time : st.since ≡ since
  pub amid : st.amid ≡ Some (record {
    pc = outer.pc;
    s = outer.s;
    p = flags_byte false outer;
    a = outer.a;
    x = outer.x;
    y = outer.y;
  })
  pub home : st.home ≡ Some (driver.st.pc, driver.st.s)
  pub blank : st.blank ≡ driver.st.blank
  pub bytes : IsByteWide cpu
  pub kept : (b : ℕ) → IsSpared outer.s b → is_outside b ≡ false → cpu.mem b ≡ outer.mem b

abbrev pub Stage : (R : List ℕ) (B : Bearer R) (rom : ℕ → ℕ) (start : ℕ) → Cpu → ℕ → B.World → Type 0
Stage R B rom start cpu since w =
    InGame R B rom start cpu since w ⊎ (InDriver R B rom start cpu w ⊎ InNmi R B rom start cpu since w)
