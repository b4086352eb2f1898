-- Each step of the processor that the driver is proved for, and of the cells, is a step of the machine here.
use Rattle.std.specs.Prelude.{◌≡◌, ℕ, zero, suc, ◌+◌, ◌<◌, false, true, None, []}
use Rattle.dvg_calls_6502.specs.Processor
use Rattle.dvg_calls_6502.specs.Processor.{Cpu}
use Rattle.dvg_game_rules.specs.Kinds.{Kind, Stores, AbsoluteIndexed, Jump, Call, Finish, kind_of}
use Rattle.dvg_game_rules.specs.Machine.{State, Choice, IsLoaded, Begins, step, interrupted, word_at, is_driver, nmi_vector}
use Rattle.dvg_game_rules.specs.Machine.{reset_vector}
use Rattle.dvg_game_rules.specs.Checker.{Notes, accepts}
use Rattle.dvg_game_rules.specs.Safe.{IsSafeBy}

-- a state of that processor, with what else the machine keeps
abbrev pub of_cpu : Cpu → State → State
of_cpu cpu st = record st { a = cpu.a; x = cpu.x; y = cpu.y; pc = cpu.pc; s = cpu.s; mem = cpu.mem }

pub record MatchesCpu (st : State) (cpu : Cpu) : Type 0 where
  pub a : st.a ≡ cpu.a
  pub x : st.x ≡ cpu.x
  pub y : st.y ≡ cpu.y
  pub pc : st.pc ≡ cpu.pc
  pub s : st.s ≡ cpu.s
  pub mem : (b : ℕ) → st.mem b ≡ cpu.mem b

-- what is asked of an instruction: none calls the driver, which is one step here, and no RTI leads back into it; and
-- where X or Y goes to the address of a store, it is a byte
abbrev pub IsOwn : Kind → Cpu → State → Type 0
IsOwn Jump cpu st = is_driver (word_at cpu.mem (cpu.pc + 1)) ≡ false
IsOwn Call cpu st = is_driver (word_at cpu.mem (cpu.pc + 1)) ≡ false
IsOwn Finish cpu st = st.home ≡ None
IsOwn (Stores AbsoluteIndexed) cpu st = (cpu.x < 256) × (cpu.y < 256)
IsOwn kind cpu st = Unit {0}

-- each opcode, whatever its flags and operands are
abbrev pub StepsAlike : Type 0
StepsAlike = (cpu : Cpu) (st : State) → IsOwn (kind_of (cpu.mem cpu.pc)) cpu st
    → (choice : Choice) × MatchesCpu (step choice (of_cpu cpu st)) (Processor.step cpu)

-- an NMI, which pushes the flags: A15 isn't decoded, so it goes by the ROM's vector
abbrev pub InterruptsAlike : Type 0
InterruptsAlike = (cpu : Cpu) (st : State) → word_at cpu.mem 0xFFFA ≡ word_at cpu.mem nmi_vector
    → (choice : Choice) × (choice.byte ≡ Processor.flags_byte false cpu)
    × MatchesCpu (interrupted choice (of_cpu cpu st)) (Processor.interrupted cpu)

-- this many steps of the processor
abbrev pub after : ℕ → Cpu → Cpu
after zero cpu = cpu
after (suc n) cpu = after n (Processor.step cpu)

-- no call is open, and no NMI came
abbrev pub idle : Cpu → State
idle cpu = record {
  a = cpu.a;
  x = cpu.x;
  y = cpu.y;
  pc = cpu.pc;
  s = cpu.s;
  mem = cpu.mem;
  since = 0;
  calls = [];
  amid = None;
  home = None;
  awake = false;
  blank = false;
}

-- from a reset, with any memory but the ROM, the processor comes to where a run begins; each instruction up to its TXS
-- is safe, if no NMI comes before
pub record Starts (rom : ℕ → ℕ) (start : ℕ) (cpu : Cpu) : Type 0 where
  pub steps : ℕ
  pub ready : Begins rom start (idle (after steps cpu))
  pub safe : (n : ℕ) → suc n < steps → IsSafeBy (kind_of ((after n cpu).mem (after n cpu).pc)) (idle (after n cpu))

abbrev pub StartsUp : Type 0
StartsUp = (rom : ℕ → ℕ) (start : ℕ) (notes : Notes) → accepts rom start notes ≡ true → (cpu : Cpu)
    → IsLoaded rom cpu.mem → cpu.pc ≡ word_at rom reset_vector → Starts rom start cpu
