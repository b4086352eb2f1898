-- The kinds of a 6502's instructions: what each does to PC, S, A, X, Y and memory, whatever it computes and reads.
-- Those that may go anywhere, or write anywhere, are Wild.
use Rattle.std.specs.Prelude.{ℕ}
use Rattle.dvg_game_words.specs.Processor
use Rattle.dvg_game_words.specs.Processor.{Instr, Register, A, X, Y, decoded, opcodes}

-- which byte is read or written: zp, zp,X or zp,Y, abs, abs,X or abs,Y
pub data Place : Type 0 where
  ZeroPage : Place
  ZeroPageIndexed : Place
  Absolute : Place
  AbsoluteIndexed : Place

-- which register is set
pub data Sets : Type 0 where
  Nothing : Sets
  Only : Register → Sets

pub data Kind : Type 0 where
  -- it has this many bytes, sets flags and this register, and reads in the zero page, through a pointer, or nothing
  Quiet : Sets → ℕ → Kind
  -- the same, and it reads this byte
  Reads : Sets → Place → Kind
  -- TAX, TXA, TAY, TYA
  Transfer : Register → Register → Kind
  -- it writes one byte, as STA and INC do
  Stores : Place → Kind
  -- PHA, PHP; PLA, PLP
  Push : Kind
  PushFlags : Kind
  Pull : Kind
  PullFlags : Kind
  Branch : Kind
  -- JMP abs, JSR, RTS, RTI
  Jump : Kind
  Call : Kind
  Return : Kind
  Finish : Kind
  -- JMP (abs), TXS, stores through a pointer, BRK, and what no manual has
  Wild : Kind

-- how many bytes such an instruction has
abbrev pub size : Place → ℕ
size ZeroPage = 2
size ZeroPageIndexed = 2
size Absolute = 3
size AbsoluteIndexed = 3

-- one that takes a byte
abbrev pub taking : Sets → Processor.Mode → Kind
taking sets Processor.Absolute = Reads sets Absolute
taking sets Processor.AbsoluteX = Reads sets AbsoluteIndexed
taking sets Processor.AbsoluteY = Reads sets AbsoluteIndexed
taking sets mode = Quiet sets 2

-- one that writes a byte
abbrev pub storing : Processor.Mode → Kind
storing Processor.ZeroPage = Stores ZeroPage
storing Processor.ZeroPageX = Stores ZeroPageIndexed
storing Processor.ZeroPageY = Stores ZeroPageIndexed
storing Processor.Absolute = Stores Absolute
storing Processor.AbsoluteX = Stores AbsoluteIndexed
storing Processor.AbsoluteY = Stores AbsoluteIndexed
storing mode = Wild

-- the kind of each instruction of the processor
abbrev pub kind : Instr → Kind
kind (Processor.Load r mode) = taking (Only r) mode
kind (Processor.Store r mode) = storing mode
kind (Processor.Transfer from to) = Transfer from to
kind (Processor.And mode) = taking (Only A) mode
kind (Processor.Or mode) = taking (Only A) mode
kind (Processor.Xor mode) = taking (Only A) mode
kind (Processor.Add mode) = taking (Only A) mode
kind (Processor.Subtract mode) = taking (Only A) mode
kind (Processor.Compare r mode) = taking Nothing mode
kind (Processor.TestBits mode) = taking Nothing mode
kind (Processor.Change mode by) = storing mode
kind (Processor.Step r by) = Quiet (Only r) 1
kind (Processor.ShiftAt shift mode) = storing mode
kind (Processor.ShiftA shift) = Quiet (Only A) 1
kind (Processor.Set flag to) = Quiet Nothing 1
kind (Processor.Branch flag when) = Branch
kind Processor.Jump = Jump
kind Processor.JumpAt = Wild
kind Processor.Call = Call
kind Processor.Return = Return
kind Processor.PushA = Push
kind Processor.PushFlags = PushFlags
kind Processor.PullA = Pull
kind Processor.PullFlags = PullFlags
kind Processor.FromStack = Quiet (Only X) 1
kind Processor.ToStack = Wild
kind Processor.Resume = Finish
kind Processor.Pass = Quiet Nothing 1
kind Processor.Unknown = Wild

-- the kind of an opcode
abbrev pub kind_of : ℕ → Kind
kind_of opcode = kind (decoded opcodes opcode)
