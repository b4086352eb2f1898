-- The other opcodes. Written by crates/dvg_cells_cpu/tables.
use Rattle.std.proofs.Common.{◌+◌, ◌/◌, ◌%◌, true, false, [], ◌∷◌, refl, arith}
use Rattle.dvg_calls_6502.specs.Processor.{Reads, Writes, A, X, Y, found, reads, address, beside, pulled, stack_place}
use Rattle.dvg_calls_6502.specs.Processor.{flags_byte, Transfer, Step, ShiftA, Set, Branch, Jump, JumpAt, Call}
use Rattle.dvg_calls_6502.specs.Processor.{Return, PushA, PushFlags, PullA, PullFlags, FromStack, ToStack, Resume}
use Rattle.dvg_calls_6502.specs.Processor.{Pass, Left, Right, RotateLeft, RotateRight, Negative, Zero, Carry}
use Rattle.dvg_calls_6502.specs.Processor.{Overflow, Decimal, Interrupt, Absolute}
use Rattle.dvg_cells_cpu.specs.Refines.{CellsDo}
use Rattle.dvg_cells_cpu.proofs.Sums.{zero_is, zero_by, minus_by, low_bit, lowest, doubled, rolled_left, rolled_right}
use Rattle.dvg_cells_cpu.proofs.Sums.{halved, branched, flags_is}
use Rattle.dvg_cells_cpu.proofs.OperandReads.{zp, wide, pc1, by_first, by_two, by_jump, by_pull, by_return, by_resume}
use Rattle.dvg_cells_cpu.proofs.OperandReads.{s2, s3}
use Rattle.dvg_cells_cpu.proofs.BusAccesses.{tail1, tail2, tail3, seen_jump, seen_call, call_s, seen_push, seen_pull}
use Rattle.dvg_cells_cpu.proofs.BusAccesses.{seen_return, seen_resume}
use Rattle.dvg_cells_cpu.proofs.Resting.{cy, resting}
use Rattle.dvg_cells_cpu.proofs.Obeying.{Obeys1, Obeys2, Obeys3, Obeys4, Obeys5}

pub obeys_AA : Obeys1 0xAA (Transfer A X)
obeys_AA cpu ir low high back was sound is m0 e =
    (record { rests = record { holds = record { a = refl; x = refl; y = refl; s = refl; pc = pc1 cpu sound; n = refl; z = zero_is _; c = refl; v = refl; d = refl; i = refl }; fetches = refl }; news = []; log = refl; bus = tail1 cpu sound 0xAA is; memory = refl; opcode = (refl, tt) })

pub obeys_A8 : Obeys1 0xA8 (Transfer A Y)
obeys_A8 cpu ir low high back was sound is m0 e =
    (record { rests = record { holds = record { a = refl; x = refl; y = refl; s = refl; pc = pc1 cpu sound; n = refl; z = zero_is _; c = refl; v = refl; d = refl; i = refl }; fetches = refl }; news = []; log = refl; bus = tail1 cpu sound 0xA8 is; memory = refl; opcode = (refl, tt) })

pub obeys_8A : Obeys1 0x8A (Transfer X A)
obeys_8A cpu ir low high back was sound is m0 e =
    (record { rests = record { holds = record { a = refl; x = refl; y = refl; s = refl; pc = pc1 cpu sound; n = refl; z = zero_is _; c = refl; v = refl; d = refl; i = refl }; fetches = refl }; news = []; log = refl; bus = tail1 cpu sound 0x8A is; memory = refl; opcode = (refl, tt) })

pub obeys_98 : Obeys1 0x98 (Transfer Y A)
obeys_98 cpu ir low high back was sound is m0 e =
    (record { rests = record { holds = record { a = refl; x = refl; y = refl; s = refl; pc = pc1 cpu sound; n = refl; z = zero_is _; c = refl; v = refl; d = refl; i = refl }; fetches = refl }; news = []; log = refl; bus = tail1 cpu sound 0x98 is; memory = refl; opcode = (refl, tt) })

pub obeys_E8 : Obeys1 0xE8 (Step X 1)
obeys_E8 cpu ir low high back was sound is m0 e =
    (record { rests = record { holds = record { a = refl; x = refl; y = refl; s = refl; pc = pc1 cpu sound; n = refl; z = zero_is _; c = refl; v = refl; d = refl; i = refl }; fetches = refl }; news = []; log = refl; bus = tail1 cpu sound 0xE8 is; memory = refl; opcode = (refl, tt) })

pub obeys_C8 : Obeys1 0xC8 (Step Y 1)
obeys_C8 cpu ir low high back was sound is m0 e =
    (record { rests = record { holds = record { a = refl; x = refl; y = refl; s = refl; pc = pc1 cpu sound; n = refl; z = zero_is _; c = refl; v = refl; d = refl; i = refl }; fetches = refl }; news = []; log = refl; bus = tail1 cpu sound 0xC8 is; memory = refl; opcode = (refl, tt) })

pub obeys_CA : Obeys1 0xCA (Step X 255)
obeys_CA cpu ir low high back was sound is m0 e =
    (record { rests = record { holds = record { a = refl; x = refl; y = refl; s = refl; pc = pc1 cpu sound; n = refl; z = zero_is _; c = refl; v = refl; d = refl; i = refl }; fetches = refl }; news = []; log = refl; bus = tail1 cpu sound 0xCA is; memory = refl; opcode = (refl, tt) })

pub obeys_88 : Obeys1 0x88 (Step Y 255)
obeys_88 cpu ir low high back was sound is m0 e =
    (record { rests = record { holds = record { a = refl; x = refl; y = refl; s = refl; pc = pc1 cpu sound; n = refl; z = zero_is _; c = refl; v = refl; d = refl; i = refl }; fetches = refl }; news = []; log = refl; bus = tail1 cpu sound 0x88 is; memory = refl; opcode = (refl, tt) })

pub obeys_0A : Obeys1 0x0A (ShiftA Left)
obeys_0A cpu ir low high back was sound is m0 e =
    (record { rests = record { holds = record { a = doubled cpu.a; x = refl; y = refl; s = refl; pc = pc1 cpu sound; n = minus_by _ _ (doubled cpu.a); z = zero_by _ _ (doubled cpu.a); c = refl; v = refl; d = refl; i = refl }; fetches = refl }; news = []; log = refl; bus = tail1 cpu sound 0x0A is; memory = refl; opcode = (refl, tt) })

pub obeys_4A : Obeys1 0x4A (ShiftA Right)
obeys_4A cpu ir low high back was sound is m0 e =
    (record { rests = record { holds = record { a = halved cpu.a (sound.a); x = refl; y = refl; s = refl; pc = pc1 cpu sound; n = minus_by _ _ (halved cpu.a (sound.a)); z = zero_by _ _ (halved cpu.a (sound.a)); c = lowest cpu.a; v = refl; d = refl; i = refl }; fetches = refl }; news = []; log = refl; bus = tail1 cpu sound 0x4A is; memory = refl; opcode = (refl, tt) })

pub obeys_2A : Obeys1 0x2A (ShiftA RotateLeft)
obeys_2A cpu ir low high back was sound is m0 e =
    (record { rests = record { holds = record { a = rolled_left cpu.a cpu.c; x = refl; y = refl; s = refl; pc = pc1 cpu sound; n = minus_by _ _ (rolled_left cpu.a cpu.c); z = zero_by _ _ (rolled_left cpu.a cpu.c); c = refl; v = refl; d = refl; i = refl }; fetches = refl }; news = []; log = refl; bus = tail1 cpu sound 0x2A is; memory = refl; opcode = (refl, tt) })

pub obeys_6A : Obeys1 0x6A (ShiftA RotateRight)
obeys_6A cpu ir low high back was sound is m0 e =
    (record { rests = record { holds = record { a = rolled_right cpu.a cpu.c (sound.a); x = refl; y = refl; s = refl; pc = pc1 cpu sound; n = minus_by _ _ (rolled_right cpu.a cpu.c (sound.a)); z = zero_by _ _ (rolled_right cpu.a cpu.c (sound.a)); c = lowest cpu.a; v = refl; d = refl; i = refl }; fetches = refl }; news = []; log = refl; bus = tail1 cpu sound 0x6A is; memory = refl; opcode = (refl, tt) })

pub obeys_18 : Obeys1 0x18 (Set Carry false)
obeys_18 cpu ir low high back was sound is m0 e =
    (record { rests = record { holds = record { a = refl; x = refl; y = refl; s = refl; pc = pc1 cpu sound; n = refl; z = refl; c = refl; v = refl; d = refl; i = refl }; fetches = refl }; news = []; log = refl; bus = tail1 cpu sound 0x18 is; memory = refl; opcode = (refl, tt) })

pub obeys_38 : Obeys1 0x38 (Set Carry true)
obeys_38 cpu ir low high back was sound is m0 e =
    (record { rests = record { holds = record { a = refl; x = refl; y = refl; s = refl; pc = pc1 cpu sound; n = refl; z = refl; c = refl; v = refl; d = refl; i = refl }; fetches = refl }; news = []; log = refl; bus = tail1 cpu sound 0x38 is; memory = refl; opcode = (refl, tt) })

pub obeys_58 : Obeys1 0x58 (Set Interrupt false)
obeys_58 cpu ir low high back was sound is m0 e =
    (record { rests = record { holds = record { a = refl; x = refl; y = refl; s = refl; pc = pc1 cpu sound; n = refl; z = refl; c = refl; v = refl; d = refl; i = refl }; fetches = refl }; news = []; log = refl; bus = tail1 cpu sound 0x58 is; memory = refl; opcode = (refl, tt) })

pub obeys_78 : Obeys1 0x78 (Set Interrupt true)
obeys_78 cpu ir low high back was sound is m0 e =
    (record { rests = record { holds = record { a = refl; x = refl; y = refl; s = refl; pc = pc1 cpu sound; n = refl; z = refl; c = refl; v = refl; d = refl; i = refl }; fetches = refl }; news = []; log = refl; bus = tail1 cpu sound 0x78 is; memory = refl; opcode = (refl, tt) })

pub obeys_B8 : Obeys1 0xB8 (Set Overflow false)
obeys_B8 cpu ir low high back was sound is m0 e =
    (record { rests = record { holds = record { a = refl; x = refl; y = refl; s = refl; pc = pc1 cpu sound; n = refl; z = refl; c = refl; v = refl; d = refl; i = refl }; fetches = refl }; news = []; log = refl; bus = tail1 cpu sound 0xB8 is; memory = refl; opcode = (refl, tt) })

pub obeys_D8 : Obeys1 0xD8 (Set Decimal false)
obeys_D8 cpu ir low high back was sound is m0 e =
    (record { rests = record { holds = record { a = refl; x = refl; y = refl; s = refl; pc = pc1 cpu sound; n = refl; z = refl; c = refl; v = refl; d = refl; i = refl }; fetches = refl }; news = []; log = refl; bus = tail1 cpu sound 0xD8 is; memory = refl; opcode = (refl, tt) })

pub obeys_F8 : Obeys1 0xF8 (Set Decimal true)
obeys_F8 cpu ir low high back was sound is m0 e =
    (record { rests = record { holds = record { a = refl; x = refl; y = refl; s = refl; pc = pc1 cpu sound; n = refl; z = refl; c = refl; v = refl; d = refl; i = refl }; fetches = refl }; news = []; log = refl; bus = tail1 cpu sound 0xF8 is; memory = refl; opcode = (refl, tt) })

pub obeys_10 : Obeys2 0x10 (Branch Negative false)
obeys_10 cpu ir low high back was sound is m0 m1 d1 e =
    by_first cpu sound (λ d1. CellsDo (Branch Negative false) cpu (resting cpu ir low high back was) (cy m0 0x10 ∷ cy m1 d1 ∷ []))
    (record { rests = record { holds = record { a = refl; x = refl; y = refl; s = refl; pc = branched cpu.pc (zp cpu) false cpu.n sound.pc; n = refl; z = refl; c = refl; v = refl; d = refl; i = refl }; fetches = refl }; news = []; log = refl; bus = tail2 cpu sound 0x10 is; memory = refl; opcode = (refl, (refl, tt)) })
    d1 e.1.0

pub obeys_30 : Obeys2 0x30 (Branch Negative true)
obeys_30 cpu ir low high back was sound is m0 m1 d1 e =
    by_first cpu sound (λ d1. CellsDo (Branch Negative true) cpu (resting cpu ir low high back was) (cy m0 0x30 ∷ cy m1 d1 ∷ []))
    (record { rests = record { holds = record { a = refl; x = refl; y = refl; s = refl; pc = branched cpu.pc (zp cpu) true cpu.n sound.pc; n = refl; z = refl; c = refl; v = refl; d = refl; i = refl }; fetches = refl }; news = []; log = refl; bus = tail2 cpu sound 0x30 is; memory = refl; opcode = (refl, (refl, tt)) })
    d1 e.1.0

pub obeys_D0 : Obeys2 0xD0 (Branch Zero false)
obeys_D0 cpu ir low high back was sound is m0 m1 d1 e =
    by_first cpu sound (λ d1. CellsDo (Branch Zero false) cpu (resting cpu ir low high back was) (cy m0 0xD0 ∷ cy m1 d1 ∷ []))
    (record { rests = record { holds = record { a = refl; x = refl; y = refl; s = refl; pc = branched cpu.pc (zp cpu) false cpu.z sound.pc; n = refl; z = refl; c = refl; v = refl; d = refl; i = refl }; fetches = refl }; news = []; log = refl; bus = tail2 cpu sound 0xD0 is; memory = refl; opcode = (refl, (refl, tt)) })
    d1 e.1.0

pub obeys_F0 : Obeys2 0xF0 (Branch Zero true)
obeys_F0 cpu ir low high back was sound is m0 m1 d1 e =
    by_first cpu sound (λ d1. CellsDo (Branch Zero true) cpu (resting cpu ir low high back was) (cy m0 0xF0 ∷ cy m1 d1 ∷ []))
    (record { rests = record { holds = record { a = refl; x = refl; y = refl; s = refl; pc = branched cpu.pc (zp cpu) true cpu.z sound.pc; n = refl; z = refl; c = refl; v = refl; d = refl; i = refl }; fetches = refl }; news = []; log = refl; bus = tail2 cpu sound 0xF0 is; memory = refl; opcode = (refl, (refl, tt)) })
    d1 e.1.0

pub obeys_90 : Obeys2 0x90 (Branch Carry false)
obeys_90 cpu ir low high back was sound is m0 m1 d1 e =
    by_first cpu sound (λ d1. CellsDo (Branch Carry false) cpu (resting cpu ir low high back was) (cy m0 0x90 ∷ cy m1 d1 ∷ []))
    (record { rests = record { holds = record { a = refl; x = refl; y = refl; s = refl; pc = branched cpu.pc (zp cpu) false cpu.c sound.pc; n = refl; z = refl; c = refl; v = refl; d = refl; i = refl }; fetches = refl }; news = []; log = refl; bus = tail2 cpu sound 0x90 is; memory = refl; opcode = (refl, (refl, tt)) })
    d1 e.1.0

pub obeys_B0 : Obeys2 0xB0 (Branch Carry true)
obeys_B0 cpu ir low high back was sound is m0 m1 d1 e =
    by_first cpu sound (λ d1. CellsDo (Branch Carry true) cpu (resting cpu ir low high back was) (cy m0 0xB0 ∷ cy m1 d1 ∷ []))
    (record { rests = record { holds = record { a = refl; x = refl; y = refl; s = refl; pc = branched cpu.pc (zp cpu) true cpu.c sound.pc; n = refl; z = refl; c = refl; v = refl; d = refl; i = refl }; fetches = refl }; news = []; log = refl; bus = tail2 cpu sound 0xB0 is; memory = refl; opcode = (refl, (refl, tt)) })
    d1 e.1.0

pub obeys_50 : Obeys2 0x50 (Branch Overflow false)
obeys_50 cpu ir low high back was sound is m0 m1 d1 e =
    by_first cpu sound (λ d1. CellsDo (Branch Overflow false) cpu (resting cpu ir low high back was) (cy m0 0x50 ∷ cy m1 d1 ∷ []))
    (record { rests = record { holds = record { a = refl; x = refl; y = refl; s = refl; pc = branched cpu.pc (zp cpu) false cpu.v sound.pc; n = refl; z = refl; c = refl; v = refl; d = refl; i = refl }; fetches = refl }; news = []; log = refl; bus = tail2 cpu sound 0x50 is; memory = refl; opcode = (refl, (refl, tt)) })
    d1 e.1.0

pub obeys_70 : Obeys2 0x70 (Branch Overflow true)
obeys_70 cpu ir low high back was sound is m0 m1 d1 e =
    by_first cpu sound (λ d1. CellsDo (Branch Overflow true) cpu (resting cpu ir low high back was) (cy m0 0x70 ∷ cy m1 d1 ∷ []))
    (record { rests = record { holds = record { a = refl; x = refl; y = refl; s = refl; pc = branched cpu.pc (zp cpu) true cpu.v sound.pc; n = refl; z = refl; c = refl; v = refl; d = refl; i = refl }; fetches = refl }; news = []; log = refl; bus = tail2 cpu sound 0x70 is; memory = refl; opcode = (refl, (refl, tt)) })
    d1 e.1.0

pub obeys_4C : Obeys3 0x4C Jump
obeys_4C cpu ir low high back was sound is m0 m1 m2 d1 d2 e =
    by_two cpu sound (λ d1 d2. CellsDo Jump cpu (resting cpu ir low high back was) (cy m0 0x4C ∷ cy m1 d1 ∷ cy m2 d2 ∷ []))
    (record { rests = record { holds = record { a = refl; x = refl; y = refl; s = refl; pc = refl; n = refl; z = refl; c = refl; v = refl; d = refl; i = refl }; fetches = refl }; news = []; log = refl; bus = tail3 cpu sound 0x4C is; memory = refl; opcode = (refl, (refl, (refl, tt))) })
    d1 d2 e.1.0 e.1.1.0

pub obeys_6C : Obeys5 0x6C JumpAt
obeys_6C cpu ir low high back was sound is m0 m1 m2 m3 m4 d1 d2 d3 d4 e =
    by_jump cpu sound (λ d1 d2 d3 d4. CellsDo JumpAt cpu (resting cpu ir low high back was) (cy m0 0x6C ∷ cy m1 d1 ∷ cy m2 d2 ∷ cy m3 d3 ∷ cy m4 d4 ∷ []))
    (record { rests = record { holds = record { a = refl; x = refl; y = refl; s = refl; pc = refl; n = refl; z = refl; c = refl; v = refl; d = refl; i = refl }; fetches = refl }; news = Reads (beside cpu) (found (beside cpu) (reads (address Absolute cpu) cpu)) ∷ Reads (wide cpu) (found (wide cpu) cpu) ∷ []; log = refl; bus = seen_jump cpu sound 0x6C is; memory = refl; opcode = (refl, (refl, (refl, (refl, (refl, tt))))) })
    d1 d2 d3 d4 e.1.0 e.1.1.0 e.1.1.1.0 e.1.1.1.1.0

pub obeys_20 : Obeys5 0x20 Call
obeys_20 cpu ir low high back was sound is m0 m1 m2 m3 m4 d1 d2 d3 d4 e =
    by_two cpu sound (λ d1 d2. CellsDo Call cpu (resting cpu ir low high back was) (cy m0 0x20 ∷ cy m1 d1 ∷ cy m2 d2 ∷ cy m3 d3 ∷ cy m4 d4 ∷ []))
    (record { rests = record { holds = record { a = refl; x = refl; y = refl; s = call_s cpu sound 0x20 is; pc = refl; n = refl; z = refl; c = refl; v = refl; d = refl; i = refl }; fetches = refl }; news = Writes (stack_place (cpu.s + 255)) ((cpu.pc + 2) % 256) ∷ Writes (stack_place cpu.s) ((cpu.pc + 2) / 256) ∷ []; log = refl; bus = seen_call cpu sound 0x20 is; memory = refl; opcode = (refl, (refl, (refl, (refl, (refl, tt))))) })
    d1 d2 e.1.0 e.1.1.0

pub obeys_60 : Obeys3 0x60 Return
obeys_60 cpu ir low high back was sound is m0 m1 m2 d1 d2 e =
    by_return cpu sound (λ d1 d2. CellsDo Return cpu (resting cpu ir low high back was) (cy m0 0x60 ∷ cy m1 d1 ∷ cy m2 d2 ∷ []))
    (record { rests = record { holds = record { a = refl; x = refl; y = refl; s = s2 cpu sound; pc = refl; n = refl; z = refl; c = refl; v = refl; d = refl; i = refl }; fetches = refl }; news = []; log = refl; bus = seen_return cpu sound 0x60 is; memory = refl; opcode = (refl, (refl, (refl, tt))) })
    d1 d2 e.1.0 e.1.1.0

pub obeys_48 : Obeys2 0x48 PushA
obeys_48 cpu ir low high back was sound is m0 m1 d1 e =
    (record { rests = record { holds = record { a = refl; x = refl; y = refl; s = refl; pc = pc1 cpu sound; n = refl; z = refl; c = refl; v = refl; d = refl; i = refl }; fetches = refl }; news = Writes (stack_place cpu.s) cpu.a ∷ []; log = refl; bus = seen_push cpu sound 0x48 is cpu.a cpu.a refl; memory = refl; opcode = (refl, (refl, tt)) })

pub obeys_08 : Obeys2 0x08 PushFlags
obeys_08 cpu ir low high back was sound is m0 m1 d1 e =
    (record { rests = record { holds = record { a = refl; x = refl; y = refl; s = refl; pc = pc1 cpu sound; n = refl; z = refl; c = refl; v = refl; d = refl; i = refl }; fetches = refl }; news = Writes (stack_place cpu.s) (flags_byte true cpu) ∷ []; log = refl; bus = seen_push cpu sound 0x08 is _ (flags_byte true cpu) (flags_is cpu true); memory = refl; opcode = (refl, (refl, tt)) })

pub obeys_68 : Obeys2 0x68 PullA
obeys_68 cpu ir low high back was sound is m0 m1 d1 e =
    by_pull cpu sound (λ d1. CellsDo PullA cpu (resting cpu ir low high back was) (cy m0 0x68 ∷ cy m1 d1 ∷ []))
    (record { rests = record { holds = record { a = refl; x = refl; y = refl; s = refl; pc = pc1 cpu sound; n = refl; z = zero_is _; c = refl; v = refl; d = refl; i = refl }; fetches = refl }; news = []; log = refl; bus = seen_pull cpu sound 0x68 is; memory = refl; opcode = (refl, (refl, tt)) })
    d1 e.1.0

pub obeys_28 : Obeys2 0x28 PullFlags
obeys_28 cpu ir low high back was sound is m0 m1 d1 e =
    by_pull cpu sound (λ d1. CellsDo PullFlags cpu (resting cpu ir low high back was) (cy m0 0x28 ∷ cy m1 d1 ∷ []))
    (record { rests = record { holds = record { a = refl; x = refl; y = refl; s = refl; pc = pc1 cpu sound; n = low_bit (pulled 1 cpu / 128 % 2) (omega arith); z = low_bit (pulled 1 cpu / 2 % 2) (omega arith); c = low_bit (pulled 1 cpu / 1 % 2) (omega arith); v = low_bit (pulled 1 cpu / 64 % 2) (omega arith); d = low_bit (pulled 1 cpu / 8 % 2) (omega arith); i = low_bit (pulled 1 cpu / 4 % 2) (omega arith) }; fetches = refl }; news = []; log = refl; bus = seen_pull cpu sound 0x28 is; memory = refl; opcode = (refl, (refl, tt)) })
    d1 e.1.0

pub obeys_BA : Obeys1 0xBA FromStack
obeys_BA cpu ir low high back was sound is m0 e =
    (record { rests = record { holds = record { a = refl; x = refl; y = refl; s = refl; pc = pc1 cpu sound; n = refl; z = zero_is _; c = refl; v = refl; d = refl; i = refl }; fetches = refl }; news = []; log = refl; bus = tail1 cpu sound 0xBA is; memory = refl; opcode = (refl, tt) })

pub obeys_9A : Obeys1 0x9A ToStack
obeys_9A cpu ir low high back was sound is m0 e =
    (record { rests = record { holds = record { a = refl; x = refl; y = refl; s = refl; pc = pc1 cpu sound; n = refl; z = refl; c = refl; v = refl; d = refl; i = refl }; fetches = refl }; news = []; log = refl; bus = tail1 cpu sound 0x9A is; memory = refl; opcode = (refl, tt) })

pub obeys_40 : Obeys4 0x40 Resume
obeys_40 cpu ir low high back was sound is m0 m1 m2 m3 d1 d2 d3 e =
    by_resume cpu sound (λ d1 d2 d3. CellsDo Resume cpu (resting cpu ir low high back was) (cy m0 0x40 ∷ cy m1 d1 ∷ cy m2 d2 ∷ cy m3 d3 ∷ []))
    (record { rests = record { holds = record { a = refl; x = refl; y = refl; s = s3 cpu sound; pc = refl; n = low_bit (pulled 1 cpu / 128 % 2) (omega arith); z = low_bit (pulled 1 cpu / 2 % 2) (omega arith); c = low_bit (pulled 1 cpu / 1 % 2) (omega arith); v = low_bit (pulled 1 cpu / 64 % 2) (omega arith); d = low_bit (pulled 1 cpu / 8 % 2) (omega arith); i = low_bit (pulled 1 cpu / 4 % 2) (omega arith) }; fetches = refl }; news = []; log = refl; bus = seen_resume cpu sound 0x40 is; memory = refl; opcode = (refl, (refl, (refl, (refl, tt)))) })
    d1 d2 d3 e.1.0 e.1.1.0 e.1.1.1.0

pub obeys_EA : Obeys1 0xEA Pass
obeys_EA cpu ir low high back was sound is m0 e =
    (record { rests = record { holds = record { a = refl; x = refl; y = refl; s = refl; pc = pc1 cpu sound; n = refl; z = refl; c = refl; v = refl; d = refl; i = refl }; fetches = refl }; news = []; log = refl; bus = tail1 cpu sound 0xEA is; memory = refl; opcode = (refl, tt) })
