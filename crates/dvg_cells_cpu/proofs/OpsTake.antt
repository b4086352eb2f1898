-- The opcodes that take a byte. Written by crates/dvg_cells_cpu/tables.
use Rattle.std.proofs.Common.{◌+◌, [], ◌∷◌, refl, arith}
use Rattle.dvg_calls_6502.specs.Processor.{Reads, A, X, Y, found, Load, And, Or, Xor, Compare, TestBits, Immediate}
use Rattle.dvg_calls_6502.specs.Processor.{ZeroPage, ZeroPageX, ZeroPageY, Absolute, AbsoluteX, AbsoluteY}
use Rattle.dvg_calls_6502.specs.Processor.{IndexedIndirect, IndirectIndexed}
use Rattle.dvg_cells_cpu.specs.Refines.{CellsDo}
use Rattle.dvg_cells_cpu.proofs.Sums.{flat, rejoined, zero_is, zero_by, minus_by, differs, over_of}
use Rattle.dvg_cells_cpu.proofs.OperandReads.{zp, zp_by, wide, wide_by, word, word_by, pc2, pc3, found_byte, by_first}
use Rattle.dvg_cells_cpu.proofs.OperandReads.{by_zero_page, by_zero_page_i, by_absolute, by_absolute_i, by_indirect}
use Rattle.dvg_cells_cpu.proofs.OperandReads.{by_indirect_x}
use Rattle.dvg_cells_cpu.proofs.BusAccesses.{seen_at, tail2, tail3, tail_at}
use Rattle.dvg_cells_cpu.proofs.Resting.{cy, resting}
use Rattle.dvg_cells_cpu.proofs.Obeying.{Obeys2, Obeys3, Obeys4, Obeys5}

pub obeys_A9 : Obeys2 0xA9 (Load A Immediate)
obeys_A9 cpu ir low high back was sound is m0 m1 d1 e =
    by_first cpu sound (λ d1. CellsDo (Load A Immediate) cpu (resting cpu ir low high back was) (cy m0 0xA9 ∷ cy m1 d1 ∷ []))
    (record { rests = record { holds = record { a = refl; x = refl; y = refl; s = refl; pc = pc2 cpu sound; n = refl; z = zero_is _; c = refl; v = refl; d = refl; i = refl }; fetches = refl }; news = []; log = refl; bus = tail2 cpu sound 0xA9 is; memory = refl; opcode = (refl, (refl, tt)) })
    d1 e.1.0

pub obeys_A5 : Obeys3 0xA5 (Load A ZeroPage)
obeys_A5 cpu ir low high back was sound is m0 m1 m2 d1 d2 e =
    by_zero_page cpu sound (λ d1 d2. CellsDo (Load A ZeroPage) cpu (resting cpu ir low high back was) (cy m0 0xA5 ∷ cy m1 d1 ∷ cy m2 d2 ∷ []))
    (record { rests = record { holds = record { a = refl; x = refl; y = refl; s = refl; pc = pc2 cpu sound; n = refl; z = zero_is _; c = refl; v = refl; d = refl; i = refl }; fetches = refl }; news = Reads (zp cpu) (found (zp cpu) cpu) ∷ []; log = refl; bus = seen_at _ _ (flat _) (λ p. Reads p (found (zp cpu) cpu)) _ _ (tail2 cpu sound 0xA5 is); memory = refl; opcode = (refl, (refl, (refl, tt))) })
    d1 d2 e.1.0 e.1.1.0

pub obeys_B5 : Obeys3 0xB5 (Load A ZeroPageX)
obeys_B5 cpu ir low high back was sound is m0 m1 m2 d1 d2 e =
    by_zero_page_i cpu sound cpu.x (λ d1 d2. CellsDo (Load A ZeroPageX) cpu (resting cpu ir low high back was) (cy m0 0xB5 ∷ cy m1 d1 ∷ cy m2 d2 ∷ []))
    (record { rests = record { holds = record { a = refl; x = refl; y = refl; s = refl; pc = pc2 cpu sound; n = refl; z = zero_is _; c = refl; v = refl; d = refl; i = refl }; fetches = refl }; news = Reads (zp_by cpu cpu.x) (found (zp_by cpu cpu.x) cpu) ∷ []; log = refl; bus = seen_at _ _ (flat _) (λ p. Reads p (found (zp_by cpu cpu.x) cpu)) _ _ (tail2 cpu sound 0xB5 is); memory = refl; opcode = (refl, (refl, (refl, tt))) })
    d1 d2 e.1.0 e.1.1.0

pub obeys_AD : Obeys4 0xAD (Load A Absolute)
obeys_AD cpu ir low high back was sound is m0 m1 m2 m3 d1 d2 d3 e =
    by_absolute cpu sound (λ d1 d2 d3. CellsDo (Load A Absolute) cpu (resting cpu ir low high back was) (cy m0 0xAD ∷ cy m1 d1 ∷ cy m2 d2 ∷ cy m3 d3 ∷ []))
    (record { rests = record { holds = record { a = refl; x = refl; y = refl; s = refl; pc = pc3 cpu sound; n = refl; z = zero_is _; c = refl; v = refl; d = refl; i = refl }; fetches = refl }; news = Reads (wide cpu) (found (wide cpu) cpu) ∷ []; log = refl; bus = seen_at _ _ (refl) (λ p. Reads p (found (wide cpu) cpu)) _ _ (tail3 cpu sound 0xAD is); memory = refl; opcode = (refl, (refl, (refl, (refl, tt)))) })
    d1 d2 d3 e.1.0 e.1.1.0 e.1.1.1.0

pub obeys_BD : Obeys4 0xBD (Load A AbsoluteX)
obeys_BD cpu ir low high back was sound is m0 m1 m2 m3 d1 d2 d3 e =
    by_absolute_i cpu sound cpu.x (λ d1 d2 d3. CellsDo (Load A AbsoluteX) cpu (resting cpu ir low high back was) (cy m0 0xBD ∷ cy m1 d1 ∷ cy m2 d2 ∷ cy m3 d3 ∷ []))
    (record { rests = record { holds = record { a = refl; x = refl; y = refl; s = refl; pc = pc3 cpu sound; n = refl; z = zero_is _; c = refl; v = refl; d = refl; i = refl }; fetches = refl }; news = Reads (wide_by cpu cpu.x) (found (wide_by cpu cpu.x) cpu) ∷ []; log = refl; bus = seen_at _ _ (rejoined _ (omega arith)) (λ p. Reads p (found (wide_by cpu cpu.x) cpu)) _ _ (tail3 cpu sound 0xBD is); memory = refl; opcode = (refl, (refl, (refl, (refl, tt)))) })
    d1 d2 d3 e.1.0 e.1.1.0 e.1.1.1.0

pub obeys_B9 : Obeys4 0xB9 (Load A AbsoluteY)
obeys_B9 cpu ir low high back was sound is m0 m1 m2 m3 d1 d2 d3 e =
    by_absolute_i cpu sound cpu.y (λ d1 d2 d3. CellsDo (Load A AbsoluteY) cpu (resting cpu ir low high back was) (cy m0 0xB9 ∷ cy m1 d1 ∷ cy m2 d2 ∷ cy m3 d3 ∷ []))
    (record { rests = record { holds = record { a = refl; x = refl; y = refl; s = refl; pc = pc3 cpu sound; n = refl; z = zero_is _; c = refl; v = refl; d = refl; i = refl }; fetches = refl }; news = Reads (wide_by cpu cpu.y) (found (wide_by cpu cpu.y) cpu) ∷ []; log = refl; bus = seen_at _ _ (rejoined _ (omega arith)) (λ p. Reads p (found (wide_by cpu cpu.y) cpu)) _ _ (tail3 cpu sound 0xB9 is); memory = refl; opcode = (refl, (refl, (refl, (refl, tt)))) })
    d1 d2 d3 e.1.0 e.1.1.0 e.1.1.1.0

pub obeys_A1 : Obeys5 0xA1 (Load A IndexedIndirect)
obeys_A1 cpu ir low high back was sound is m0 m1 m2 m3 m4 d1 d2 d3 d4 e =
    by_indirect_x cpu sound (λ d1 d2 d3 d4. CellsDo (Load A IndexedIndirect) cpu (resting cpu ir low high back was) (cy m0 0xA1 ∷ cy m1 d1 ∷ cy m2 d2 ∷ cy m3 d3 ∷ cy m4 d4 ∷ []))
    (record { rests = record { holds = record { a = refl; x = refl; y = refl; s = refl; pc = pc2 cpu sound; n = refl; z = zero_is _; c = refl; v = refl; d = refl; i = refl }; fetches = refl }; news = Reads (word cpu (zp_by cpu cpu.x)) (found (word cpu (zp_by cpu cpu.x)) cpu) ∷ []; log = refl; bus = seen_at _ _ (refl) (λ p. Reads p (found (word cpu (zp_by cpu cpu.x)) cpu)) _ _ (tail_at cpu sound 0xA1 is (zp_by cpu cpu.x)); memory = refl; opcode = (refl, (refl, (refl, (refl, (refl, tt))))) })
    d1 d2 d3 d4 e.1.0 e.1.1.0 e.1.1.1.0 e.1.1.1.1.0

pub obeys_B1 : Obeys5 0xB1 (Load A IndirectIndexed)
obeys_B1 cpu ir low high back was sound is m0 m1 m2 m3 m4 d1 d2 d3 d4 e =
    by_indirect cpu sound (λ d1 d2 d3 d4. CellsDo (Load A IndirectIndexed) cpu (resting cpu ir low high back was) (cy m0 0xB1 ∷ cy m1 d1 ∷ cy m2 d2 ∷ cy m3 d3 ∷ cy m4 d4 ∷ []))
    (record { rests = record { holds = record { a = refl; x = refl; y = refl; s = refl; pc = pc2 cpu sound; n = refl; z = zero_is _; c = refl; v = refl; d = refl; i = refl }; fetches = refl }; news = Reads (word_by cpu (zp cpu)) (found (word_by cpu (zp cpu)) cpu) ∷ []; log = refl; bus = seen_at _ _ (rejoined _ (omega arith)) (λ p. Reads p (found (word_by cpu (zp cpu)) cpu)) _ _ (tail_at cpu sound 0xB1 is (zp cpu)); memory = refl; opcode = (refl, (refl, (refl, (refl, (refl, tt))))) })
    d1 d2 d3 d4 e.1.0 e.1.1.0 e.1.1.1.0 e.1.1.1.1.0

pub obeys_A2 : Obeys2 0xA2 (Load X Immediate)
obeys_A2 cpu ir low high back was sound is m0 m1 d1 e =
    by_first cpu sound (λ d1. CellsDo (Load X Immediate) cpu (resting cpu ir low high back was) (cy m0 0xA2 ∷ cy m1 d1 ∷ []))
    (record { rests = record { holds = record { a = refl; x = refl; y = refl; s = refl; pc = pc2 cpu sound; n = refl; z = zero_is _; c = refl; v = refl; d = refl; i = refl }; fetches = refl }; news = []; log = refl; bus = tail2 cpu sound 0xA2 is; memory = refl; opcode = (refl, (refl, tt)) })
    d1 e.1.0

pub obeys_A6 : Obeys3 0xA6 (Load X ZeroPage)
obeys_A6 cpu ir low high back was sound is m0 m1 m2 d1 d2 e =
    by_zero_page cpu sound (λ d1 d2. CellsDo (Load X ZeroPage) cpu (resting cpu ir low high back was) (cy m0 0xA6 ∷ cy m1 d1 ∷ cy m2 d2 ∷ []))
    (record { rests = record { holds = record { a = refl; x = refl; y = refl; s = refl; pc = pc2 cpu sound; n = refl; z = zero_is _; c = refl; v = refl; d = refl; i = refl }; fetches = refl }; news = Reads (zp cpu) (found (zp cpu) cpu) ∷ []; log = refl; bus = seen_at _ _ (flat _) (λ p. Reads p (found (zp cpu) cpu)) _ _ (tail2 cpu sound 0xA6 is); memory = refl; opcode = (refl, (refl, (refl, tt))) })
    d1 d2 e.1.0 e.1.1.0

pub obeys_B6 : Obeys3 0xB6 (Load X ZeroPageY)
obeys_B6 cpu ir low high back was sound is m0 m1 m2 d1 d2 e =
    by_zero_page_i cpu sound cpu.y (λ d1 d2. CellsDo (Load X ZeroPageY) cpu (resting cpu ir low high back was) (cy m0 0xB6 ∷ cy m1 d1 ∷ cy m2 d2 ∷ []))
    (record { rests = record { holds = record { a = refl; x = refl; y = refl; s = refl; pc = pc2 cpu sound; n = refl; z = zero_is _; c = refl; v = refl; d = refl; i = refl }; fetches = refl }; news = Reads (zp_by cpu cpu.y) (found (zp_by cpu cpu.y) cpu) ∷ []; log = refl; bus = seen_at _ _ (flat _) (λ p. Reads p (found (zp_by cpu cpu.y) cpu)) _ _ (tail2 cpu sound 0xB6 is); memory = refl; opcode = (refl, (refl, (refl, tt))) })
    d1 d2 e.1.0 e.1.1.0

pub obeys_AE : Obeys4 0xAE (Load X Absolute)
obeys_AE cpu ir low high back was sound is m0 m1 m2 m3 d1 d2 d3 e =
    by_absolute cpu sound (λ d1 d2 d3. CellsDo (Load X Absolute) cpu (resting cpu ir low high back was) (cy m0 0xAE ∷ cy m1 d1 ∷ cy m2 d2 ∷ cy m3 d3 ∷ []))
    (record { rests = record { holds = record { a = refl; x = refl; y = refl; s = refl; pc = pc3 cpu sound; n = refl; z = zero_is _; c = refl; v = refl; d = refl; i = refl }; fetches = refl }; news = Reads (wide cpu) (found (wide cpu) cpu) ∷ []; log = refl; bus = seen_at _ _ (refl) (λ p. Reads p (found (wide cpu) cpu)) _ _ (tail3 cpu sound 0xAE is); memory = refl; opcode = (refl, (refl, (refl, (refl, tt)))) })
    d1 d2 d3 e.1.0 e.1.1.0 e.1.1.1.0

pub obeys_BE : Obeys4 0xBE (Load X AbsoluteY)
obeys_BE cpu ir low high back was sound is m0 m1 m2 m3 d1 d2 d3 e =
    by_absolute_i cpu sound cpu.y (λ d1 d2 d3. CellsDo (Load X AbsoluteY) cpu (resting cpu ir low high back was) (cy m0 0xBE ∷ cy m1 d1 ∷ cy m2 d2 ∷ cy m3 d3 ∷ []))
    (record { rests = record { holds = record { a = refl; x = refl; y = refl; s = refl; pc = pc3 cpu sound; n = refl; z = zero_is _; c = refl; v = refl; d = refl; i = refl }; fetches = refl }; news = Reads (wide_by cpu cpu.y) (found (wide_by cpu cpu.y) cpu) ∷ []; log = refl; bus = seen_at _ _ (rejoined _ (omega arith)) (λ p. Reads p (found (wide_by cpu cpu.y) cpu)) _ _ (tail3 cpu sound 0xBE is); memory = refl; opcode = (refl, (refl, (refl, (refl, tt)))) })
    d1 d2 d3 e.1.0 e.1.1.0 e.1.1.1.0

pub obeys_A0 : Obeys2 0xA0 (Load Y Immediate)
obeys_A0 cpu ir low high back was sound is m0 m1 d1 e =
    by_first cpu sound (λ d1. CellsDo (Load Y Immediate) cpu (resting cpu ir low high back was) (cy m0 0xA0 ∷ cy m1 d1 ∷ []))
    (record { rests = record { holds = record { a = refl; x = refl; y = refl; s = refl; pc = pc2 cpu sound; n = refl; z = zero_is _; c = refl; v = refl; d = refl; i = refl }; fetches = refl }; news = []; log = refl; bus = tail2 cpu sound 0xA0 is; memory = refl; opcode = (refl, (refl, tt)) })
    d1 e.1.0

pub obeys_A4 : Obeys3 0xA4 (Load Y ZeroPage)
obeys_A4 cpu ir low high back was sound is m0 m1 m2 d1 d2 e =
    by_zero_page cpu sound (λ d1 d2. CellsDo (Load Y ZeroPage) cpu (resting cpu ir low high back was) (cy m0 0xA4 ∷ cy m1 d1 ∷ cy m2 d2 ∷ []))
    (record { rests = record { holds = record { a = refl; x = refl; y = refl; s = refl; pc = pc2 cpu sound; n = refl; z = zero_is _; c = refl; v = refl; d = refl; i = refl }; fetches = refl }; news = Reads (zp cpu) (found (zp cpu) cpu) ∷ []; log = refl; bus = seen_at _ _ (flat _) (λ p. Reads p (found (zp cpu) cpu)) _ _ (tail2 cpu sound 0xA4 is); memory = refl; opcode = (refl, (refl, (refl, tt))) })
    d1 d2 e.1.0 e.1.1.0

pub obeys_B4 : Obeys3 0xB4 (Load Y ZeroPageX)
obeys_B4 cpu ir low high back was sound is m0 m1 m2 d1 d2 e =
    by_zero_page_i cpu sound cpu.x (λ d1 d2. CellsDo (Load Y ZeroPageX) cpu (resting cpu ir low high back was) (cy m0 0xB4 ∷ cy m1 d1 ∷ cy m2 d2 ∷ []))
    (record { rests = record { holds = record { a = refl; x = refl; y = refl; s = refl; pc = pc2 cpu sound; n = refl; z = zero_is _; c = refl; v = refl; d = refl; i = refl }; fetches = refl }; news = Reads (zp_by cpu cpu.x) (found (zp_by cpu cpu.x) cpu) ∷ []; log = refl; bus = seen_at _ _ (flat _) (λ p. Reads p (found (zp_by cpu cpu.x) cpu)) _ _ (tail2 cpu sound 0xB4 is); memory = refl; opcode = (refl, (refl, (refl, tt))) })
    d1 d2 e.1.0 e.1.1.0

pub obeys_AC : Obeys4 0xAC (Load Y Absolute)
obeys_AC cpu ir low high back was sound is m0 m1 m2 m3 d1 d2 d3 e =
    by_absolute cpu sound (λ d1 d2 d3. CellsDo (Load Y Absolute) cpu (resting cpu ir low high back was) (cy m0 0xAC ∷ cy m1 d1 ∷ cy m2 d2 ∷ cy m3 d3 ∷ []))
    (record { rests = record { holds = record { a = refl; x = refl; y = refl; s = refl; pc = pc3 cpu sound; n = refl; z = zero_is _; c = refl; v = refl; d = refl; i = refl }; fetches = refl }; news = Reads (wide cpu) (found (wide cpu) cpu) ∷ []; log = refl; bus = seen_at _ _ (refl) (λ p. Reads p (found (wide cpu) cpu)) _ _ (tail3 cpu sound 0xAC is); memory = refl; opcode = (refl, (refl, (refl, (refl, tt)))) })
    d1 d2 d3 e.1.0 e.1.1.0 e.1.1.1.0

pub obeys_BC : Obeys4 0xBC (Load Y AbsoluteX)
obeys_BC cpu ir low high back was sound is m0 m1 m2 m3 d1 d2 d3 e =
    by_absolute_i cpu sound cpu.x (λ d1 d2 d3. CellsDo (Load Y AbsoluteX) cpu (resting cpu ir low high back was) (cy m0 0xBC ∷ cy m1 d1 ∷ cy m2 d2 ∷ cy m3 d3 ∷ []))
    (record { rests = record { holds = record { a = refl; x = refl; y = refl; s = refl; pc = pc3 cpu sound; n = refl; z = zero_is _; c = refl; v = refl; d = refl; i = refl }; fetches = refl }; news = Reads (wide_by cpu cpu.x) (found (wide_by cpu cpu.x) cpu) ∷ []; log = refl; bus = seen_at _ _ (rejoined _ (omega arith)) (λ p. Reads p (found (wide_by cpu cpu.x) cpu)) _ _ (tail3 cpu sound 0xBC is); memory = refl; opcode = (refl, (refl, (refl, (refl, tt)))) })
    d1 d2 d3 e.1.0 e.1.1.0 e.1.1.1.0

pub obeys_29 : Obeys2 0x29 (And Immediate)
obeys_29 cpu ir low high back was sound is m0 m1 d1 e =
    by_first cpu sound (λ d1. CellsDo (And Immediate) cpu (resting cpu ir low high back was) (cy m0 0x29 ∷ cy m1 d1 ∷ []))
    (record { rests = record { holds = record { a = refl; x = refl; y = refl; s = refl; pc = pc2 cpu sound; n = refl; z = zero_is _; c = refl; v = refl; d = refl; i = refl }; fetches = refl }; news = []; log = refl; bus = tail2 cpu sound 0x29 is; memory = refl; opcode = (refl, (refl, tt)) })
    d1 e.1.0

pub obeys_25 : Obeys3 0x25 (And ZeroPage)
obeys_25 cpu ir low high back was sound is m0 m1 m2 d1 d2 e =
    by_zero_page cpu sound (λ d1 d2. CellsDo (And ZeroPage) cpu (resting cpu ir low high back was) (cy m0 0x25 ∷ cy m1 d1 ∷ cy m2 d2 ∷ []))
    (record { rests = record { holds = record { a = refl; x = refl; y = refl; s = refl; pc = pc2 cpu sound; n = refl; z = zero_is _; c = refl; v = refl; d = refl; i = refl }; fetches = refl }; news = Reads (zp cpu) (found (zp cpu) cpu) ∷ []; log = refl; bus = seen_at _ _ (flat _) (λ p. Reads p (found (zp cpu) cpu)) _ _ (tail2 cpu sound 0x25 is); memory = refl; opcode = (refl, (refl, (refl, tt))) })
    d1 d2 e.1.0 e.1.1.0

pub obeys_35 : Obeys3 0x35 (And ZeroPageX)
obeys_35 cpu ir low high back was sound is m0 m1 m2 d1 d2 e =
    by_zero_page_i cpu sound cpu.x (λ d1 d2. CellsDo (And ZeroPageX) cpu (resting cpu ir low high back was) (cy m0 0x35 ∷ cy m1 d1 ∷ cy m2 d2 ∷ []))
    (record { rests = record { holds = record { a = refl; x = refl; y = refl; s = refl; pc = pc2 cpu sound; n = refl; z = zero_is _; c = refl; v = refl; d = refl; i = refl }; fetches = refl }; news = Reads (zp_by cpu cpu.x) (found (zp_by cpu cpu.x) cpu) ∷ []; log = refl; bus = seen_at _ _ (flat _) (λ p. Reads p (found (zp_by cpu cpu.x) cpu)) _ _ (tail2 cpu sound 0x35 is); memory = refl; opcode = (refl, (refl, (refl, tt))) })
    d1 d2 e.1.0 e.1.1.0

pub obeys_2D : Obeys4 0x2D (And Absolute)
obeys_2D cpu ir low high back was sound is m0 m1 m2 m3 d1 d2 d3 e =
    by_absolute cpu sound (λ d1 d2 d3. CellsDo (And Absolute) cpu (resting cpu ir low high back was) (cy m0 0x2D ∷ cy m1 d1 ∷ cy m2 d2 ∷ cy m3 d3 ∷ []))
    (record { rests = record { holds = record { a = refl; x = refl; y = refl; s = refl; pc = pc3 cpu sound; n = refl; z = zero_is _; c = refl; v = refl; d = refl; i = refl }; fetches = refl }; news = Reads (wide cpu) (found (wide cpu) cpu) ∷ []; log = refl; bus = seen_at _ _ (refl) (λ p. Reads p (found (wide cpu) cpu)) _ _ (tail3 cpu sound 0x2D is); memory = refl; opcode = (refl, (refl, (refl, (refl, tt)))) })
    d1 d2 d3 e.1.0 e.1.1.0 e.1.1.1.0

pub obeys_3D : Obeys4 0x3D (And AbsoluteX)
obeys_3D cpu ir low high back was sound is m0 m1 m2 m3 d1 d2 d3 e =
    by_absolute_i cpu sound cpu.x (λ d1 d2 d3. CellsDo (And AbsoluteX) cpu (resting cpu ir low high back was) (cy m0 0x3D ∷ cy m1 d1 ∷ cy m2 d2 ∷ cy m3 d3 ∷ []))
    (record { rests = record { holds = record { a = refl; x = refl; y = refl; s = refl; pc = pc3 cpu sound; n = refl; z = zero_is _; c = refl; v = refl; d = refl; i = refl }; fetches = refl }; news = Reads (wide_by cpu cpu.x) (found (wide_by cpu cpu.x) cpu) ∷ []; log = refl; bus = seen_at _ _ (rejoined _ (omega arith)) (λ p. Reads p (found (wide_by cpu cpu.x) cpu)) _ _ (tail3 cpu sound 0x3D is); memory = refl; opcode = (refl, (refl, (refl, (refl, tt)))) })
    d1 d2 d3 e.1.0 e.1.1.0 e.1.1.1.0

pub obeys_39 : Obeys4 0x39 (And AbsoluteY)
obeys_39 cpu ir low high back was sound is m0 m1 m2 m3 d1 d2 d3 e =
    by_absolute_i cpu sound cpu.y (λ d1 d2 d3. CellsDo (And AbsoluteY) cpu (resting cpu ir low high back was) (cy m0 0x39 ∷ cy m1 d1 ∷ cy m2 d2 ∷ cy m3 d3 ∷ []))
    (record { rests = record { holds = record { a = refl; x = refl; y = refl; s = refl; pc = pc3 cpu sound; n = refl; z = zero_is _; c = refl; v = refl; d = refl; i = refl }; fetches = refl }; news = Reads (wide_by cpu cpu.y) (found (wide_by cpu cpu.y) cpu) ∷ []; log = refl; bus = seen_at _ _ (rejoined _ (omega arith)) (λ p. Reads p (found (wide_by cpu cpu.y) cpu)) _ _ (tail3 cpu sound 0x39 is); memory = refl; opcode = (refl, (refl, (refl, (refl, tt)))) })
    d1 d2 d3 e.1.0 e.1.1.0 e.1.1.1.0

pub obeys_21 : Obeys5 0x21 (And IndexedIndirect)
obeys_21 cpu ir low high back was sound is m0 m1 m2 m3 m4 d1 d2 d3 d4 e =
    by_indirect_x cpu sound (λ d1 d2 d3 d4. CellsDo (And IndexedIndirect) cpu (resting cpu ir low high back was) (cy m0 0x21 ∷ cy m1 d1 ∷ cy m2 d2 ∷ cy m3 d3 ∷ cy m4 d4 ∷ []))
    (record { rests = record { holds = record { a = refl; x = refl; y = refl; s = refl; pc = pc2 cpu sound; n = refl; z = zero_is _; c = refl; v = refl; d = refl; i = refl }; fetches = refl }; news = Reads (word cpu (zp_by cpu cpu.x)) (found (word cpu (zp_by cpu cpu.x)) cpu) ∷ []; log = refl; bus = seen_at _ _ (refl) (λ p. Reads p (found (word cpu (zp_by cpu cpu.x)) cpu)) _ _ (tail_at cpu sound 0x21 is (zp_by cpu cpu.x)); memory = refl; opcode = (refl, (refl, (refl, (refl, (refl, tt))))) })
    d1 d2 d3 d4 e.1.0 e.1.1.0 e.1.1.1.0 e.1.1.1.1.0

pub obeys_31 : Obeys5 0x31 (And IndirectIndexed)
obeys_31 cpu ir low high back was sound is m0 m1 m2 m3 m4 d1 d2 d3 d4 e =
    by_indirect cpu sound (λ d1 d2 d3 d4. CellsDo (And IndirectIndexed) cpu (resting cpu ir low high back was) (cy m0 0x31 ∷ cy m1 d1 ∷ cy m2 d2 ∷ cy m3 d3 ∷ cy m4 d4 ∷ []))
    (record { rests = record { holds = record { a = refl; x = refl; y = refl; s = refl; pc = pc2 cpu sound; n = refl; z = zero_is _; c = refl; v = refl; d = refl; i = refl }; fetches = refl }; news = Reads (word_by cpu (zp cpu)) (found (word_by cpu (zp cpu)) cpu) ∷ []; log = refl; bus = seen_at _ _ (rejoined _ (omega arith)) (λ p. Reads p (found (word_by cpu (zp cpu)) cpu)) _ _ (tail_at cpu sound 0x31 is (zp cpu)); memory = refl; opcode = (refl, (refl, (refl, (refl, (refl, tt))))) })
    d1 d2 d3 d4 e.1.0 e.1.1.0 e.1.1.1.0 e.1.1.1.1.0

pub obeys_09 : Obeys2 0x09 (Or Immediate)
obeys_09 cpu ir low high back was sound is m0 m1 d1 e =
    by_first cpu sound (λ d1. CellsDo (Or Immediate) cpu (resting cpu ir low high back was) (cy m0 0x09 ∷ cy m1 d1 ∷ []))
    (record { rests = record { holds = record { a = refl; x = refl; y = refl; s = refl; pc = pc2 cpu sound; n = refl; z = zero_is _; c = refl; v = refl; d = refl; i = refl }; fetches = refl }; news = []; log = refl; bus = tail2 cpu sound 0x09 is; memory = refl; opcode = (refl, (refl, tt)) })
    d1 e.1.0

pub obeys_05 : Obeys3 0x05 (Or ZeroPage)
obeys_05 cpu ir low high back was sound is m0 m1 m2 d1 d2 e =
    by_zero_page cpu sound (λ d1 d2. CellsDo (Or ZeroPage) cpu (resting cpu ir low high back was) (cy m0 0x05 ∷ cy m1 d1 ∷ cy m2 d2 ∷ []))
    (record { rests = record { holds = record { a = refl; x = refl; y = refl; s = refl; pc = pc2 cpu sound; n = refl; z = zero_is _; c = refl; v = refl; d = refl; i = refl }; fetches = refl }; news = Reads (zp cpu) (found (zp cpu) cpu) ∷ []; log = refl; bus = seen_at _ _ (flat _) (λ p. Reads p (found (zp cpu) cpu)) _ _ (tail2 cpu sound 0x05 is); memory = refl; opcode = (refl, (refl, (refl, tt))) })
    d1 d2 e.1.0 e.1.1.0

pub obeys_15 : Obeys3 0x15 (Or ZeroPageX)
obeys_15 cpu ir low high back was sound is m0 m1 m2 d1 d2 e =
    by_zero_page_i cpu sound cpu.x (λ d1 d2. CellsDo (Or ZeroPageX) cpu (resting cpu ir low high back was) (cy m0 0x15 ∷ cy m1 d1 ∷ cy m2 d2 ∷ []))
    (record { rests = record { holds = record { a = refl; x = refl; y = refl; s = refl; pc = pc2 cpu sound; n = refl; z = zero_is _; c = refl; v = refl; d = refl; i = refl }; fetches = refl }; news = Reads (zp_by cpu cpu.x) (found (zp_by cpu cpu.x) cpu) ∷ []; log = refl; bus = seen_at _ _ (flat _) (λ p. Reads p (found (zp_by cpu cpu.x) cpu)) _ _ (tail2 cpu sound 0x15 is); memory = refl; opcode = (refl, (refl, (refl, tt))) })
    d1 d2 e.1.0 e.1.1.0

pub obeys_0D : Obeys4 0x0D (Or Absolute)
obeys_0D cpu ir low high back was sound is m0 m1 m2 m3 d1 d2 d3 e =
    by_absolute cpu sound (λ d1 d2 d3. CellsDo (Or Absolute) cpu (resting cpu ir low high back was) (cy m0 0x0D ∷ cy m1 d1 ∷ cy m2 d2 ∷ cy m3 d3 ∷ []))
    (record { rests = record { holds = record { a = refl; x = refl; y = refl; s = refl; pc = pc3 cpu sound; n = refl; z = zero_is _; c = refl; v = refl; d = refl; i = refl }; fetches = refl }; news = Reads (wide cpu) (found (wide cpu) cpu) ∷ []; log = refl; bus = seen_at _ _ (refl) (λ p. Reads p (found (wide cpu) cpu)) _ _ (tail3 cpu sound 0x0D is); memory = refl; opcode = (refl, (refl, (refl, (refl, tt)))) })
    d1 d2 d3 e.1.0 e.1.1.0 e.1.1.1.0

pub obeys_1D : Obeys4 0x1D (Or AbsoluteX)
obeys_1D cpu ir low high back was sound is m0 m1 m2 m3 d1 d2 d3 e =
    by_absolute_i cpu sound cpu.x (λ d1 d2 d3. CellsDo (Or AbsoluteX) cpu (resting cpu ir low high back was) (cy m0 0x1D ∷ cy m1 d1 ∷ cy m2 d2 ∷ cy m3 d3 ∷ []))
    (record { rests = record { holds = record { a = refl; x = refl; y = refl; s = refl; pc = pc3 cpu sound; n = refl; z = zero_is _; c = refl; v = refl; d = refl; i = refl }; fetches = refl }; news = Reads (wide_by cpu cpu.x) (found (wide_by cpu cpu.x) cpu) ∷ []; log = refl; bus = seen_at _ _ (rejoined _ (omega arith)) (λ p. Reads p (found (wide_by cpu cpu.x) cpu)) _ _ (tail3 cpu sound 0x1D is); memory = refl; opcode = (refl, (refl, (refl, (refl, tt)))) })
    d1 d2 d3 e.1.0 e.1.1.0 e.1.1.1.0

pub obeys_19 : Obeys4 0x19 (Or AbsoluteY)
obeys_19 cpu ir low high back was sound is m0 m1 m2 m3 d1 d2 d3 e =
    by_absolute_i cpu sound cpu.y (λ d1 d2 d3. CellsDo (Or AbsoluteY) cpu (resting cpu ir low high back was) (cy m0 0x19 ∷ cy m1 d1 ∷ cy m2 d2 ∷ cy m3 d3 ∷ []))
    (record { rests = record { holds = record { a = refl; x = refl; y = refl; s = refl; pc = pc3 cpu sound; n = refl; z = zero_is _; c = refl; v = refl; d = refl; i = refl }; fetches = refl }; news = Reads (wide_by cpu cpu.y) (found (wide_by cpu cpu.y) cpu) ∷ []; log = refl; bus = seen_at _ _ (rejoined _ (omega arith)) (λ p. Reads p (found (wide_by cpu cpu.y) cpu)) _ _ (tail3 cpu sound 0x19 is); memory = refl; opcode = (refl, (refl, (refl, (refl, tt)))) })
    d1 d2 d3 e.1.0 e.1.1.0 e.1.1.1.0

pub obeys_01 : Obeys5 0x01 (Or IndexedIndirect)
obeys_01 cpu ir low high back was sound is m0 m1 m2 m3 m4 d1 d2 d3 d4 e =
    by_indirect_x cpu sound (λ d1 d2 d3 d4. CellsDo (Or IndexedIndirect) cpu (resting cpu ir low high back was) (cy m0 0x01 ∷ cy m1 d1 ∷ cy m2 d2 ∷ cy m3 d3 ∷ cy m4 d4 ∷ []))
    (record { rests = record { holds = record { a = refl; x = refl; y = refl; s = refl; pc = pc2 cpu sound; n = refl; z = zero_is _; c = refl; v = refl; d = refl; i = refl }; fetches = refl }; news = Reads (word cpu (zp_by cpu cpu.x)) (found (word cpu (zp_by cpu cpu.x)) cpu) ∷ []; log = refl; bus = seen_at _ _ (refl) (λ p. Reads p (found (word cpu (zp_by cpu cpu.x)) cpu)) _ _ (tail_at cpu sound 0x01 is (zp_by cpu cpu.x)); memory = refl; opcode = (refl, (refl, (refl, (refl, (refl, tt))))) })
    d1 d2 d3 d4 e.1.0 e.1.1.0 e.1.1.1.0 e.1.1.1.1.0

pub obeys_11 : Obeys5 0x11 (Or IndirectIndexed)
obeys_11 cpu ir low high back was sound is m0 m1 m2 m3 m4 d1 d2 d3 d4 e =
    by_indirect cpu sound (λ d1 d2 d3 d4. CellsDo (Or IndirectIndexed) cpu (resting cpu ir low high back was) (cy m0 0x11 ∷ cy m1 d1 ∷ cy m2 d2 ∷ cy m3 d3 ∷ cy m4 d4 ∷ []))
    (record { rests = record { holds = record { a = refl; x = refl; y = refl; s = refl; pc = pc2 cpu sound; n = refl; z = zero_is _; c = refl; v = refl; d = refl; i = refl }; fetches = refl }; news = Reads (word_by cpu (zp cpu)) (found (word_by cpu (zp cpu)) cpu) ∷ []; log = refl; bus = seen_at _ _ (rejoined _ (omega arith)) (λ p. Reads p (found (word_by cpu (zp cpu)) cpu)) _ _ (tail_at cpu sound 0x11 is (zp cpu)); memory = refl; opcode = (refl, (refl, (refl, (refl, (refl, tt))))) })
    d1 d2 d3 d4 e.1.0 e.1.1.0 e.1.1.1.0 e.1.1.1.1.0

pub obeys_49 : Obeys2 0x49 (Xor Immediate)
obeys_49 cpu ir low high back was sound is m0 m1 d1 e =
    by_first cpu sound (λ d1. CellsDo (Xor Immediate) cpu (resting cpu ir low high back was) (cy m0 0x49 ∷ cy m1 d1 ∷ []))
    (record { rests = record { holds = record { a = refl; x = refl; y = refl; s = refl; pc = pc2 cpu sound; n = refl; z = zero_is _; c = refl; v = refl; d = refl; i = refl }; fetches = refl }; news = []; log = refl; bus = tail2 cpu sound 0x49 is; memory = refl; opcode = (refl, (refl, tt)) })
    d1 e.1.0

pub obeys_45 : Obeys3 0x45 (Xor ZeroPage)
obeys_45 cpu ir low high back was sound is m0 m1 m2 d1 d2 e =
    by_zero_page cpu sound (λ d1 d2. CellsDo (Xor ZeroPage) cpu (resting cpu ir low high back was) (cy m0 0x45 ∷ cy m1 d1 ∷ cy m2 d2 ∷ []))
    (record { rests = record { holds = record { a = refl; x = refl; y = refl; s = refl; pc = pc2 cpu sound; n = refl; z = zero_is _; c = refl; v = refl; d = refl; i = refl }; fetches = refl }; news = Reads (zp cpu) (found (zp cpu) cpu) ∷ []; log = refl; bus = seen_at _ _ (flat _) (λ p. Reads p (found (zp cpu) cpu)) _ _ (tail2 cpu sound 0x45 is); memory = refl; opcode = (refl, (refl, (refl, tt))) })
    d1 d2 e.1.0 e.1.1.0

pub obeys_55 : Obeys3 0x55 (Xor ZeroPageX)
obeys_55 cpu ir low high back was sound is m0 m1 m2 d1 d2 e =
    by_zero_page_i cpu sound cpu.x (λ d1 d2. CellsDo (Xor ZeroPageX) cpu (resting cpu ir low high back was) (cy m0 0x55 ∷ cy m1 d1 ∷ cy m2 d2 ∷ []))
    (record { rests = record { holds = record { a = refl; x = refl; y = refl; s = refl; pc = pc2 cpu sound; n = refl; z = zero_is _; c = refl; v = refl; d = refl; i = refl }; fetches = refl }; news = Reads (zp_by cpu cpu.x) (found (zp_by cpu cpu.x) cpu) ∷ []; log = refl; bus = seen_at _ _ (flat _) (λ p. Reads p (found (zp_by cpu cpu.x) cpu)) _ _ (tail2 cpu sound 0x55 is); memory = refl; opcode = (refl, (refl, (refl, tt))) })
    d1 d2 e.1.0 e.1.1.0

pub obeys_4D : Obeys4 0x4D (Xor Absolute)
obeys_4D cpu ir low high back was sound is m0 m1 m2 m3 d1 d2 d3 e =
    by_absolute cpu sound (λ d1 d2 d3. CellsDo (Xor Absolute) cpu (resting cpu ir low high back was) (cy m0 0x4D ∷ cy m1 d1 ∷ cy m2 d2 ∷ cy m3 d3 ∷ []))
    (record { rests = record { holds = record { a = refl; x = refl; y = refl; s = refl; pc = pc3 cpu sound; n = refl; z = zero_is _; c = refl; v = refl; d = refl; i = refl }; fetches = refl }; news = Reads (wide cpu) (found (wide cpu) cpu) ∷ []; log = refl; bus = seen_at _ _ (refl) (λ p. Reads p (found (wide cpu) cpu)) _ _ (tail3 cpu sound 0x4D is); memory = refl; opcode = (refl, (refl, (refl, (refl, tt)))) })
    d1 d2 d3 e.1.0 e.1.1.0 e.1.1.1.0

pub obeys_5D : Obeys4 0x5D (Xor AbsoluteX)
obeys_5D cpu ir low high back was sound is m0 m1 m2 m3 d1 d2 d3 e =
    by_absolute_i cpu sound cpu.x (λ d1 d2 d3. CellsDo (Xor AbsoluteX) cpu (resting cpu ir low high back was) (cy m0 0x5D ∷ cy m1 d1 ∷ cy m2 d2 ∷ cy m3 d3 ∷ []))
    (record { rests = record { holds = record { a = refl; x = refl; y = refl; s = refl; pc = pc3 cpu sound; n = refl; z = zero_is _; c = refl; v = refl; d = refl; i = refl }; fetches = refl }; news = Reads (wide_by cpu cpu.x) (found (wide_by cpu cpu.x) cpu) ∷ []; log = refl; bus = seen_at _ _ (rejoined _ (omega arith)) (λ p. Reads p (found (wide_by cpu cpu.x) cpu)) _ _ (tail3 cpu sound 0x5D is); memory = refl; opcode = (refl, (refl, (refl, (refl, tt)))) })
    d1 d2 d3 e.1.0 e.1.1.0 e.1.1.1.0

pub obeys_59 : Obeys4 0x59 (Xor AbsoluteY)
obeys_59 cpu ir low high back was sound is m0 m1 m2 m3 d1 d2 d3 e =
    by_absolute_i cpu sound cpu.y (λ d1 d2 d3. CellsDo (Xor AbsoluteY) cpu (resting cpu ir low high back was) (cy m0 0x59 ∷ cy m1 d1 ∷ cy m2 d2 ∷ cy m3 d3 ∷ []))
    (record { rests = record { holds = record { a = refl; x = refl; y = refl; s = refl; pc = pc3 cpu sound; n = refl; z = zero_is _; c = refl; v = refl; d = refl; i = refl }; fetches = refl }; news = Reads (wide_by cpu cpu.y) (found (wide_by cpu cpu.y) cpu) ∷ []; log = refl; bus = seen_at _ _ (rejoined _ (omega arith)) (λ p. Reads p (found (wide_by cpu cpu.y) cpu)) _ _ (tail3 cpu sound 0x59 is); memory = refl; opcode = (refl, (refl, (refl, (refl, tt)))) })
    d1 d2 d3 e.1.0 e.1.1.0 e.1.1.1.0

pub obeys_41 : Obeys5 0x41 (Xor IndexedIndirect)
obeys_41 cpu ir low high back was sound is m0 m1 m2 m3 m4 d1 d2 d3 d4 e =
    by_indirect_x cpu sound (λ d1 d2 d3 d4. CellsDo (Xor IndexedIndirect) cpu (resting cpu ir low high back was) (cy m0 0x41 ∷ cy m1 d1 ∷ cy m2 d2 ∷ cy m3 d3 ∷ cy m4 d4 ∷ []))
    (record { rests = record { holds = record { a = refl; x = refl; y = refl; s = refl; pc = pc2 cpu sound; n = refl; z = zero_is _; c = refl; v = refl; d = refl; i = refl }; fetches = refl }; news = Reads (word cpu (zp_by cpu cpu.x)) (found (word cpu (zp_by cpu cpu.x)) cpu) ∷ []; log = refl; bus = seen_at _ _ (refl) (λ p. Reads p (found (word cpu (zp_by cpu cpu.x)) cpu)) _ _ (tail_at cpu sound 0x41 is (zp_by cpu cpu.x)); memory = refl; opcode = (refl, (refl, (refl, (refl, (refl, tt))))) })
    d1 d2 d3 d4 e.1.0 e.1.1.0 e.1.1.1.0 e.1.1.1.1.0

pub obeys_51 : Obeys5 0x51 (Xor IndirectIndexed)
obeys_51 cpu ir low high back was sound is m0 m1 m2 m3 m4 d1 d2 d3 d4 e =
    by_indirect cpu sound (λ d1 d2 d3 d4. CellsDo (Xor IndirectIndexed) cpu (resting cpu ir low high back was) (cy m0 0x51 ∷ cy m1 d1 ∷ cy m2 d2 ∷ cy m3 d3 ∷ cy m4 d4 ∷ []))
    (record { rests = record { holds = record { a = refl; x = refl; y = refl; s = refl; pc = pc2 cpu sound; n = refl; z = zero_is _; c = refl; v = refl; d = refl; i = refl }; fetches = refl }; news = Reads (word_by cpu (zp cpu)) (found (word_by cpu (zp cpu)) cpu) ∷ []; log = refl; bus = seen_at _ _ (rejoined _ (omega arith)) (λ p. Reads p (found (word_by cpu (zp cpu)) cpu)) _ _ (tail_at cpu sound 0x51 is (zp cpu)); memory = refl; opcode = (refl, (refl, (refl, (refl, (refl, tt))))) })
    d1 d2 d3 d4 e.1.0 e.1.1.0 e.1.1.1.0 e.1.1.1.1.0

pub obeys_C9 : Obeys2 0xC9 (Compare A Immediate)
obeys_C9 cpu ir low high back was sound is m0 m1 d1 e =
    by_first cpu sound (λ d1. CellsDo (Compare A Immediate) cpu (resting cpu ir low high back was) (cy m0 0xC9 ∷ cy m1 d1 ∷ []))
    (record { rests = record { holds = record { a = refl; x = refl; y = refl; s = refl; pc = pc2 cpu sound; n = minus_by _ _ (differs cpu.a (zp cpu) (sound.bytes (cpu.pc + 1))); z = zero_by _ _ (differs cpu.a (zp cpu) (sound.bytes (cpu.pc + 1))); c = refl; v = refl; d = refl; i = refl }; fetches = refl }; news = []; log = refl; bus = tail2 cpu sound 0xC9 is; memory = refl; opcode = (refl, (refl, tt)) })
    d1 e.1.0

pub obeys_C5 : Obeys3 0xC5 (Compare A ZeroPage)
obeys_C5 cpu ir low high back was sound is m0 m1 m2 d1 d2 e =
    by_zero_page cpu sound (λ d1 d2. CellsDo (Compare A ZeroPage) cpu (resting cpu ir low high back was) (cy m0 0xC5 ∷ cy m1 d1 ∷ cy m2 d2 ∷ []))
    (record { rests = record { holds = record { a = refl; x = refl; y = refl; s = refl; pc = pc2 cpu sound; n = minus_by _ _ (differs cpu.a (found (zp cpu) cpu) (found_byte cpu sound (zp cpu))); z = zero_by _ _ (differs cpu.a (found (zp cpu) cpu) (found_byte cpu sound (zp cpu))); c = refl; v = refl; d = refl; i = refl }; fetches = refl }; news = Reads (zp cpu) (found (zp cpu) cpu) ∷ []; log = refl; bus = seen_at _ _ (flat _) (λ p. Reads p (found (zp cpu) cpu)) _ _ (tail2 cpu sound 0xC5 is); memory = refl; opcode = (refl, (refl, (refl, tt))) })
    d1 d2 e.1.0 e.1.1.0

pub obeys_D5 : Obeys3 0xD5 (Compare A ZeroPageX)
obeys_D5 cpu ir low high back was sound is m0 m1 m2 d1 d2 e =
    by_zero_page_i cpu sound cpu.x (λ d1 d2. CellsDo (Compare A ZeroPageX) cpu (resting cpu ir low high back was) (cy m0 0xD5 ∷ cy m1 d1 ∷ cy m2 d2 ∷ []))
    (record { rests = record { holds = record { a = refl; x = refl; y = refl; s = refl; pc = pc2 cpu sound; n = minus_by _ _ (differs cpu.a (found (zp_by cpu cpu.x) cpu) (found_byte cpu sound (zp_by cpu cpu.x))); z = zero_by _ _ (differs cpu.a (found (zp_by cpu cpu.x) cpu) (found_byte cpu sound (zp_by cpu cpu.x))); c = refl; v = refl; d = refl; i = refl }; fetches = refl }; news = Reads (zp_by cpu cpu.x) (found (zp_by cpu cpu.x) cpu) ∷ []; log = refl; bus = seen_at _ _ (flat _) (λ p. Reads p (found (zp_by cpu cpu.x) cpu)) _ _ (tail2 cpu sound 0xD5 is); memory = refl; opcode = (refl, (refl, (refl, tt))) })
    d1 d2 e.1.0 e.1.1.0

pub obeys_CD : Obeys4 0xCD (Compare A Absolute)
obeys_CD cpu ir low high back was sound is m0 m1 m2 m3 d1 d2 d3 e =
    by_absolute cpu sound (λ d1 d2 d3. CellsDo (Compare A Absolute) cpu (resting cpu ir low high back was) (cy m0 0xCD ∷ cy m1 d1 ∷ cy m2 d2 ∷ cy m3 d3 ∷ []))
    (record { rests = record { holds = record { a = refl; x = refl; y = refl; s = refl; pc = pc3 cpu sound; n = minus_by _ _ (differs cpu.a (found (wide cpu) cpu) (found_byte cpu sound (wide cpu))); z = zero_by _ _ (differs cpu.a (found (wide cpu) cpu) (found_byte cpu sound (wide cpu))); c = refl; v = refl; d = refl; i = refl }; fetches = refl }; news = Reads (wide cpu) (found (wide cpu) cpu) ∷ []; log = refl; bus = seen_at _ _ (refl) (λ p. Reads p (found (wide cpu) cpu)) _ _ (tail3 cpu sound 0xCD is); memory = refl; opcode = (refl, (refl, (refl, (refl, tt)))) })
    d1 d2 d3 e.1.0 e.1.1.0 e.1.1.1.0

pub obeys_DD : Obeys4 0xDD (Compare A AbsoluteX)
obeys_DD cpu ir low high back was sound is m0 m1 m2 m3 d1 d2 d3 e =
    by_absolute_i cpu sound cpu.x (λ d1 d2 d3. CellsDo (Compare A AbsoluteX) cpu (resting cpu ir low high back was) (cy m0 0xDD ∷ cy m1 d1 ∷ cy m2 d2 ∷ cy m3 d3 ∷ []))
    (record { rests = record { holds = record { a = refl; x = refl; y = refl; s = refl; pc = pc3 cpu sound; n = minus_by _ _ (differs cpu.a (found (wide_by cpu cpu.x) cpu) (found_byte cpu sound (wide_by cpu cpu.x))); z = zero_by _ _ (differs cpu.a (found (wide_by cpu cpu.x) cpu) (found_byte cpu sound (wide_by cpu cpu.x))); c = refl; v = refl; d = refl; i = refl }; fetches = refl }; news = Reads (wide_by cpu cpu.x) (found (wide_by cpu cpu.x) cpu) ∷ []; log = refl; bus = seen_at _ _ (rejoined _ (omega arith)) (λ p. Reads p (found (wide_by cpu cpu.x) cpu)) _ _ (tail3 cpu sound 0xDD is); memory = refl; opcode = (refl, (refl, (refl, (refl, tt)))) })
    d1 d2 d3 e.1.0 e.1.1.0 e.1.1.1.0

pub obeys_D9 : Obeys4 0xD9 (Compare A AbsoluteY)
obeys_D9 cpu ir low high back was sound is m0 m1 m2 m3 d1 d2 d3 e =
    by_absolute_i cpu sound cpu.y (λ d1 d2 d3. CellsDo (Compare A AbsoluteY) cpu (resting cpu ir low high back was) (cy m0 0xD9 ∷ cy m1 d1 ∷ cy m2 d2 ∷ cy m3 d3 ∷ []))
    (record { rests = record { holds = record { a = refl; x = refl; y = refl; s = refl; pc = pc3 cpu sound; n = minus_by _ _ (differs cpu.a (found (wide_by cpu cpu.y) cpu) (found_byte cpu sound (wide_by cpu cpu.y))); z = zero_by _ _ (differs cpu.a (found (wide_by cpu cpu.y) cpu) (found_byte cpu sound (wide_by cpu cpu.y))); c = refl; v = refl; d = refl; i = refl }; fetches = refl }; news = Reads (wide_by cpu cpu.y) (found (wide_by cpu cpu.y) cpu) ∷ []; log = refl; bus = seen_at _ _ (rejoined _ (omega arith)) (λ p. Reads p (found (wide_by cpu cpu.y) cpu)) _ _ (tail3 cpu sound 0xD9 is); memory = refl; opcode = (refl, (refl, (refl, (refl, tt)))) })
    d1 d2 d3 e.1.0 e.1.1.0 e.1.1.1.0

pub obeys_C1 : Obeys5 0xC1 (Compare A IndexedIndirect)
obeys_C1 cpu ir low high back was sound is m0 m1 m2 m3 m4 d1 d2 d3 d4 e =
    by_indirect_x cpu sound (λ d1 d2 d3 d4. CellsDo (Compare A IndexedIndirect) cpu (resting cpu ir low high back was) (cy m0 0xC1 ∷ cy m1 d1 ∷ cy m2 d2 ∷ cy m3 d3 ∷ cy m4 d4 ∷ []))
    (record { rests = record { holds = record { a = refl; x = refl; y = refl; s = refl; pc = pc2 cpu sound; n = minus_by _ _ (differs cpu.a (found (word cpu (zp_by cpu cpu.x)) cpu) (found_byte cpu sound (word cpu (zp_by cpu cpu.x)))); z = zero_by _ _ (differs cpu.a (found (word cpu (zp_by cpu cpu.x)) cpu) (found_byte cpu sound (word cpu (zp_by cpu cpu.x)))); c = refl; v = refl; d = refl; i = refl }; fetches = refl }; news = Reads (word cpu (zp_by cpu cpu.x)) (found (word cpu (zp_by cpu cpu.x)) cpu) ∷ []; log = refl; bus = seen_at _ _ (refl) (λ p. Reads p (found (word cpu (zp_by cpu cpu.x)) cpu)) _ _ (tail_at cpu sound 0xC1 is (zp_by cpu cpu.x)); memory = refl; opcode = (refl, (refl, (refl, (refl, (refl, tt))))) })
    d1 d2 d3 d4 e.1.0 e.1.1.0 e.1.1.1.0 e.1.1.1.1.0

pub obeys_D1 : Obeys5 0xD1 (Compare A IndirectIndexed)
obeys_D1 cpu ir low high back was sound is m0 m1 m2 m3 m4 d1 d2 d3 d4 e =
    by_indirect cpu sound (λ d1 d2 d3 d4. CellsDo (Compare A IndirectIndexed) cpu (resting cpu ir low high back was) (cy m0 0xD1 ∷ cy m1 d1 ∷ cy m2 d2 ∷ cy m3 d3 ∷ cy m4 d4 ∷ []))
    (record { rests = record { holds = record { a = refl; x = refl; y = refl; s = refl; pc = pc2 cpu sound; n = minus_by _ _ (differs cpu.a (found (word_by cpu (zp cpu)) cpu) (found_byte cpu sound (word_by cpu (zp cpu)))); z = zero_by _ _ (differs cpu.a (found (word_by cpu (zp cpu)) cpu) (found_byte cpu sound (word_by cpu (zp cpu)))); c = refl; v = refl; d = refl; i = refl }; fetches = refl }; news = Reads (word_by cpu (zp cpu)) (found (word_by cpu (zp cpu)) cpu) ∷ []; log = refl; bus = seen_at _ _ (rejoined _ (omega arith)) (λ p. Reads p (found (word_by cpu (zp cpu)) cpu)) _ _ (tail_at cpu sound 0xD1 is (zp cpu)); memory = refl; opcode = (refl, (refl, (refl, (refl, (refl, tt))))) })
    d1 d2 d3 d4 e.1.0 e.1.1.0 e.1.1.1.0 e.1.1.1.1.0

pub obeys_E0 : Obeys2 0xE0 (Compare X Immediate)
obeys_E0 cpu ir low high back was sound is m0 m1 d1 e =
    by_first cpu sound (λ d1. CellsDo (Compare X Immediate) cpu (resting cpu ir low high back was) (cy m0 0xE0 ∷ cy m1 d1 ∷ []))
    (record { rests = record { holds = record { a = refl; x = refl; y = refl; s = refl; pc = pc2 cpu sound; n = minus_by _ _ (differs cpu.x (zp cpu) (sound.bytes (cpu.pc + 1))); z = zero_by _ _ (differs cpu.x (zp cpu) (sound.bytes (cpu.pc + 1))); c = refl; v = refl; d = refl; i = refl }; fetches = refl }; news = []; log = refl; bus = tail2 cpu sound 0xE0 is; memory = refl; opcode = (refl, (refl, tt)) })
    d1 e.1.0

pub obeys_E4 : Obeys3 0xE4 (Compare X ZeroPage)
obeys_E4 cpu ir low high back was sound is m0 m1 m2 d1 d2 e =
    by_zero_page cpu sound (λ d1 d2. CellsDo (Compare X ZeroPage) cpu (resting cpu ir low high back was) (cy m0 0xE4 ∷ cy m1 d1 ∷ cy m2 d2 ∷ []))
    (record { rests = record { holds = record { a = refl; x = refl; y = refl; s = refl; pc = pc2 cpu sound; n = minus_by _ _ (differs cpu.x (found (zp cpu) cpu) (found_byte cpu sound (zp cpu))); z = zero_by _ _ (differs cpu.x (found (zp cpu) cpu) (found_byte cpu sound (zp cpu))); c = refl; v = refl; d = refl; i = refl }; fetches = refl }; news = Reads (zp cpu) (found (zp cpu) cpu) ∷ []; log = refl; bus = seen_at _ _ (flat _) (λ p. Reads p (found (zp cpu) cpu)) _ _ (tail2 cpu sound 0xE4 is); memory = refl; opcode = (refl, (refl, (refl, tt))) })
    d1 d2 e.1.0 e.1.1.0

pub obeys_EC : Obeys4 0xEC (Compare X Absolute)
obeys_EC cpu ir low high back was sound is m0 m1 m2 m3 d1 d2 d3 e =
    by_absolute cpu sound (λ d1 d2 d3. CellsDo (Compare X Absolute) cpu (resting cpu ir low high back was) (cy m0 0xEC ∷ cy m1 d1 ∷ cy m2 d2 ∷ cy m3 d3 ∷ []))
    (record { rests = record { holds = record { a = refl; x = refl; y = refl; s = refl; pc = pc3 cpu sound; n = minus_by _ _ (differs cpu.x (found (wide cpu) cpu) (found_byte cpu sound (wide cpu))); z = zero_by _ _ (differs cpu.x (found (wide cpu) cpu) (found_byte cpu sound (wide cpu))); c = refl; v = refl; d = refl; i = refl }; fetches = refl }; news = Reads (wide cpu) (found (wide cpu) cpu) ∷ []; log = refl; bus = seen_at _ _ (refl) (λ p. Reads p (found (wide cpu) cpu)) _ _ (tail3 cpu sound 0xEC is); memory = refl; opcode = (refl, (refl, (refl, (refl, tt)))) })
    d1 d2 d3 e.1.0 e.1.1.0 e.1.1.1.0

pub obeys_C0 : Obeys2 0xC0 (Compare Y Immediate)
obeys_C0 cpu ir low high back was sound is m0 m1 d1 e =
    by_first cpu sound (λ d1. CellsDo (Compare Y Immediate) cpu (resting cpu ir low high back was) (cy m0 0xC0 ∷ cy m1 d1 ∷ []))
    (record { rests = record { holds = record { a = refl; x = refl; y = refl; s = refl; pc = pc2 cpu sound; n = minus_by _ _ (differs cpu.y (zp cpu) (sound.bytes (cpu.pc + 1))); z = zero_by _ _ (differs cpu.y (zp cpu) (sound.bytes (cpu.pc + 1))); c = refl; v = refl; d = refl; i = refl }; fetches = refl }; news = []; log = refl; bus = tail2 cpu sound 0xC0 is; memory = refl; opcode = (refl, (refl, tt)) })
    d1 e.1.0

pub obeys_C4 : Obeys3 0xC4 (Compare Y ZeroPage)
obeys_C4 cpu ir low high back was sound is m0 m1 m2 d1 d2 e =
    by_zero_page cpu sound (λ d1 d2. CellsDo (Compare Y ZeroPage) cpu (resting cpu ir low high back was) (cy m0 0xC4 ∷ cy m1 d1 ∷ cy m2 d2 ∷ []))
    (record { rests = record { holds = record { a = refl; x = refl; y = refl; s = refl; pc = pc2 cpu sound; n = minus_by _ _ (differs cpu.y (found (zp cpu) cpu) (found_byte cpu sound (zp cpu))); z = zero_by _ _ (differs cpu.y (found (zp cpu) cpu) (found_byte cpu sound (zp cpu))); c = refl; v = refl; d = refl; i = refl }; fetches = refl }; news = Reads (zp cpu) (found (zp cpu) cpu) ∷ []; log = refl; bus = seen_at _ _ (flat _) (λ p. Reads p (found (zp cpu) cpu)) _ _ (tail2 cpu sound 0xC4 is); memory = refl; opcode = (refl, (refl, (refl, tt))) })
    d1 d2 e.1.0 e.1.1.0

pub obeys_CC : Obeys4 0xCC (Compare Y Absolute)
obeys_CC cpu ir low high back was sound is m0 m1 m2 m3 d1 d2 d3 e =
    by_absolute cpu sound (λ d1 d2 d3. CellsDo (Compare Y Absolute) cpu (resting cpu ir low high back was) (cy m0 0xCC ∷ cy m1 d1 ∷ cy m2 d2 ∷ cy m3 d3 ∷ []))
    (record { rests = record { holds = record { a = refl; x = refl; y = refl; s = refl; pc = pc3 cpu sound; n = minus_by _ _ (differs cpu.y (found (wide cpu) cpu) (found_byte cpu sound (wide cpu))); z = zero_by _ _ (differs cpu.y (found (wide cpu) cpu) (found_byte cpu sound (wide cpu))); c = refl; v = refl; d = refl; i = refl }; fetches = refl }; news = Reads (wide cpu) (found (wide cpu) cpu) ∷ []; log = refl; bus = seen_at _ _ (refl) (λ p. Reads p (found (wide cpu) cpu)) _ _ (tail3 cpu sound 0xCC is); memory = refl; opcode = (refl, (refl, (refl, (refl, tt)))) })
    d1 d2 d3 e.1.0 e.1.1.0 e.1.1.1.0

pub obeys_24 : Obeys3 0x24 (TestBits ZeroPage)
obeys_24 cpu ir low high back was sound is m0 m1 m2 d1 d2 e =
    by_zero_page cpu sound (λ d1 d2. CellsDo (TestBits ZeroPage) cpu (resting cpu ir low high back was) (cy m0 0x24 ∷ cy m1 d1 ∷ cy m2 d2 ∷ []))
    (record { rests = record { holds = record { a = refl; x = refl; y = refl; s = refl; pc = pc2 cpu sound; n = refl; z = zero_is _; c = refl; v = over_of (found (zp cpu) cpu); d = refl; i = refl }; fetches = refl }; news = Reads (zp cpu) (found (zp cpu) cpu) ∷ []; log = refl; bus = seen_at _ _ (flat _) (λ p. Reads p (found (zp cpu) cpu)) _ _ (tail2 cpu sound 0x24 is); memory = refl; opcode = (refl, (refl, (refl, tt))) })
    d1 d2 e.1.0 e.1.1.0

pub obeys_2C : Obeys4 0x2C (TestBits Absolute)
obeys_2C cpu ir low high back was sound is m0 m1 m2 m3 d1 d2 d3 e =
    by_absolute cpu sound (λ d1 d2 d3. CellsDo (TestBits Absolute) cpu (resting cpu ir low high back was) (cy m0 0x2C ∷ cy m1 d1 ∷ cy m2 d2 ∷ cy m3 d3 ∷ []))
    (record { rests = record { holds = record { a = refl; x = refl; y = refl; s = refl; pc = pc3 cpu sound; n = refl; z = zero_is _; c = refl; v = over_of (found (wide cpu) cpu); d = refl; i = refl }; fetches = refl }; news = Reads (wide cpu) (found (wide cpu) cpu) ∷ []; log = refl; bus = seen_at _ _ (refl) (λ p. Reads p (found (wide cpu) cpu)) _ _ (tail3 cpu sound 0x2C is); memory = refl; opcode = (refl, (refl, (refl, (refl, tt)))) })
    d1 d2 d3 e.1.0 e.1.1.0 e.1.1.1.0
