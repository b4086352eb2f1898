-- The opcodes that write a byte. Written by crates/dvg_cells_cpu/tables.
use Rattle.std.proofs.Common.{◌+◌, ◌*◌, ◌/◌, ◌%◌, [], ◌∷◌, refl, arith}
use Rattle.dvg_calls_6502.specs.Processor.{Reads, Writes, A, X, Y, bit_of, found, Store, Change, ShiftAt, Left, Right}
use Rattle.dvg_calls_6502.specs.Processor.{RotateLeft, RotateRight, ZeroPage, ZeroPageX, ZeroPageY, Absolute}
use Rattle.dvg_calls_6502.specs.Processor.{AbsoluteX, AbsoluteY, IndexedIndirect, IndirectIndexed}
use Rattle.dvg_cells_cpu.specs.Refines.{CellsDo}
use Rattle.dvg_cells_cpu.proofs.Sums.{flat, rejoined, zero_is, zero_by, minus_by, lowest, doubled, rolled_left}
use Rattle.dvg_cells_cpu.proofs.Sums.{rolled_right, halved}
use Rattle.dvg_cells_cpu.proofs.OperandReads.{zp, zp_by, wide, wide_by, word, word_by, pc2, pc3, found_byte, by_first}
use Rattle.dvg_cells_cpu.proofs.OperandReads.{by_zero_page, by_zero_page_i, by_two, by_absolute, by_absolute_i}
use Rattle.dvg_cells_cpu.proofs.OperandReads.{by_point, by_point_x}
use Rattle.dvg_cells_cpu.proofs.BusAccesses.{seen_at, seen_change, tail2, tail3, tail_at}
use Rattle.dvg_cells_cpu.proofs.Resting.{cy, resting}
use Rattle.dvg_cells_cpu.proofs.Obeying.{Obeys3, Obeys4, Obeys5}

pub obeys_85 : Obeys3 0x85 (Store A ZeroPage)
obeys_85 cpu ir low high back was sound is m0 m1 m2 d1 d2 e =
    by_first cpu sound (λ d1. CellsDo (Store A ZeroPage) cpu (resting cpu ir low high back was) (cy m0 0x85 ∷ cy m1 d1 ∷ cy m2 d2 ∷ []))
    (record { rests = record { holds = record { a = refl; x = refl; y = refl; s = refl; pc = pc2 cpu sound; n = refl; z = refl; c = refl; v = refl; d = refl; i = refl }; fetches = refl }; news = Writes (zp cpu) cpu.a ∷ []; log = refl; bus = seen_at _ _ (flat _) (λ p. Writes p cpu.a) _ _ (tail2 cpu sound 0x85 is); memory = refl; opcode = (refl, (refl, (refl, tt))) })
    d1 e.1.0

pub obeys_95 : Obeys3 0x95 (Store A ZeroPageX)
obeys_95 cpu ir low high back was sound is m0 m1 m2 d1 d2 e =
    by_first cpu sound (λ d1. CellsDo (Store A ZeroPageX) cpu (resting cpu ir low high back was) (cy m0 0x95 ∷ cy m1 d1 ∷ cy m2 d2 ∷ []))
    (record { rests = record { holds = record { a = refl; x = refl; y = refl; s = refl; pc = pc2 cpu sound; n = refl; z = refl; c = refl; v = refl; d = refl; i = refl }; fetches = refl }; news = Writes (zp_by cpu cpu.x) cpu.a ∷ []; log = refl; bus = seen_at _ _ (flat _) (λ p. Writes p cpu.a) _ _ (tail2 cpu sound 0x95 is); memory = refl; opcode = (refl, (refl, (refl, tt))) })
    d1 e.1.0

pub obeys_8D : Obeys4 0x8D (Store A Absolute)
obeys_8D cpu ir low high back was sound is m0 m1 m2 m3 d1 d2 d3 e =
    by_two cpu sound (λ d1 d2. CellsDo (Store A Absolute) cpu (resting cpu ir low high back was) (cy m0 0x8D ∷ cy m1 d1 ∷ cy m2 d2 ∷ cy m3 d3 ∷ []))
    (record { rests = record { holds = record { a = refl; x = refl; y = refl; s = refl; pc = pc3 cpu sound; n = refl; z = refl; c = refl; v = refl; d = refl; i = refl }; fetches = refl }; news = Writes (wide cpu) cpu.a ∷ []; log = refl; bus = seen_at _ _ (refl) (λ p. Writes p cpu.a) _ _ (tail3 cpu sound 0x8D is); memory = refl; opcode = (refl, (refl, (refl, (refl, tt)))) })
    d1 d2 e.1.0 e.1.1.0

pub obeys_9D : Obeys4 0x9D (Store A AbsoluteX)
obeys_9D cpu ir low high back was sound is m0 m1 m2 m3 d1 d2 d3 e =
    by_two cpu sound (λ d1 d2. CellsDo (Store A AbsoluteX) cpu (resting cpu ir low high back was) (cy m0 0x9D ∷ cy m1 d1 ∷ cy m2 d2 ∷ cy m3 d3 ∷ []))
    (record { rests = record { holds = record { a = refl; x = refl; y = refl; s = refl; pc = pc3 cpu sound; n = refl; z = refl; c = refl; v = refl; d = refl; i = refl }; fetches = refl }; news = Writes (wide_by cpu cpu.x) cpu.a ∷ []; log = refl; bus = seen_at _ _ (rejoined _ (omega arith)) (λ p. Writes p cpu.a) _ _ (tail3 cpu sound 0x9D is); memory = refl; opcode = (refl, (refl, (refl, (refl, tt)))) })
    d1 d2 e.1.0 e.1.1.0

pub obeys_99 : Obeys4 0x99 (Store A AbsoluteY)
obeys_99 cpu ir low high back was sound is m0 m1 m2 m3 d1 d2 d3 e =
    by_two cpu sound (λ d1 d2. CellsDo (Store A AbsoluteY) cpu (resting cpu ir low high back was) (cy m0 0x99 ∷ cy m1 d1 ∷ cy m2 d2 ∷ cy m3 d3 ∷ []))
    (record { rests = record { holds = record { a = refl; x = refl; y = refl; s = refl; pc = pc3 cpu sound; n = refl; z = refl; c = refl; v = refl; d = refl; i = refl }; fetches = refl }; news = Writes (wide_by cpu cpu.y) cpu.a ∷ []; log = refl; bus = seen_at _ _ (rejoined _ (omega arith)) (λ p. Writes p cpu.a) _ _ (tail3 cpu sound 0x99 is); memory = refl; opcode = (refl, (refl, (refl, (refl, tt)))) })
    d1 d2 e.1.0 e.1.1.0

pub obeys_81 : Obeys5 0x81 (Store A IndexedIndirect)
obeys_81 cpu ir low high back was sound is m0 m1 m2 m3 m4 d1 d2 d3 d4 e =
    by_point_x cpu sound (λ d1 d2 d3. CellsDo (Store A IndexedIndirect) cpu (resting cpu ir low high back was) (cy m0 0x81 ∷ cy m1 d1 ∷ cy m2 d2 ∷ cy m3 d3 ∷ cy m4 d4 ∷ []))
    (record { rests = record { holds = record { a = refl; x = refl; y = refl; s = refl; pc = pc2 cpu sound; n = refl; z = refl; c = refl; v = refl; d = refl; i = refl }; fetches = refl }; news = Writes (word cpu (zp_by cpu cpu.x)) cpu.a ∷ []; log = refl; bus = seen_at _ _ (refl) (λ p. Writes p cpu.a) _ _ (tail_at cpu sound 0x81 is (zp_by cpu cpu.x)); memory = refl; opcode = (refl, (refl, (refl, (refl, (refl, tt))))) })
    d1 d2 d3 e.1.0 e.1.1.0 e.1.1.1.0

pub obeys_91 : Obeys5 0x91 (Store A IndirectIndexed)
obeys_91 cpu ir low high back was sound is m0 m1 m2 m3 m4 d1 d2 d3 d4 e =
    by_point cpu sound (λ d1 d2 d3. CellsDo (Store A IndirectIndexed) cpu (resting cpu ir low high back was) (cy m0 0x91 ∷ cy m1 d1 ∷ cy m2 d2 ∷ cy m3 d3 ∷ cy m4 d4 ∷ []))
    (record { rests = record { holds = record { a = refl; x = refl; y = refl; s = refl; pc = pc2 cpu sound; n = refl; z = refl; c = refl; v = refl; d = refl; i = refl }; fetches = refl }; news = Writes (word_by cpu (zp cpu)) cpu.a ∷ []; log = refl; bus = seen_at _ _ (rejoined _ (omega arith)) (λ p. Writes p cpu.a) _ _ (tail_at cpu sound 0x91 is (zp cpu)); memory = refl; opcode = (refl, (refl, (refl, (refl, (refl, tt))))) })
    d1 d2 d3 e.1.0 e.1.1.0 e.1.1.1.0

pub obeys_86 : Obeys3 0x86 (Store X ZeroPage)
obeys_86 cpu ir low high back was sound is m0 m1 m2 d1 d2 e =
    by_first cpu sound (λ d1. CellsDo (Store X ZeroPage) cpu (resting cpu ir low high back was) (cy m0 0x86 ∷ cy m1 d1 ∷ cy m2 d2 ∷ []))
    (record { rests = record { holds = record { a = refl; x = refl; y = refl; s = refl; pc = pc2 cpu sound; n = refl; z = refl; c = refl; v = refl; d = refl; i = refl }; fetches = refl }; news = Writes (zp cpu) cpu.x ∷ []; log = refl; bus = seen_at _ _ (flat _) (λ p. Writes p cpu.x) _ _ (tail2 cpu sound 0x86 is); memory = refl; opcode = (refl, (refl, (refl, tt))) })
    d1 e.1.0

pub obeys_96 : Obeys3 0x96 (Store X ZeroPageY)
obeys_96 cpu ir low high back was sound is m0 m1 m2 d1 d2 e =
    by_first cpu sound (λ d1. CellsDo (Store X ZeroPageY) cpu (resting cpu ir low high back was) (cy m0 0x96 ∷ cy m1 d1 ∷ cy m2 d2 ∷ []))
    (record { rests = record { holds = record { a = refl; x = refl; y = refl; s = refl; pc = pc2 cpu sound; n = refl; z = refl; c = refl; v = refl; d = refl; i = refl }; fetches = refl }; news = Writes (zp_by cpu cpu.y) cpu.x ∷ []; log = refl; bus = seen_at _ _ (flat _) (λ p. Writes p cpu.x) _ _ (tail2 cpu sound 0x96 is); memory = refl; opcode = (refl, (refl, (refl, tt))) })
    d1 e.1.0

pub obeys_8E : Obeys4 0x8E (Store X Absolute)
obeys_8E cpu ir low high back was sound is m0 m1 m2 m3 d1 d2 d3 e =
    by_two cpu sound (λ d1 d2. CellsDo (Store X Absolute) cpu (resting cpu ir low high back was) (cy m0 0x8E ∷ cy m1 d1 ∷ cy m2 d2 ∷ cy m3 d3 ∷ []))
    (record { rests = record { holds = record { a = refl; x = refl; y = refl; s = refl; pc = pc3 cpu sound; n = refl; z = refl; c = refl; v = refl; d = refl; i = refl }; fetches = refl }; news = Writes (wide cpu) cpu.x ∷ []; log = refl; bus = seen_at _ _ (refl) (λ p. Writes p cpu.x) _ _ (tail3 cpu sound 0x8E is); memory = refl; opcode = (refl, (refl, (refl, (refl, tt)))) })
    d1 d2 e.1.0 e.1.1.0

pub obeys_84 : Obeys3 0x84 (Store Y ZeroPage)
obeys_84 cpu ir low high back was sound is m0 m1 m2 d1 d2 e =
    by_first cpu sound (λ d1. CellsDo (Store Y ZeroPage) cpu (resting cpu ir low high back was) (cy m0 0x84 ∷ cy m1 d1 ∷ cy m2 d2 ∷ []))
    (record { rests = record { holds = record { a = refl; x = refl; y = refl; s = refl; pc = pc2 cpu sound; n = refl; z = refl; c = refl; v = refl; d = refl; i = refl }; fetches = refl }; news = Writes (zp cpu) cpu.y ∷ []; log = refl; bus = seen_at _ _ (flat _) (λ p. Writes p cpu.y) _ _ (tail2 cpu sound 0x84 is); memory = refl; opcode = (refl, (refl, (refl, tt))) })
    d1 e.1.0

pub obeys_94 : Obeys3 0x94 (Store Y ZeroPageX)
obeys_94 cpu ir low high back was sound is m0 m1 m2 d1 d2 e =
    by_first cpu sound (λ d1. CellsDo (Store Y ZeroPageX) cpu (resting cpu ir low high back was) (cy m0 0x94 ∷ cy m1 d1 ∷ cy m2 d2 ∷ []))
    (record { rests = record { holds = record { a = refl; x = refl; y = refl; s = refl; pc = pc2 cpu sound; n = refl; z = refl; c = refl; v = refl; d = refl; i = refl }; fetches = refl }; news = Writes (zp_by cpu cpu.x) cpu.y ∷ []; log = refl; bus = seen_at _ _ (flat _) (λ p. Writes p cpu.y) _ _ (tail2 cpu sound 0x94 is); memory = refl; opcode = (refl, (refl, (refl, tt))) })
    d1 e.1.0

pub obeys_8C : Obeys4 0x8C (Store Y Absolute)
obeys_8C cpu ir low high back was sound is m0 m1 m2 m3 d1 d2 d3 e =
    by_two cpu sound (λ d1 d2. CellsDo (Store Y Absolute) cpu (resting cpu ir low high back was) (cy m0 0x8C ∷ cy m1 d1 ∷ cy m2 d2 ∷ cy m3 d3 ∷ []))
    (record { rests = record { holds = record { a = refl; x = refl; y = refl; s = refl; pc = pc3 cpu sound; n = refl; z = refl; c = refl; v = refl; d = refl; i = refl }; fetches = refl }; news = Writes (wide cpu) cpu.y ∷ []; log = refl; bus = seen_at _ _ (refl) (λ p. Writes p cpu.y) _ _ (tail3 cpu sound 0x8C is); memory = refl; opcode = (refl, (refl, (refl, (refl, tt)))) })
    d1 d2 e.1.0 e.1.1.0

pub obeys_E6 : Obeys4 0xE6 (Change ZeroPage 1)
obeys_E6 cpu ir low high back was sound is m0 m1 m2 m3 d1 d2 d3 e =
    by_zero_page cpu sound (λ d1 d2. CellsDo (Change ZeroPage 1) cpu (resting cpu ir low high back was) (cy m0 0xE6 ∷ cy m1 d1 ∷ cy m2 d2 ∷ cy m3 d3 ∷ []))
    (record { rests = record { holds = record { a = refl; x = refl; y = refl; s = refl; pc = pc2 cpu sound; n = refl; z = zero_is _; c = refl; v = refl; d = refl; i = refl }; fetches = refl }; news = Writes (zp cpu) (((found (zp cpu) cpu) + 1) % 256) ∷ Reads (zp cpu) (found (zp cpu) cpu) ∷ []; log = refl; bus = seen_change _ _ (flat _) (found (zp cpu) cpu) _ (((found (zp cpu) cpu) + 1) % 256) (refl) _ _ (tail2 cpu sound 0xE6 is); memory = refl; opcode = (refl, (refl, (refl, (refl, tt)))) })
    d1 d2 e.1.0 e.1.1.0

pub obeys_F6 : Obeys4 0xF6 (Change ZeroPageX 1)
obeys_F6 cpu ir low high back was sound is m0 m1 m2 m3 d1 d2 d3 e =
    by_zero_page_i cpu sound cpu.x (λ d1 d2. CellsDo (Change ZeroPageX 1) cpu (resting cpu ir low high back was) (cy m0 0xF6 ∷ cy m1 d1 ∷ cy m2 d2 ∷ cy m3 d3 ∷ []))
    (record { rests = record { holds = record { a = refl; x = refl; y = refl; s = refl; pc = pc2 cpu sound; n = refl; z = zero_is _; c = refl; v = refl; d = refl; i = refl }; fetches = refl }; news = Writes (zp_by cpu cpu.x) (((found (zp_by cpu cpu.x) cpu) + 1) % 256) ∷ Reads (zp_by cpu cpu.x) (found (zp_by cpu cpu.x) cpu) ∷ []; log = refl; bus = seen_change _ _ (flat _) (found (zp_by cpu cpu.x) cpu) _ (((found (zp_by cpu cpu.x) cpu) + 1) % 256) (refl) _ _ (tail2 cpu sound 0xF6 is); memory = refl; opcode = (refl, (refl, (refl, (refl, tt)))) })
    d1 d2 e.1.0 e.1.1.0

pub obeys_EE : Obeys5 0xEE (Change Absolute 1)
obeys_EE cpu ir low high back was sound is m0 m1 m2 m3 m4 d1 d2 d3 d4 e =
    by_absolute cpu sound (λ d1 d2 d3. CellsDo (Change Absolute 1) cpu (resting cpu ir low high back was) (cy m0 0xEE ∷ cy m1 d1 ∷ cy m2 d2 ∷ cy m3 d3 ∷ cy m4 d4 ∷ []))
    (record { rests = record { holds = record { a = refl; x = refl; y = refl; s = refl; pc = pc3 cpu sound; n = refl; z = zero_is _; c = refl; v = refl; d = refl; i = refl }; fetches = refl }; news = Writes (wide cpu) (((found (wide cpu) cpu) + 1) % 256) ∷ Reads (wide cpu) (found (wide cpu) cpu) ∷ []; log = refl; bus = seen_change _ _ (refl) (found (wide cpu) cpu) _ (((found (wide cpu) cpu) + 1) % 256) (refl) _ _ (tail3 cpu sound 0xEE is); memory = refl; opcode = (refl, (refl, (refl, (refl, (refl, tt))))) })
    d1 d2 d3 e.1.0 e.1.1.0 e.1.1.1.0

pub obeys_FE : Obeys5 0xFE (Change AbsoluteX 1)
obeys_FE cpu ir low high back was sound is m0 m1 m2 m3 m4 d1 d2 d3 d4 e =
    by_absolute_i cpu sound cpu.x (λ d1 d2 d3. CellsDo (Change AbsoluteX 1) cpu (resting cpu ir low high back was) (cy m0 0xFE ∷ cy m1 d1 ∷ cy m2 d2 ∷ cy m3 d3 ∷ cy m4 d4 ∷ []))
    (record { rests = record { holds = record { a = refl; x = refl; y = refl; s = refl; pc = pc3 cpu sound; n = refl; z = zero_is _; c = refl; v = refl; d = refl; i = refl }; fetches = refl }; news = Writes (wide_by cpu cpu.x) (((found (wide_by cpu cpu.x) cpu) + 1) % 256) ∷ Reads (wide_by cpu cpu.x) (found (wide_by cpu cpu.x) cpu) ∷ []; log = refl; bus = seen_change _ _ (rejoined _ (omega arith)) (found (wide_by cpu cpu.x) cpu) _ (((found (wide_by cpu cpu.x) cpu) + 1) % 256) (refl) _ _ (tail3 cpu sound 0xFE is); memory = refl; opcode = (refl, (refl, (refl, (refl, (refl, tt))))) })
    d1 d2 d3 e.1.0 e.1.1.0 e.1.1.1.0

pub obeys_C6 : Obeys4 0xC6 (Change ZeroPage 255)
obeys_C6 cpu ir low high back was sound is m0 m1 m2 m3 d1 d2 d3 e =
    by_zero_page cpu sound (λ d1 d2. CellsDo (Change ZeroPage 255) cpu (resting cpu ir low high back was) (cy m0 0xC6 ∷ cy m1 d1 ∷ cy m2 d2 ∷ cy m3 d3 ∷ []))
    (record { rests = record { holds = record { a = refl; x = refl; y = refl; s = refl; pc = pc2 cpu sound; n = refl; z = zero_is _; c = refl; v = refl; d = refl; i = refl }; fetches = refl }; news = Writes (zp cpu) (((found (zp cpu) cpu) + 255) % 256) ∷ Reads (zp cpu) (found (zp cpu) cpu) ∷ []; log = refl; bus = seen_change _ _ (flat _) (found (zp cpu) cpu) _ (((found (zp cpu) cpu) + 255) % 256) (refl) _ _ (tail2 cpu sound 0xC6 is); memory = refl; opcode = (refl, (refl, (refl, (refl, tt)))) })
    d1 d2 e.1.0 e.1.1.0

pub obeys_D6 : Obeys4 0xD6 (Change ZeroPageX 255)
obeys_D6 cpu ir low high back was sound is m0 m1 m2 m3 d1 d2 d3 e =
    by_zero_page_i cpu sound cpu.x (λ d1 d2. CellsDo (Change ZeroPageX 255) cpu (resting cpu ir low high back was) (cy m0 0xD6 ∷ cy m1 d1 ∷ cy m2 d2 ∷ cy m3 d3 ∷ []))
    (record { rests = record { holds = record { a = refl; x = refl; y = refl; s = refl; pc = pc2 cpu sound; n = refl; z = zero_is _; c = refl; v = refl; d = refl; i = refl }; fetches = refl }; news = Writes (zp_by cpu cpu.x) (((found (zp_by cpu cpu.x) cpu) + 255) % 256) ∷ Reads (zp_by cpu cpu.x) (found (zp_by cpu cpu.x) cpu) ∷ []; log = refl; bus = seen_change _ _ (flat _) (found (zp_by cpu cpu.x) cpu) _ (((found (zp_by cpu cpu.x) cpu) + 255) % 256) (refl) _ _ (tail2 cpu sound 0xD6 is); memory = refl; opcode = (refl, (refl, (refl, (refl, tt)))) })
    d1 d2 e.1.0 e.1.1.0

pub obeys_CE : Obeys5 0xCE (Change Absolute 255)
obeys_CE cpu ir low high back was sound is m0 m1 m2 m3 m4 d1 d2 d3 d4 e =
    by_absolute cpu sound (λ d1 d2 d3. CellsDo (Change Absolute 255) cpu (resting cpu ir low high back was) (cy m0 0xCE ∷ cy m1 d1 ∷ cy m2 d2 ∷ cy m3 d3 ∷ cy m4 d4 ∷ []))
    (record { rests = record { holds = record { a = refl; x = refl; y = refl; s = refl; pc = pc3 cpu sound; n = refl; z = zero_is _; c = refl; v = refl; d = refl; i = refl }; fetches = refl }; news = Writes (wide cpu) (((found (wide cpu) cpu) + 255) % 256) ∷ Reads (wide cpu) (found (wide cpu) cpu) ∷ []; log = refl; bus = seen_change _ _ (refl) (found (wide cpu) cpu) _ (((found (wide cpu) cpu) + 255) % 256) (refl) _ _ (tail3 cpu sound 0xCE is); memory = refl; opcode = (refl, (refl, (refl, (refl, (refl, tt))))) })
    d1 d2 d3 e.1.0 e.1.1.0 e.1.1.1.0

pub obeys_DE : Obeys5 0xDE (Change AbsoluteX 255)
obeys_DE cpu ir low high back was sound is m0 m1 m2 m3 m4 d1 d2 d3 d4 e =
    by_absolute_i cpu sound cpu.x (λ d1 d2 d3. CellsDo (Change AbsoluteX 255) cpu (resting cpu ir low high back was) (cy m0 0xDE ∷ cy m1 d1 ∷ cy m2 d2 ∷ cy m3 d3 ∷ cy m4 d4 ∷ []))
    (record { rests = record { holds = record { a = refl; x = refl; y = refl; s = refl; pc = pc3 cpu sound; n = refl; z = zero_is _; c = refl; v = refl; d = refl; i = refl }; fetches = refl }; news = Writes (wide_by cpu cpu.x) (((found (wide_by cpu cpu.x) cpu) + 255) % 256) ∷ Reads (wide_by cpu cpu.x) (found (wide_by cpu cpu.x) cpu) ∷ []; log = refl; bus = seen_change _ _ (rejoined _ (omega arith)) (found (wide_by cpu cpu.x) cpu) _ (((found (wide_by cpu cpu.x) cpu) + 255) % 256) (refl) _ _ (tail3 cpu sound 0xDE is); memory = refl; opcode = (refl, (refl, (refl, (refl, (refl, tt))))) })
    d1 d2 d3 e.1.0 e.1.1.0 e.1.1.1.0

pub obeys_06 : Obeys4 0x06 (ShiftAt Left ZeroPage)
obeys_06 cpu ir low high back was sound is m0 m1 m2 m3 d1 d2 d3 e =
    by_zero_page cpu sound (λ d1 d2. CellsDo (ShiftAt Left ZeroPage) cpu (resting cpu ir low high back was) (cy m0 0x06 ∷ cy m1 d1 ∷ cy m2 d2 ∷ cy m3 d3 ∷ []))
    (record { rests = record { holds = record { a = refl; x = refl; y = refl; s = refl; pc = pc2 cpu sound; n = minus_by _ _ (doubled (found (zp cpu) cpu)); z = zero_by _ _ (doubled (found (zp cpu) cpu)); c = refl; v = refl; d = refl; i = refl }; fetches = refl }; news = Writes (zp cpu) (2 * (found (zp cpu) cpu) % 256) ∷ Reads (zp cpu) (found (zp cpu) cpu) ∷ []; log = refl; bus = seen_change _ _ (flat _) (found (zp cpu) cpu) _ (2 * (found (zp cpu) cpu) % 256) (doubled (found (zp cpu) cpu)) _ _ (tail2 cpu sound 0x06 is); memory = refl; opcode = (refl, (refl, (refl, (refl, tt)))) })
    d1 d2 e.1.0 e.1.1.0

pub obeys_16 : Obeys4 0x16 (ShiftAt Left ZeroPageX)
obeys_16 cpu ir low high back was sound is m0 m1 m2 m3 d1 d2 d3 e =
    by_zero_page_i cpu sound cpu.x (λ d1 d2. CellsDo (ShiftAt Left ZeroPageX) cpu (resting cpu ir low high back was) (cy m0 0x16 ∷ cy m1 d1 ∷ cy m2 d2 ∷ cy m3 d3 ∷ []))
    (record { rests = record { holds = record { a = refl; x = refl; y = refl; s = refl; pc = pc2 cpu sound; n = minus_by _ _ (doubled (found (zp_by cpu cpu.x) cpu)); z = zero_by _ _ (doubled (found (zp_by cpu cpu.x) cpu)); c = refl; v = refl; d = refl; i = refl }; fetches = refl }; news = Writes (zp_by cpu cpu.x) (2 * (found (zp_by cpu cpu.x) cpu) % 256) ∷ Reads (zp_by cpu cpu.x) (found (zp_by cpu cpu.x) cpu) ∷ []; log = refl; bus = seen_change _ _ (flat _) (found (zp_by cpu cpu.x) cpu) _ (2 * (found (zp_by cpu cpu.x) cpu) % 256) (doubled (found (zp_by cpu cpu.x) cpu)) _ _ (tail2 cpu sound 0x16 is); memory = refl; opcode = (refl, (refl, (refl, (refl, tt)))) })
    d1 d2 e.1.0 e.1.1.0

pub obeys_0E : Obeys5 0x0E (ShiftAt Left Absolute)
obeys_0E cpu ir low high back was sound is m0 m1 m2 m3 m4 d1 d2 d3 d4 e =
    by_absolute cpu sound (λ d1 d2 d3. CellsDo (ShiftAt Left Absolute) cpu (resting cpu ir low high back was) (cy m0 0x0E ∷ cy m1 d1 ∷ cy m2 d2 ∷ cy m3 d3 ∷ cy m4 d4 ∷ []))
    (record { rests = record { holds = record { a = refl; x = refl; y = refl; s = refl; pc = pc3 cpu sound; n = minus_by _ _ (doubled (found (wide cpu) cpu)); z = zero_by _ _ (doubled (found (wide cpu) cpu)); c = refl; v = refl; d = refl; i = refl }; fetches = refl }; news = Writes (wide cpu) (2 * (found (wide cpu) cpu) % 256) ∷ Reads (wide cpu) (found (wide cpu) cpu) ∷ []; log = refl; bus = seen_change _ _ (refl) (found (wide cpu) cpu) _ (2 * (found (wide cpu) cpu) % 256) (doubled (found (wide cpu) cpu)) _ _ (tail3 cpu sound 0x0E is); memory = refl; opcode = (refl, (refl, (refl, (refl, (refl, tt))))) })
    d1 d2 d3 e.1.0 e.1.1.0 e.1.1.1.0

pub obeys_1E : Obeys5 0x1E (ShiftAt Left AbsoluteX)
obeys_1E cpu ir low high back was sound is m0 m1 m2 m3 m4 d1 d2 d3 d4 e =
    by_absolute_i cpu sound cpu.x (λ d1 d2 d3. CellsDo (ShiftAt Left AbsoluteX) cpu (resting cpu ir low high back was) (cy m0 0x1E ∷ cy m1 d1 ∷ cy m2 d2 ∷ cy m3 d3 ∷ cy m4 d4 ∷ []))
    (record { rests = record { holds = record { a = refl; x = refl; y = refl; s = refl; pc = pc3 cpu sound; n = minus_by _ _ (doubled (found (wide_by cpu cpu.x) cpu)); z = zero_by _ _ (doubled (found (wide_by cpu cpu.x) cpu)); c = refl; v = refl; d = refl; i = refl }; fetches = refl }; news = Writes (wide_by cpu cpu.x) (2 * (found (wide_by cpu cpu.x) cpu) % 256) ∷ Reads (wide_by cpu cpu.x) (found (wide_by cpu cpu.x) cpu) ∷ []; log = refl; bus = seen_change _ _ (rejoined _ (omega arith)) (found (wide_by cpu cpu.x) cpu) _ (2 * (found (wide_by cpu cpu.x) cpu) % 256) (doubled (found (wide_by cpu cpu.x) cpu)) _ _ (tail3 cpu sound 0x1E is); memory = refl; opcode = (refl, (refl, (refl, (refl, (refl, tt))))) })
    d1 d2 d3 e.1.0 e.1.1.0 e.1.1.1.0

pub obeys_46 : Obeys4 0x46 (ShiftAt Right ZeroPage)
obeys_46 cpu ir low high back was sound is m0 m1 m2 m3 d1 d2 d3 e =
    by_zero_page cpu sound (λ d1 d2. CellsDo (ShiftAt Right ZeroPage) cpu (resting cpu ir low high back was) (cy m0 0x46 ∷ cy m1 d1 ∷ cy m2 d2 ∷ cy m3 d3 ∷ []))
    (record { rests = record { holds = record { a = refl; x = refl; y = refl; s = refl; pc = pc2 cpu sound; n = minus_by _ _ (halved (found (zp cpu) cpu) (found_byte cpu sound (zp cpu))); z = zero_by _ _ (halved (found (zp cpu) cpu) (found_byte cpu sound (zp cpu))); c = lowest (found (zp cpu) cpu); v = refl; d = refl; i = refl }; fetches = refl }; news = Writes (zp cpu) ((found (zp cpu) cpu) / 2) ∷ Reads (zp cpu) (found (zp cpu) cpu) ∷ []; log = refl; bus = seen_change _ _ (flat _) (found (zp cpu) cpu) _ ((found (zp cpu) cpu) / 2) (halved (found (zp cpu) cpu) (found_byte cpu sound (zp cpu))) _ _ (tail2 cpu sound 0x46 is); memory = refl; opcode = (refl, (refl, (refl, (refl, tt)))) })
    d1 d2 e.1.0 e.1.1.0

pub obeys_56 : Obeys4 0x56 (ShiftAt Right ZeroPageX)
obeys_56 cpu ir low high back was sound is m0 m1 m2 m3 d1 d2 d3 e =
    by_zero_page_i cpu sound cpu.x (λ d1 d2. CellsDo (ShiftAt Right ZeroPageX) cpu (resting cpu ir low high back was) (cy m0 0x56 ∷ cy m1 d1 ∷ cy m2 d2 ∷ cy m3 d3 ∷ []))
    (record { rests = record { holds = record { a = refl; x = refl; y = refl; s = refl; pc = pc2 cpu sound; n = minus_by _ _ (halved (found (zp_by cpu cpu.x) cpu) (found_byte cpu sound (zp_by cpu cpu.x))); z = zero_by _ _ (halved (found (zp_by cpu cpu.x) cpu) (found_byte cpu sound (zp_by cpu cpu.x))); c = lowest (found (zp_by cpu cpu.x) cpu); v = refl; d = refl; i = refl }; fetches = refl }; news = Writes (zp_by cpu cpu.x) ((found (zp_by cpu cpu.x) cpu) / 2) ∷ Reads (zp_by cpu cpu.x) (found (zp_by cpu cpu.x) cpu) ∷ []; log = refl; bus = seen_change _ _ (flat _) (found (zp_by cpu cpu.x) cpu) _ ((found (zp_by cpu cpu.x) cpu) / 2) (halved (found (zp_by cpu cpu.x) cpu) (found_byte cpu sound (zp_by cpu cpu.x))) _ _ (tail2 cpu sound 0x56 is); memory = refl; opcode = (refl, (refl, (refl, (refl, tt)))) })
    d1 d2 e.1.0 e.1.1.0

pub obeys_4E : Obeys5 0x4E (ShiftAt Right Absolute)
obeys_4E cpu ir low high back was sound is m0 m1 m2 m3 m4 d1 d2 d3 d4 e =
    by_absolute cpu sound (λ d1 d2 d3. CellsDo (ShiftAt Right Absolute) cpu (resting cpu ir low high back was) (cy m0 0x4E ∷ cy m1 d1 ∷ cy m2 d2 ∷ cy m3 d3 ∷ cy m4 d4 ∷ []))
    (record { rests = record { holds = record { a = refl; x = refl; y = refl; s = refl; pc = pc3 cpu sound; n = minus_by _ _ (halved (found (wide cpu) cpu) (found_byte cpu sound (wide cpu))); z = zero_by _ _ (halved (found (wide cpu) cpu) (found_byte cpu sound (wide cpu))); c = lowest (found (wide cpu) cpu); v = refl; d = refl; i = refl }; fetches = refl }; news = Writes (wide cpu) ((found (wide cpu) cpu) / 2) ∷ Reads (wide cpu) (found (wide cpu) cpu) ∷ []; log = refl; bus = seen_change _ _ (refl) (found (wide cpu) cpu) _ ((found (wide cpu) cpu) / 2) (halved (found (wide cpu) cpu) (found_byte cpu sound (wide cpu))) _ _ (tail3 cpu sound 0x4E is); memory = refl; opcode = (refl, (refl, (refl, (refl, (refl, tt))))) })
    d1 d2 d3 e.1.0 e.1.1.0 e.1.1.1.0

pub obeys_5E : Obeys5 0x5E (ShiftAt Right AbsoluteX)
obeys_5E cpu ir low high back was sound is m0 m1 m2 m3 m4 d1 d2 d3 d4 e =
    by_absolute_i cpu sound cpu.x (λ d1 d2 d3. CellsDo (ShiftAt Right AbsoluteX) cpu (resting cpu ir low high back was) (cy m0 0x5E ∷ cy m1 d1 ∷ cy m2 d2 ∷ cy m3 d3 ∷ cy m4 d4 ∷ []))
    (record { rests = record { holds = record { a = refl; x = refl; y = refl; s = refl; pc = pc3 cpu sound; n = minus_by _ _ (halved (found (wide_by cpu cpu.x) cpu) (found_byte cpu sound (wide_by cpu cpu.x))); z = zero_by _ _ (halved (found (wide_by cpu cpu.x) cpu) (found_byte cpu sound (wide_by cpu cpu.x))); c = lowest (found (wide_by cpu cpu.x) cpu); v = refl; d = refl; i = refl }; fetches = refl }; news = Writes (wide_by cpu cpu.x) ((found (wide_by cpu cpu.x) cpu) / 2) ∷ Reads (wide_by cpu cpu.x) (found (wide_by cpu cpu.x) cpu) ∷ []; log = refl; bus = seen_change _ _ (rejoined _ (omega arith)) (found (wide_by cpu cpu.x) cpu) _ ((found (wide_by cpu cpu.x) cpu) / 2) (halved (found (wide_by cpu cpu.x) cpu) (found_byte cpu sound (wide_by cpu cpu.x))) _ _ (tail3 cpu sound 0x5E is); memory = refl; opcode = (refl, (refl, (refl, (refl, (refl, tt))))) })
    d1 d2 d3 e.1.0 e.1.1.0 e.1.1.1.0

pub obeys_26 : Obeys4 0x26 (ShiftAt RotateLeft ZeroPage)
obeys_26 cpu ir low high back was sound is m0 m1 m2 m3 d1 d2 d3 e =
    by_zero_page cpu sound (λ d1 d2. CellsDo (ShiftAt RotateLeft ZeroPage) cpu (resting cpu ir low high back was) (cy m0 0x26 ∷ cy m1 d1 ∷ cy m2 d2 ∷ cy m3 d3 ∷ []))
    (record { rests = record { holds = record { a = refl; x = refl; y = refl; s = refl; pc = pc2 cpu sound; n = minus_by _ _ (rolled_left (found (zp cpu) cpu) cpu.c); z = zero_by _ _ (rolled_left (found (zp cpu) cpu) cpu.c); c = refl; v = refl; d = refl; i = refl }; fetches = refl }; news = Writes (zp cpu) ((2 * (found (zp cpu) cpu) + bit_of cpu.c) % 256) ∷ Reads (zp cpu) (found (zp cpu) cpu) ∷ []; log = refl; bus = seen_change _ _ (flat _) (found (zp cpu) cpu) _ ((2 * (found (zp cpu) cpu) + bit_of cpu.c) % 256) (rolled_left (found (zp cpu) cpu) cpu.c) _ _ (tail2 cpu sound 0x26 is); memory = refl; opcode = (refl, (refl, (refl, (refl, tt)))) })
    d1 d2 e.1.0 e.1.1.0

pub obeys_36 : Obeys4 0x36 (ShiftAt RotateLeft ZeroPageX)
obeys_36 cpu ir low high back was sound is m0 m1 m2 m3 d1 d2 d3 e =
    by_zero_page_i cpu sound cpu.x (λ d1 d2. CellsDo (ShiftAt RotateLeft ZeroPageX) cpu (resting cpu ir low high back was) (cy m0 0x36 ∷ cy m1 d1 ∷ cy m2 d2 ∷ cy m3 d3 ∷ []))
    (record { rests = record { holds = record { a = refl; x = refl; y = refl; s = refl; pc = pc2 cpu sound; n = minus_by _ _ (rolled_left (found (zp_by cpu cpu.x) cpu) cpu.c); z = zero_by _ _ (rolled_left (found (zp_by cpu cpu.x) cpu) cpu.c); c = refl; v = refl; d = refl; i = refl }; fetches = refl }; news = Writes (zp_by cpu cpu.x) ((2 * (found (zp_by cpu cpu.x) cpu) + bit_of cpu.c) % 256) ∷ Reads (zp_by cpu cpu.x) (found (zp_by cpu cpu.x) cpu) ∷ []; log = refl; bus = seen_change _ _ (flat _) (found (zp_by cpu cpu.x) cpu) _ ((2 * (found (zp_by cpu cpu.x) cpu) + bit_of cpu.c) % 256) (rolled_left (found (zp_by cpu cpu.x) cpu) cpu.c) _ _ (tail2 cpu sound 0x36 is); memory = refl; opcode = (refl, (refl, (refl, (refl, tt)))) })
    d1 d2 e.1.0 e.1.1.0

pub obeys_2E : Obeys5 0x2E (ShiftAt RotateLeft Absolute)
obeys_2E cpu ir low high back was sound is m0 m1 m2 m3 m4 d1 d2 d3 d4 e =
    by_absolute cpu sound (λ d1 d2 d3. CellsDo (ShiftAt RotateLeft Absolute) cpu (resting cpu ir low high back was) (cy m0 0x2E ∷ cy m1 d1 ∷ cy m2 d2 ∷ cy m3 d3 ∷ cy m4 d4 ∷ []))
    (record { rests = record { holds = record { a = refl; x = refl; y = refl; s = refl; pc = pc3 cpu sound; n = minus_by _ _ (rolled_left (found (wide cpu) cpu) cpu.c); z = zero_by _ _ (rolled_left (found (wide cpu) cpu) cpu.c); c = refl; v = refl; d = refl; i = refl }; fetches = refl }; news = Writes (wide cpu) ((2 * (found (wide cpu) cpu) + bit_of cpu.c) % 256) ∷ Reads (wide cpu) (found (wide cpu) cpu) ∷ []; log = refl; bus = seen_change _ _ (refl) (found (wide cpu) cpu) _ ((2 * (found (wide cpu) cpu) + bit_of cpu.c) % 256) (rolled_left (found (wide cpu) cpu) cpu.c) _ _ (tail3 cpu sound 0x2E is); memory = refl; opcode = (refl, (refl, (refl, (refl, (refl, tt))))) })
    d1 d2 d3 e.1.0 e.1.1.0 e.1.1.1.0

pub obeys_3E : Obeys5 0x3E (ShiftAt RotateLeft AbsoluteX)
obeys_3E cpu ir low high back was sound is m0 m1 m2 m3 m4 d1 d2 d3 d4 e =
    by_absolute_i cpu sound cpu.x (λ d1 d2 d3. CellsDo (ShiftAt RotateLeft AbsoluteX) cpu (resting cpu ir low high back was) (cy m0 0x3E ∷ cy m1 d1 ∷ cy m2 d2 ∷ cy m3 d3 ∷ cy m4 d4 ∷ []))
    (record { rests = record { holds = record { a = refl; x = refl; y = refl; s = refl; pc = pc3 cpu sound; n = minus_by _ _ (rolled_left (found (wide_by cpu cpu.x) cpu) cpu.c); z = zero_by _ _ (rolled_left (found (wide_by cpu cpu.x) cpu) cpu.c); c = refl; v = refl; d = refl; i = refl }; fetches = refl }; news = Writes (wide_by cpu cpu.x) ((2 * (found (wide_by cpu cpu.x) cpu) + bit_of cpu.c) % 256) ∷ Reads (wide_by cpu cpu.x) (found (wide_by cpu cpu.x) cpu) ∷ []; log = refl; bus = seen_change _ _ (rejoined _ (omega arith)) (found (wide_by cpu cpu.x) cpu) _ ((2 * (found (wide_by cpu cpu.x) cpu) + bit_of cpu.c) % 256) (rolled_left (found (wide_by cpu cpu.x) cpu) cpu.c) _ _ (tail3 cpu sound 0x3E is); memory = refl; opcode = (refl, (refl, (refl, (refl, (refl, tt))))) })
    d1 d2 d3 e.1.0 e.1.1.0 e.1.1.1.0

pub obeys_66 : Obeys4 0x66 (ShiftAt RotateRight ZeroPage)
obeys_66 cpu ir low high back was sound is m0 m1 m2 m3 d1 d2 d3 e =
    by_zero_page cpu sound (λ d1 d2. CellsDo (ShiftAt RotateRight ZeroPage) cpu (resting cpu ir low high back was) (cy m0 0x66 ∷ cy m1 d1 ∷ cy m2 d2 ∷ cy m3 d3 ∷ []))
    (record { rests = record { holds = record { a = refl; x = refl; y = refl; s = refl; pc = pc2 cpu sound; n = minus_by _ _ (rolled_right (found (zp cpu) cpu) cpu.c (found_byte cpu sound (zp cpu))); z = zero_by _ _ (rolled_right (found (zp cpu) cpu) cpu.c (found_byte cpu sound (zp cpu))); c = lowest (found (zp cpu) cpu); v = refl; d = refl; i = refl }; fetches = refl }; news = Writes (zp cpu) ((found (zp cpu) cpu) / 2 + 128 * bit_of cpu.c) ∷ Reads (zp cpu) (found (zp cpu) cpu) ∷ []; log = refl; bus = seen_change _ _ (flat _) (found (zp cpu) cpu) _ ((found (zp cpu) cpu) / 2 + 128 * bit_of cpu.c) (rolled_right (found (zp cpu) cpu) cpu.c (found_byte cpu sound (zp cpu))) _ _ (tail2 cpu sound 0x66 is); memory = refl; opcode = (refl, (refl, (refl, (refl, tt)))) })
    d1 d2 e.1.0 e.1.1.0

pub obeys_76 : Obeys4 0x76 (ShiftAt RotateRight ZeroPageX)
obeys_76 cpu ir low high back was sound is m0 m1 m2 m3 d1 d2 d3 e =
    by_zero_page_i cpu sound cpu.x (λ d1 d2. CellsDo (ShiftAt RotateRight ZeroPageX) cpu (resting cpu ir low high back was) (cy m0 0x76 ∷ cy m1 d1 ∷ cy m2 d2 ∷ cy m3 d3 ∷ []))
    (record { rests = record { holds = record { a = refl; x = refl; y = refl; s = refl; pc = pc2 cpu sound; n = minus_by _ _ (rolled_right (found (zp_by cpu cpu.x) cpu) cpu.c (found_byte cpu sound (zp_by cpu cpu.x))); z = zero_by _ _ (rolled_right (found (zp_by cpu cpu.x) cpu) cpu.c (found_byte cpu sound (zp_by cpu cpu.x))); c = lowest (found (zp_by cpu cpu.x) cpu); v = refl; d = refl; i = refl }; fetches = refl }; news = Writes (zp_by cpu cpu.x) ((found (zp_by cpu cpu.x) cpu) / 2 + 128 * bit_of cpu.c) ∷ Reads (zp_by cpu cpu.x) (found (zp_by cpu cpu.x) cpu) ∷ []; log = refl; bus = seen_change _ _ (flat _) (found (zp_by cpu cpu.x) cpu) _ ((found (zp_by cpu cpu.x) cpu) / 2 + 128 * bit_of cpu.c) (rolled_right (found (zp_by cpu cpu.x) cpu) cpu.c (found_byte cpu sound (zp_by cpu cpu.x))) _ _ (tail2 cpu sound 0x76 is); memory = refl; opcode = (refl, (refl, (refl, (refl, tt)))) })
    d1 d2 e.1.0 e.1.1.0

pub obeys_6E : Obeys5 0x6E (ShiftAt RotateRight Absolute)
obeys_6E cpu ir low high back was sound is m0 m1 m2 m3 m4 d1 d2 d3 d4 e =
    by_absolute cpu sound (λ d1 d2 d3. CellsDo (ShiftAt RotateRight Absolute) cpu (resting cpu ir low high back was) (cy m0 0x6E ∷ cy m1 d1 ∷ cy m2 d2 ∷ cy m3 d3 ∷ cy m4 d4 ∷ []))
    (record { rests = record { holds = record { a = refl; x = refl; y = refl; s = refl; pc = pc3 cpu sound; n = minus_by _ _ (rolled_right (found (wide cpu) cpu) cpu.c (found_byte cpu sound (wide cpu))); z = zero_by _ _ (rolled_right (found (wide cpu) cpu) cpu.c (found_byte cpu sound (wide cpu))); c = lowest (found (wide cpu) cpu); v = refl; d = refl; i = refl }; fetches = refl }; news = Writes (wide cpu) ((found (wide cpu) cpu) / 2 + 128 * bit_of cpu.c) ∷ Reads (wide cpu) (found (wide cpu) cpu) ∷ []; log = refl; bus = seen_change _ _ (refl) (found (wide cpu) cpu) _ ((found (wide cpu) cpu) / 2 + 128 * bit_of cpu.c) (rolled_right (found (wide cpu) cpu) cpu.c (found_byte cpu sound (wide cpu))) _ _ (tail3 cpu sound 0x6E is); memory = refl; opcode = (refl, (refl, (refl, (refl, (refl, tt))))) })
    d1 d2 d3 e.1.0 e.1.1.0 e.1.1.1.0

pub obeys_7E : Obeys5 0x7E (ShiftAt RotateRight AbsoluteX)
obeys_7E cpu ir low high back was sound is m0 m1 m2 m3 m4 d1 d2 d3 d4 e =
    by_absolute_i cpu sound cpu.x (λ d1 d2 d3. CellsDo (ShiftAt RotateRight AbsoluteX) cpu (resting cpu ir low high back was) (cy m0 0x7E ∷ cy m1 d1 ∷ cy m2 d2 ∷ cy m3 d3 ∷ cy m4 d4 ∷ []))
    (record { rests = record { holds = record { a = refl; x = refl; y = refl; s = refl; pc = pc3 cpu sound; n = minus_by _ _ (rolled_right (found (wide_by cpu cpu.x) cpu) cpu.c (found_byte cpu sound (wide_by cpu cpu.x))); z = zero_by _ _ (rolled_right (found (wide_by cpu cpu.x) cpu) cpu.c (found_byte cpu sound (wide_by cpu cpu.x))); c = lowest (found (wide_by cpu cpu.x) cpu); v = refl; d = refl; i = refl }; fetches = refl }; news = Writes (wide_by cpu cpu.x) ((found (wide_by cpu cpu.x) cpu) / 2 + 128 * bit_of cpu.c) ∷ Reads (wide_by cpu cpu.x) (found (wide_by cpu cpu.x) cpu) ∷ []; log = refl; bus = seen_change _ _ (rejoined _ (omega arith)) (found (wide_by cpu cpu.x) cpu) _ ((found (wide_by cpu cpu.x) cpu) / 2 + 128 * bit_of cpu.c) (rolled_right (found (wide_by cpu cpu.x) cpu) cpu.c (found_byte cpu sound (wide_by cpu cpu.x))) _ _ (tail3 cpu sound 0x7E is); memory = refl; opcode = (refl, (refl, (refl, (refl, (refl, tt))))) })
    d1 d2 d3 e.1.0 e.1.1.0 e.1.1.1.0
