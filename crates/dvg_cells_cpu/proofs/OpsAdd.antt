-- The opcodes that add a byte. Written by crates/dvg_cells_cpu/tables.
use Rattle.std.proofs.Common.{◌+◌, ◌-◌, ◌%◌, [], ◌∷◌, refl, arith}
use Rattle.dvg_calls_6502.specs.Processor.{Reads, found, Add, Subtract, Immediate, ZeroPage, ZeroPageX, Absolute}
use Rattle.dvg_calls_6502.specs.Processor.{AbsoluteX, AbsoluteY, IndexedIndirect, IndirectIndexed}
use Rattle.dvg_cells_cpu.specs.Refines.{CellsDo}
use Rattle.dvg_cells_cpu.proofs.Sums.{flat, rejoined, zero_by, minus_by, complement, complement_in, add_result}
use Rattle.dvg_cells_cpu.proofs.Sums.{add_carry, add_over, sum_result, sum_minus, sum_carry, sum_over}
use Rattle.dvg_cells_cpu.proofs.Sums.{difference_result}
use Rattle.dvg_cells_cpu.proofs.OperandReads.{zp, zp_by, wide, wide_by, word, word_by, pc2, pc3, found_byte, by_first}
use Rattle.dvg_cells_cpu.proofs.OperandReads.{by_zero_page, by_zero_page_i, by_absolute, by_absolute_i, by_indirect}
use Rattle.dvg_cells_cpu.proofs.OperandReads.{by_indirect_x}
use Rattle.dvg_cells_cpu.proofs.BusAccesses.{seen_at, tail2, tail3, tail_at}
use Rattle.dvg_cells_cpu.proofs.Resting.{cy, resting}
use Rattle.dvg_cells_cpu.proofs.Obeying.{Obeys2, Obeys3, Obeys4, Obeys5}

pub obeys_69 : Obeys2 0x69 (Add Immediate)
obeys_69 cpu ir low high back was sound is m0 m1 d1 e =
    by_first cpu sound (λ d1. CellsDo (Add Immediate) cpu (resting cpu ir low high back was) (cy m0 0x69 ∷ cy m1 d1 ∷ []))
    (record { rests = record { holds = record { a = sum_result cpu.a (zp cpu) cpu.c cpu.d (zp cpu) refl sound.a (sound.bytes (cpu.pc + 1)); x = refl; y = refl; s = refl; pc = pc2 cpu sound; n = sum_minus cpu.a (zp cpu) cpu.c cpu.d (zp cpu) refl sound.a (sound.bytes (cpu.pc + 1)); z = zero_by _ _ (add_result cpu.a (zp cpu) cpu.c _ refl); c = sum_carry cpu.a (zp cpu) cpu.c cpu.d (zp cpu) refl sound.a (sound.bytes (cpu.pc + 1)); v = sum_over cpu.a (zp cpu) cpu.c cpu.d (zp cpu) refl sound.a (sound.bytes (cpu.pc + 1)); d = refl; i = refl }; fetches = refl }; news = []; log = refl; bus = tail2 cpu sound 0x69 is; memory = refl; opcode = (refl, (refl, tt)) })
    d1 e.1.0

pub obeys_65 : Obeys3 0x65 (Add ZeroPage)
obeys_65 cpu ir low high back was sound is m0 m1 m2 d1 d2 e =
    by_zero_page cpu sound (λ d1 d2. CellsDo (Add ZeroPage) cpu (resting cpu ir low high back was) (cy m0 0x65 ∷ cy m1 d1 ∷ cy m2 d2 ∷ []))
    (record { rests = record { holds = record { a = sum_result cpu.a (found (zp cpu) cpu) cpu.c cpu.d (found (zp cpu) cpu) refl sound.a (found_byte cpu sound (zp cpu)); x = refl; y = refl; s = refl; pc = pc2 cpu sound; n = sum_minus cpu.a (found (zp cpu) cpu) cpu.c cpu.d (found (zp cpu) cpu) refl sound.a (found_byte cpu sound (zp cpu)); z = zero_by _ _ (add_result cpu.a (found (zp cpu) cpu) cpu.c _ refl); c = sum_carry cpu.a (found (zp cpu) cpu) cpu.c cpu.d (found (zp cpu) cpu) refl sound.a (found_byte cpu sound (zp cpu)); v = sum_over cpu.a (found (zp cpu) cpu) cpu.c cpu.d (found (zp cpu) cpu) refl sound.a (found_byte cpu sound (zp cpu)); d = refl; i = refl }; fetches = refl }; news = Reads (zp cpu) (found (zp cpu) cpu) ∷ []; log = refl; bus = seen_at _ _ (flat _) (λ p. Reads p (found (zp cpu) cpu)) _ _ (tail2 cpu sound 0x65 is); memory = refl; opcode = (refl, (refl, (refl, tt))) })
    d1 d2 e.1.0 e.1.1.0

pub obeys_75 : Obeys3 0x75 (Add ZeroPageX)
obeys_75 cpu ir low high back was sound is m0 m1 m2 d1 d2 e =
    by_zero_page_i cpu sound cpu.x (λ d1 d2. CellsDo (Add ZeroPageX) cpu (resting cpu ir low high back was) (cy m0 0x75 ∷ cy m1 d1 ∷ cy m2 d2 ∷ []))
    (record { rests = record { holds = record { a = sum_result cpu.a (found (zp_by cpu cpu.x) cpu) cpu.c cpu.d (found (zp_by cpu cpu.x) cpu) refl sound.a (found_byte cpu sound (zp_by cpu cpu.x)); x = refl; y = refl; s = refl; pc = pc2 cpu sound; n = sum_minus cpu.a (found (zp_by cpu cpu.x) cpu) cpu.c cpu.d (found (zp_by cpu cpu.x) cpu) refl sound.a (found_byte cpu sound (zp_by cpu cpu.x)); z = zero_by _ _ (add_result cpu.a (found (zp_by cpu cpu.x) cpu) cpu.c _ refl); c = sum_carry cpu.a (found (zp_by cpu cpu.x) cpu) cpu.c cpu.d (found (zp_by cpu cpu.x) cpu) refl sound.a (found_byte cpu sound (zp_by cpu cpu.x)); v = sum_over cpu.a (found (zp_by cpu cpu.x) cpu) cpu.c cpu.d (found (zp_by cpu cpu.x) cpu) refl sound.a (found_byte cpu sound (zp_by cpu cpu.x)); d = refl; i = refl }; fetches = refl }; news = Reads (zp_by cpu cpu.x) (found (zp_by cpu cpu.x) cpu) ∷ []; log = refl; bus = seen_at _ _ (flat _) (λ p. Reads p (found (zp_by cpu cpu.x) cpu)) _ _ (tail2 cpu sound 0x75 is); memory = refl; opcode = (refl, (refl, (refl, tt))) })
    d1 d2 e.1.0 e.1.1.0

pub obeys_6D : Obeys4 0x6D (Add Absolute)
obeys_6D cpu ir low high back was sound is m0 m1 m2 m3 d1 d2 d3 e =
    by_absolute cpu sound (λ d1 d2 d3. CellsDo (Add Absolute) cpu (resting cpu ir low high back was) (cy m0 0x6D ∷ cy m1 d1 ∷ cy m2 d2 ∷ cy m3 d3 ∷ []))
    (record { rests = record { holds = record { a = sum_result cpu.a (found (wide cpu) cpu) cpu.c cpu.d (found (wide cpu) cpu) refl sound.a (found_byte cpu sound (wide cpu)); x = refl; y = refl; s = refl; pc = pc3 cpu sound; n = sum_minus cpu.a (found (wide cpu) cpu) cpu.c cpu.d (found (wide cpu) cpu) refl sound.a (found_byte cpu sound (wide cpu)); z = zero_by _ _ (add_result cpu.a (found (wide cpu) cpu) cpu.c _ refl); c = sum_carry cpu.a (found (wide cpu) cpu) cpu.c cpu.d (found (wide cpu) cpu) refl sound.a (found_byte cpu sound (wide cpu)); v = sum_over cpu.a (found (wide cpu) cpu) cpu.c cpu.d (found (wide cpu) cpu) refl sound.a (found_byte cpu sound (wide cpu)); d = refl; i = refl }; fetches = refl }; news = Reads (wide cpu) (found (wide cpu) cpu) ∷ []; log = refl; bus = seen_at _ _ (refl) (λ p. Reads p (found (wide cpu) cpu)) _ _ (tail3 cpu sound 0x6D is); memory = refl; opcode = (refl, (refl, (refl, (refl, tt)))) })
    d1 d2 d3 e.1.0 e.1.1.0 e.1.1.1.0

pub obeys_7D : Obeys4 0x7D (Add AbsoluteX)
obeys_7D cpu ir low high back was sound is m0 m1 m2 m3 d1 d2 d3 e =
    by_absolute_i cpu sound cpu.x (λ d1 d2 d3. CellsDo (Add AbsoluteX) cpu (resting cpu ir low high back was) (cy m0 0x7D ∷ cy m1 d1 ∷ cy m2 d2 ∷ cy m3 d3 ∷ []))
    (record { rests = record { holds = record { a = sum_result cpu.a (found (wide_by cpu cpu.x) cpu) cpu.c cpu.d (found (wide_by cpu cpu.x) cpu) refl sound.a (found_byte cpu sound (wide_by cpu cpu.x)); x = refl; y = refl; s = refl; pc = pc3 cpu sound; n = sum_minus cpu.a (found (wide_by cpu cpu.x) cpu) cpu.c cpu.d (found (wide_by cpu cpu.x) cpu) refl sound.a (found_byte cpu sound (wide_by cpu cpu.x)); z = zero_by _ _ (add_result cpu.a (found (wide_by cpu cpu.x) cpu) cpu.c _ refl); c = sum_carry cpu.a (found (wide_by cpu cpu.x) cpu) cpu.c cpu.d (found (wide_by cpu cpu.x) cpu) refl sound.a (found_byte cpu sound (wide_by cpu cpu.x)); v = sum_over cpu.a (found (wide_by cpu cpu.x) cpu) cpu.c cpu.d (found (wide_by cpu cpu.x) cpu) refl sound.a (found_byte cpu sound (wide_by cpu cpu.x)); d = refl; i = refl }; fetches = refl }; news = Reads (wide_by cpu cpu.x) (found (wide_by cpu cpu.x) cpu) ∷ []; log = refl; bus = seen_at _ _ (rejoined _ (omega arith)) (λ p. Reads p (found (wide_by cpu cpu.x) cpu)) _ _ (tail3 cpu sound 0x7D is); memory = refl; opcode = (refl, (refl, (refl, (refl, tt)))) })
    d1 d2 d3 e.1.0 e.1.1.0 e.1.1.1.0

pub obeys_79 : Obeys4 0x79 (Add AbsoluteY)
obeys_79 cpu ir low high back was sound is m0 m1 m2 m3 d1 d2 d3 e =
    by_absolute_i cpu sound cpu.y (λ d1 d2 d3. CellsDo (Add AbsoluteY) cpu (resting cpu ir low high back was) (cy m0 0x79 ∷ cy m1 d1 ∷ cy m2 d2 ∷ cy m3 d3 ∷ []))
    (record { rests = record { holds = record { a = sum_result cpu.a (found (wide_by cpu cpu.y) cpu) cpu.c cpu.d (found (wide_by cpu cpu.y) cpu) refl sound.a (found_byte cpu sound (wide_by cpu cpu.y)); x = refl; y = refl; s = refl; pc = pc3 cpu sound; n = sum_minus cpu.a (found (wide_by cpu cpu.y) cpu) cpu.c cpu.d (found (wide_by cpu cpu.y) cpu) refl sound.a (found_byte cpu sound (wide_by cpu cpu.y)); z = zero_by _ _ (add_result cpu.a (found (wide_by cpu cpu.y) cpu) cpu.c _ refl); c = sum_carry cpu.a (found (wide_by cpu cpu.y) cpu) cpu.c cpu.d (found (wide_by cpu cpu.y) cpu) refl sound.a (found_byte cpu sound (wide_by cpu cpu.y)); v = sum_over cpu.a (found (wide_by cpu cpu.y) cpu) cpu.c cpu.d (found (wide_by cpu cpu.y) cpu) refl sound.a (found_byte cpu sound (wide_by cpu cpu.y)); d = refl; i = refl }; fetches = refl }; news = Reads (wide_by cpu cpu.y) (found (wide_by cpu cpu.y) cpu) ∷ []; log = refl; bus = seen_at _ _ (rejoined _ (omega arith)) (λ p. Reads p (found (wide_by cpu cpu.y) cpu)) _ _ (tail3 cpu sound 0x79 is); memory = refl; opcode = (refl, (refl, (refl, (refl, tt)))) })
    d1 d2 d3 e.1.0 e.1.1.0 e.1.1.1.0

pub obeys_61 : Obeys5 0x61 (Add IndexedIndirect)
obeys_61 cpu ir low high back was sound is m0 m1 m2 m3 m4 d1 d2 d3 d4 e =
    by_indirect_x cpu sound (λ d1 d2 d3 d4. CellsDo (Add IndexedIndirect) cpu (resting cpu ir low high back was) (cy m0 0x61 ∷ cy m1 d1 ∷ cy m2 d2 ∷ cy m3 d3 ∷ cy m4 d4 ∷ []))
    (record { rests = record { holds = record { a = sum_result cpu.a (found (word cpu (zp_by cpu cpu.x)) cpu) cpu.c cpu.d (found (word cpu (zp_by cpu cpu.x)) cpu) refl sound.a (found_byte cpu sound (word cpu (zp_by cpu cpu.x))); x = refl; y = refl; s = refl; pc = pc2 cpu sound; n = sum_minus cpu.a (found (word cpu (zp_by cpu cpu.x)) cpu) cpu.c cpu.d (found (word cpu (zp_by cpu cpu.x)) cpu) refl sound.a (found_byte cpu sound (word cpu (zp_by cpu cpu.x))); z = zero_by _ _ (add_result cpu.a (found (word cpu (zp_by cpu cpu.x)) cpu) cpu.c _ refl); c = sum_carry cpu.a (found (word cpu (zp_by cpu cpu.x)) cpu) cpu.c cpu.d (found (word cpu (zp_by cpu cpu.x)) cpu) refl sound.a (found_byte cpu sound (word cpu (zp_by cpu cpu.x))); v = sum_over cpu.a (found (word cpu (zp_by cpu cpu.x)) cpu) cpu.c cpu.d (found (word cpu (zp_by cpu cpu.x)) cpu) refl sound.a (found_byte cpu sound (word cpu (zp_by cpu cpu.x))); d = refl; i = refl }; fetches = refl }; news = Reads (word cpu (zp_by cpu cpu.x)) (found (word cpu (zp_by cpu cpu.x)) cpu) ∷ []; log = refl; bus = seen_at _ _ (refl) (λ p. Reads p (found (word cpu (zp_by cpu cpu.x)) cpu)) _ _ (tail_at cpu sound 0x61 is (zp_by cpu cpu.x)); memory = refl; opcode = (refl, (refl, (refl, (refl, (refl, tt))))) })
    d1 d2 d3 d4 e.1.0 e.1.1.0 e.1.1.1.0 e.1.1.1.1.0

pub obeys_71 : Obeys5 0x71 (Add IndirectIndexed)
obeys_71 cpu ir low high back was sound is m0 m1 m2 m3 m4 d1 d2 d3 d4 e =
    by_indirect cpu sound (λ d1 d2 d3 d4. CellsDo (Add IndirectIndexed) cpu (resting cpu ir low high back was) (cy m0 0x71 ∷ cy m1 d1 ∷ cy m2 d2 ∷ cy m3 d3 ∷ cy m4 d4 ∷ []))
    (record { rests = record { holds = record { a = sum_result cpu.a (found (word_by cpu (zp cpu)) cpu) cpu.c cpu.d (found (word_by cpu (zp cpu)) cpu) refl sound.a (found_byte cpu sound (word_by cpu (zp cpu))); x = refl; y = refl; s = refl; pc = pc2 cpu sound; n = sum_minus cpu.a (found (word_by cpu (zp cpu)) cpu) cpu.c cpu.d (found (word_by cpu (zp cpu)) cpu) refl sound.a (found_byte cpu sound (word_by cpu (zp cpu))); z = zero_by _ _ (add_result cpu.a (found (word_by cpu (zp cpu)) cpu) cpu.c _ refl); c = sum_carry cpu.a (found (word_by cpu (zp cpu)) cpu) cpu.c cpu.d (found (word_by cpu (zp cpu)) cpu) refl sound.a (found_byte cpu sound (word_by cpu (zp cpu))); v = sum_over cpu.a (found (word_by cpu (zp cpu)) cpu) cpu.c cpu.d (found (word_by cpu (zp cpu)) cpu) refl sound.a (found_byte cpu sound (word_by cpu (zp cpu))); d = refl; i = refl }; fetches = refl }; news = Reads (word_by cpu (zp cpu)) (found (word_by cpu (zp cpu)) cpu) ∷ []; log = refl; bus = seen_at _ _ (rejoined _ (omega arith)) (λ p. Reads p (found (word_by cpu (zp cpu)) cpu)) _ _ (tail_at cpu sound 0x71 is (zp cpu)); memory = refl; opcode = (refl, (refl, (refl, (refl, (refl, tt))))) })
    d1 d2 d3 d4 e.1.0 e.1.1.0 e.1.1.1.0 e.1.1.1.1.0

pub obeys_E9 : Obeys2 0xE9 (Subtract Immediate)
obeys_E9 cpu ir low high back was sound is m0 m1 d1 e =
    by_first cpu sound (λ d1. CellsDo (Subtract Immediate) cpu (resting cpu ir low high back was) (cy m0 0xE9 ∷ cy m1 d1 ∷ []))
    (record { rests = record { holds = record { a = difference_result cpu.a (255 - (zp cpu)) cpu.c cpu.d ((255 + (256 - (zp cpu))) % 256) (complement (zp cpu) (sound.bytes (cpu.pc + 1))) sound.a (complement_in (zp cpu)); x = refl; y = refl; s = refl; pc = pc2 cpu sound; n = minus_by _ _ (add_result cpu.a (255 - (zp cpu)) cpu.c _ (complement (zp cpu) (sound.bytes (cpu.pc + 1)))); z = zero_by _ _ (add_result cpu.a (255 - (zp cpu)) cpu.c _ (complement (zp cpu) (sound.bytes (cpu.pc + 1)))); c = add_carry cpu.a (255 - (zp cpu)) cpu.c _ (complement (zp cpu) (sound.bytes (cpu.pc + 1))) sound.a (complement_in (zp cpu)); v = add_over cpu.a (255 - (zp cpu)) cpu.c _ (complement (zp cpu) (sound.bytes (cpu.pc + 1))) sound.a (complement_in (zp cpu)); d = refl; i = refl }; fetches = refl }; news = []; log = refl; bus = tail2 cpu sound 0xE9 is; memory = refl; opcode = (refl, (refl, tt)) })
    d1 e.1.0

pub obeys_E5 : Obeys3 0xE5 (Subtract ZeroPage)
obeys_E5 cpu ir low high back was sound is m0 m1 m2 d1 d2 e =
    by_zero_page cpu sound (λ d1 d2. CellsDo (Subtract ZeroPage) cpu (resting cpu ir low high back was) (cy m0 0xE5 ∷ cy m1 d1 ∷ cy m2 d2 ∷ []))
    (record { rests = record { holds = record { a = difference_result cpu.a (255 - (found (zp cpu) cpu)) cpu.c cpu.d ((255 + (256 - (found (zp cpu) cpu))) % 256) (complement (found (zp cpu) cpu) (found_byte cpu sound (zp cpu))) sound.a (complement_in (found (zp cpu) cpu)); x = refl; y = refl; s = refl; pc = pc2 cpu sound; n = minus_by _ _ (add_result cpu.a (255 - (found (zp cpu) cpu)) cpu.c _ (complement (found (zp cpu) cpu) (found_byte cpu sound (zp cpu)))); z = zero_by _ _ (add_result cpu.a (255 - (found (zp cpu) cpu)) cpu.c _ (complement (found (zp cpu) cpu) (found_byte cpu sound (zp cpu)))); c = add_carry cpu.a (255 - (found (zp cpu) cpu)) cpu.c _ (complement (found (zp cpu) cpu) (found_byte cpu sound (zp cpu))) sound.a (complement_in (found (zp cpu) cpu)); v = add_over cpu.a (255 - (found (zp cpu) cpu)) cpu.c _ (complement (found (zp cpu) cpu) (found_byte cpu sound (zp cpu))) sound.a (complement_in (found (zp cpu) cpu)); d = refl; i = refl }; fetches = refl }; news = Reads (zp cpu) (found (zp cpu) cpu) ∷ []; log = refl; bus = seen_at _ _ (flat _) (λ p. Reads p (found (zp cpu) cpu)) _ _ (tail2 cpu sound 0xE5 is); memory = refl; opcode = (refl, (refl, (refl, tt))) })
    d1 d2 e.1.0 e.1.1.0

pub obeys_F5 : Obeys3 0xF5 (Subtract ZeroPageX)
obeys_F5 cpu ir low high back was sound is m0 m1 m2 d1 d2 e =
    by_zero_page_i cpu sound cpu.x (λ d1 d2. CellsDo (Subtract ZeroPageX) cpu (resting cpu ir low high back was) (cy m0 0xF5 ∷ cy m1 d1 ∷ cy m2 d2 ∷ []))
    (record { rests = record { holds = record { a = difference_result cpu.a (255 - (found (zp_by cpu cpu.x) cpu)) cpu.c cpu.d ((255 + (256 - (found (zp_by cpu cpu.x) cpu))) % 256) (complement (found (zp_by cpu cpu.x) cpu) (found_byte cpu sound (zp_by cpu cpu.x))) sound.a (complement_in (found (zp_by cpu cpu.x) cpu)); x = refl; y = refl; s = refl; pc = pc2 cpu sound; n = minus_by _ _ (add_result cpu.a (255 - (found (zp_by cpu cpu.x) cpu)) cpu.c _ (complement (found (zp_by cpu cpu.x) cpu) (found_byte cpu sound (zp_by cpu cpu.x)))); z = zero_by _ _ (add_result cpu.a (255 - (found (zp_by cpu cpu.x) cpu)) cpu.c _ (complement (found (zp_by cpu cpu.x) cpu) (found_byte cpu sound (zp_by cpu cpu.x)))); c = add_carry cpu.a (255 - (found (zp_by cpu cpu.x) cpu)) cpu.c _ (complement (found (zp_by cpu cpu.x) cpu) (found_byte cpu sound (zp_by cpu cpu.x))) sound.a (complement_in (found (zp_by cpu cpu.x) cpu)); v = add_over cpu.a (255 - (found (zp_by cpu cpu.x) cpu)) cpu.c _ (complement (found (zp_by cpu cpu.x) cpu) (found_byte cpu sound (zp_by cpu cpu.x))) sound.a (complement_in (found (zp_by cpu cpu.x) cpu)); d = refl; i = refl }; fetches = refl }; news = Reads (zp_by cpu cpu.x) (found (zp_by cpu cpu.x) cpu) ∷ []; log = refl; bus = seen_at _ _ (flat _) (λ p. Reads p (found (zp_by cpu cpu.x) cpu)) _ _ (tail2 cpu sound 0xF5 is); memory = refl; opcode = (refl, (refl, (refl, tt))) })
    d1 d2 e.1.0 e.1.1.0

pub obeys_ED : Obeys4 0xED (Subtract Absolute)
obeys_ED cpu ir low high back was sound is m0 m1 m2 m3 d1 d2 d3 e =
    by_absolute cpu sound (λ d1 d2 d3. CellsDo (Subtract Absolute) cpu (resting cpu ir low high back was) (cy m0 0xED ∷ cy m1 d1 ∷ cy m2 d2 ∷ cy m3 d3 ∷ []))
    (record { rests = record { holds = record { a = difference_result cpu.a (255 - (found (wide cpu) cpu)) cpu.c cpu.d ((255 + (256 - (found (wide cpu) cpu))) % 256) (complement (found (wide cpu) cpu) (found_byte cpu sound (wide cpu))) sound.a (complement_in (found (wide cpu) cpu)); x = refl; y = refl; s = refl; pc = pc3 cpu sound; n = minus_by _ _ (add_result cpu.a (255 - (found (wide cpu) cpu)) cpu.c _ (complement (found (wide cpu) cpu) (found_byte cpu sound (wide cpu)))); z = zero_by _ _ (add_result cpu.a (255 - (found (wide cpu) cpu)) cpu.c _ (complement (found (wide cpu) cpu) (found_byte cpu sound (wide cpu)))); c = add_carry cpu.a (255 - (found (wide cpu) cpu)) cpu.c _ (complement (found (wide cpu) cpu) (found_byte cpu sound (wide cpu))) sound.a (complement_in (found (wide cpu) cpu)); v = add_over cpu.a (255 - (found (wide cpu) cpu)) cpu.c _ (complement (found (wide cpu) cpu) (found_byte cpu sound (wide cpu))) sound.a (complement_in (found (wide cpu) cpu)); d = refl; i = refl }; fetches = refl }; news = Reads (wide cpu) (found (wide cpu) cpu) ∷ []; log = refl; bus = seen_at _ _ (refl) (λ p. Reads p (found (wide cpu) cpu)) _ _ (tail3 cpu sound 0xED is); memory = refl; opcode = (refl, (refl, (refl, (refl, tt)))) })
    d1 d2 d3 e.1.0 e.1.1.0 e.1.1.1.0

pub obeys_FD : Obeys4 0xFD (Subtract AbsoluteX)
obeys_FD cpu ir low high back was sound is m0 m1 m2 m3 d1 d2 d3 e =
    by_absolute_i cpu sound cpu.x (λ d1 d2 d3. CellsDo (Subtract AbsoluteX) cpu (resting cpu ir low high back was) (cy m0 0xFD ∷ cy m1 d1 ∷ cy m2 d2 ∷ cy m3 d3 ∷ []))
    (record { rests = record { holds = record { a = difference_result cpu.a (255 - (found (wide_by cpu cpu.x) cpu)) cpu.c cpu.d ((255 + (256 - (found (wide_by cpu cpu.x) cpu))) % 256) (complement (found (wide_by cpu cpu.x) cpu) (found_byte cpu sound (wide_by cpu cpu.x))) sound.a (complement_in (found (wide_by cpu cpu.x) cpu)); x = refl; y = refl; s = refl; pc = pc3 cpu sound; n = minus_by _ _ (add_result cpu.a (255 - (found (wide_by cpu cpu.x) cpu)) cpu.c _ (complement (found (wide_by cpu cpu.x) cpu) (found_byte cpu sound (wide_by cpu cpu.x)))); z = zero_by _ _ (add_result cpu.a (255 - (found (wide_by cpu cpu.x) cpu)) cpu.c _ (complement (found (wide_by cpu cpu.x) cpu) (found_byte cpu sound (wide_by cpu cpu.x)))); c = add_carry cpu.a (255 - (found (wide_by cpu cpu.x) cpu)) cpu.c _ (complement (found (wide_by cpu cpu.x) cpu) (found_byte cpu sound (wide_by cpu cpu.x))) sound.a (complement_in (found (wide_by cpu cpu.x) cpu)); v = add_over cpu.a (255 - (found (wide_by cpu cpu.x) cpu)) cpu.c _ (complement (found (wide_by cpu cpu.x) cpu) (found_byte cpu sound (wide_by cpu cpu.x))) sound.a (complement_in (found (wide_by cpu cpu.x) cpu)); d = refl; i = refl }; fetches = refl }; news = Reads (wide_by cpu cpu.x) (found (wide_by cpu cpu.x) cpu) ∷ []; log = refl; bus = seen_at _ _ (rejoined _ (omega arith)) (λ p. Reads p (found (wide_by cpu cpu.x) cpu)) _ _ (tail3 cpu sound 0xFD is); memory = refl; opcode = (refl, (refl, (refl, (refl, tt)))) })
    d1 d2 d3 e.1.0 e.1.1.0 e.1.1.1.0

pub obeys_F9 : Obeys4 0xF9 (Subtract AbsoluteY)
obeys_F9 cpu ir low high back was sound is m0 m1 m2 m3 d1 d2 d3 e =
    by_absolute_i cpu sound cpu.y (λ d1 d2 d3. CellsDo (Subtract AbsoluteY) cpu (resting cpu ir low high back was) (cy m0 0xF9 ∷ cy m1 d1 ∷ cy m2 d2 ∷ cy m3 d3 ∷ []))
    (record { rests = record { holds = record { a = difference_result cpu.a (255 - (found (wide_by cpu cpu.y) cpu)) cpu.c cpu.d ((255 + (256 - (found (wide_by cpu cpu.y) cpu))) % 256) (complement (found (wide_by cpu cpu.y) cpu) (found_byte cpu sound (wide_by cpu cpu.y))) sound.a (complement_in (found (wide_by cpu cpu.y) cpu)); x = refl; y = refl; s = refl; pc = pc3 cpu sound; n = minus_by _ _ (add_result cpu.a (255 - (found (wide_by cpu cpu.y) cpu)) cpu.c _ (complement (found (wide_by cpu cpu.y) cpu) (found_byte cpu sound (wide_by cpu cpu.y)))); z = zero_by _ _ (add_result cpu.a (255 - (found (wide_by cpu cpu.y) cpu)) cpu.c _ (complement (found (wide_by cpu cpu.y) cpu) (found_byte cpu sound (wide_by cpu cpu.y)))); c = add_carry cpu.a (255 - (found (wide_by cpu cpu.y) cpu)) cpu.c _ (complement (found (wide_by cpu cpu.y) cpu) (found_byte cpu sound (wide_by cpu cpu.y))) sound.a (complement_in (found (wide_by cpu cpu.y) cpu)); v = add_over cpu.a (255 - (found (wide_by cpu cpu.y) cpu)) cpu.c _ (complement (found (wide_by cpu cpu.y) cpu) (found_byte cpu sound (wide_by cpu cpu.y))) sound.a (complement_in (found (wide_by cpu cpu.y) cpu)); d = refl; i = refl }; fetches = refl }; news = Reads (wide_by cpu cpu.y) (found (wide_by cpu cpu.y) cpu) ∷ []; log = refl; bus = seen_at _ _ (rejoined _ (omega arith)) (λ p. Reads p (found (wide_by cpu cpu.y) cpu)) _ _ (tail3 cpu sound 0xF9 is); memory = refl; opcode = (refl, (refl, (refl, (refl, tt)))) })
    d1 d2 d3 e.1.0 e.1.1.0 e.1.1.1.0

pub obeys_E1 : Obeys5 0xE1 (Subtract IndexedIndirect)
obeys_E1 cpu ir low high back was sound is m0 m1 m2 m3 m4 d1 d2 d3 d4 e =
    by_indirect_x cpu sound (λ d1 d2 d3 d4. CellsDo (Subtract IndexedIndirect) cpu (resting cpu ir low high back was) (cy m0 0xE1 ∷ cy m1 d1 ∷ cy m2 d2 ∷ cy m3 d3 ∷ cy m4 d4 ∷ []))
    (record { rests = record { holds = record { a = difference_result cpu.a (255 - (found (word cpu (zp_by cpu cpu.x)) cpu)) cpu.c cpu.d ((255 + (256 - (found (word cpu (zp_by cpu cpu.x)) cpu))) % 256) (complement (found (word cpu (zp_by cpu cpu.x)) cpu) (found_byte cpu sound (word cpu (zp_by cpu cpu.x)))) sound.a (complement_in (found (word cpu (zp_by cpu cpu.x)) cpu)); x = refl; y = refl; s = refl; pc = pc2 cpu sound; n = minus_by _ _ (add_result cpu.a (255 - (found (word cpu (zp_by cpu cpu.x)) cpu)) cpu.c _ (complement (found (word cpu (zp_by cpu cpu.x)) cpu) (found_byte cpu sound (word cpu (zp_by cpu cpu.x))))); z = zero_by _ _ (add_result cpu.a (255 - (found (word cpu (zp_by cpu cpu.x)) cpu)) cpu.c _ (complement (found (word cpu (zp_by cpu cpu.x)) cpu) (found_byte cpu sound (word cpu (zp_by cpu cpu.x))))); c = add_carry cpu.a (255 - (found (word cpu (zp_by cpu cpu.x)) cpu)) cpu.c _ (complement (found (word cpu (zp_by cpu cpu.x)) cpu) (found_byte cpu sound (word cpu (zp_by cpu cpu.x)))) sound.a (complement_in (found (word cpu (zp_by cpu cpu.x)) cpu)); v = add_over cpu.a (255 - (found (word cpu (zp_by cpu cpu.x)) cpu)) cpu.c _ (complement (found (word cpu (zp_by cpu cpu.x)) cpu) (found_byte cpu sound (word cpu (zp_by cpu cpu.x)))) sound.a (complement_in (found (word cpu (zp_by cpu cpu.x)) cpu)); d = refl; i = refl }; fetches = refl }; news = Reads (word cpu (zp_by cpu cpu.x)) (found (word cpu (zp_by cpu cpu.x)) cpu) ∷ []; log = refl; bus = seen_at _ _ (refl) (λ p. Reads p (found (word cpu (zp_by cpu cpu.x)) cpu)) _ _ (tail_at cpu sound 0xE1 is (zp_by cpu cpu.x)); memory = refl; opcode = (refl, (refl, (refl, (refl, (refl, tt))))) })
    d1 d2 d3 d4 e.1.0 e.1.1.0 e.1.1.1.0 e.1.1.1.1.0

pub obeys_F1 : Obeys5 0xF1 (Subtract IndirectIndexed)
obeys_F1 cpu ir low high back was sound is m0 m1 m2 m3 m4 d1 d2 d3 d4 e =
    by_indirect cpu sound (λ d1 d2 d3 d4. CellsDo (Subtract IndirectIndexed) cpu (resting cpu ir low high back was) (cy m0 0xF1 ∷ cy m1 d1 ∷ cy m2 d2 ∷ cy m3 d3 ∷ cy m4 d4 ∷ []))
    (record { rests = record { holds = record { a = difference_result cpu.a (255 - (found (word_by cpu (zp cpu)) cpu)) cpu.c cpu.d ((255 + (256 - (found (word_by cpu (zp cpu)) cpu))) % 256) (complement (found (word_by cpu (zp cpu)) cpu) (found_byte cpu sound (word_by cpu (zp cpu)))) sound.a (complement_in (found (word_by cpu (zp cpu)) cpu)); x = refl; y = refl; s = refl; pc = pc2 cpu sound; n = minus_by _ _ (add_result cpu.a (255 - (found (word_by cpu (zp cpu)) cpu)) cpu.c _ (complement (found (word_by cpu (zp cpu)) cpu) (found_byte cpu sound (word_by cpu (zp cpu))))); z = zero_by _ _ (add_result cpu.a (255 - (found (word_by cpu (zp cpu)) cpu)) cpu.c _ (complement (found (word_by cpu (zp cpu)) cpu) (found_byte cpu sound (word_by cpu (zp cpu))))); c = add_carry cpu.a (255 - (found (word_by cpu (zp cpu)) cpu)) cpu.c _ (complement (found (word_by cpu (zp cpu)) cpu) (found_byte cpu sound (word_by cpu (zp cpu)))) sound.a (complement_in (found (word_by cpu (zp cpu)) cpu)); v = add_over cpu.a (255 - (found (word_by cpu (zp cpu)) cpu)) cpu.c _ (complement (found (word_by cpu (zp cpu)) cpu) (found_byte cpu sound (word_by cpu (zp cpu)))) sound.a (complement_in (found (word_by cpu (zp cpu)) cpu)); d = refl; i = refl }; fetches = refl }; news = Reads (word_by cpu (zp cpu)) (found (word_by cpu (zp cpu)) cpu) ∷ []; log = refl; bus = seen_at _ _ (rejoined _ (omega arith)) (λ p. Reads p (found (word_by cpu (zp cpu)) cpu)) _ _ (tail_at cpu sound 0xF1 is (zp cpu)); memory = refl; opcode = (refl, (refl, (refl, (refl, (refl, tt))))) })
    d1 d2 d3 d4 e.1.0 e.1.1.0 e.1.1.1.0 e.1.1.1.1.0
