-- Each opcode that isn't in the table: the cells stay. Written by crates/dvg_cells_cpu/tables.
use Rattle.std.proofs.Common.{◌≡◌, ℕ, zero, suc, refl}
use Rattle.dvg_calls_6502.specs.Processor.{Cpu, Unknown, opcodes, decoded}
use Rattle.dvg_cells_core.specs.Cells.{none}
use Rattle.dvg_cells_cpu.specs.Cpu.{Cpu as Cells, clock}
use Rattle.dvg_cells_cpu.specs.Refines.{Rests, pins_of}
use Rattle.dvg_cells_cpu.proofs.Resting.{cy, in_state, resting, rests_as}

module _ (cpu : Cpu) (ir low high back was m : ℕ) where
  abbrev after : ℕ → Cells
  after op = clock (resting cpu ir low high back was) (pins_of (cy m op))

  abbrev pub Stays : ℕ → Type 0
  Stays op = Rests (after op) cpu

  still : (op : ℕ) → (let c = after op in c ≡ in_state 2 cpu c.ir c.low c.high c.back c.was c.due)
      → decoded opcodes op ≡ Unknown → Stays op
  still op same none = rests_as (after op) cpu same

  abbrev pub Below : ℕ → Type 0
  Below zero = Unit {0}
  Below (suc n) = (decoded opcodes n ≡ Unknown → Stays n) × Below n

  pub all_stay : Below 256
  all_stay = (still 0xFF refl, (λ e. absurd (cc), (λ e. absurd (cc), (still 0xFC refl, (still 0xFB refl, (still 0xFA refl, (λ e. absurd (cc), (λ e. absurd (cc), (still 0xF7 refl, (λ e. absurd (cc), (λ e. absurd (cc), (still 0xF4 refl, (still 0xF3 refl, (still 0xF2 refl, (λ e. absurd (cc), (λ e. absurd (cc), (still 0xEF refl, (λ e. absurd (cc), (λ e. absurd (cc), (λ e. absurd (cc), (still 0xEB refl, (λ e. absurd (cc), (λ e. absurd (cc), (λ e. absurd (cc), (still 0xE7 refl, (λ e. absurd (cc), (λ e. absurd (cc), (λ e. absurd (cc), (still 0xE3 refl, (still 0xE2 refl, (λ e. absurd (cc), (λ e. absurd (cc), (still 0xDF refl, (λ e. absurd (cc), (λ e. absurd (cc), (still 0xDC refl, (still 0xDB refl, (still 0xDA refl, (λ e. absurd (cc), (λ e. absurd (cc), (still 0xD7 refl, (λ e. absurd (cc), (λ e. absurd (cc), (still 0xD4 refl, (still 0xD3 refl, (still 0xD2 refl, (λ e. absurd (cc), (λ e. absurd (cc), (still 0xCF refl, (λ e. absurd (cc), (λ e. absurd (cc), (λ e. absurd (cc), (still 0xCB refl, (λ e. absurd (cc), (λ e. absurd (cc), (λ e. absurd (cc), (still 0xC7 refl, (λ e. absurd (cc), (λ e. absurd (cc), (λ e. absurd (cc), (still 0xC3 refl, (still 0xC2 refl, (λ e. absurd (cc), (λ e. absurd (cc), (still 0xBF refl, (λ e. absurd (cc), (λ e. absurd (cc), (λ e. absurd (cc), (still 0xBB refl, (λ e. absurd (cc), (λ e. absurd (cc), (λ e. absurd (cc), (still 0xB7 refl, (λ e. absurd (cc), (λ e. absurd (cc), (λ e. absurd (cc), (still 0xB3 refl, (still 0xB2 refl, (λ e. absurd (cc), (λ e. absurd (cc), (still 0xAF refl, (λ e. absurd (cc), (λ e. absurd (cc), (λ e. absurd (cc), (still 0xAB refl, (λ e. absurd (cc), (λ e. absurd (cc), (λ e. absurd (cc), (still 0xA7 refl, (λ e. absurd (cc), (λ e. absurd (cc), (λ e. absurd (cc), (still 0xA3 refl, (λ e. absurd (cc), (λ e. absurd (cc), (λ e. absurd (cc), (still 0x9F refl, (still 0x9E refl, (λ e. absurd (cc), (still 0x9C refl, (still 0x9B refl, (λ e. absurd (cc), (λ e. absurd (cc), (λ e. absurd (cc), (still 0x97 refl, (λ e. absurd (cc), (λ e. absurd (cc), (λ e. absurd (cc), (still 0x93 refl, (still 0x92 refl, (λ e. absurd (cc), (λ e. absurd (cc), (still 0x8F refl, (λ e. absurd (cc), (λ e. absurd (cc), (λ e. absurd (cc), (still 0x8B refl, (λ e. absurd (cc), (still 0x89 refl, (λ e. absurd (cc), (still 0x87 refl, (λ e. absurd (cc), (λ e. absurd (cc), (λ e. absurd (cc), (still 0x83 refl, (still 0x82 refl, (λ e. absurd (cc), (still 0x80 refl, (still 0x7F refl, (λ e. absurd (cc), (λ e. absurd (cc), (still 0x7C refl, (still 0x7B refl, (still 0x7A refl, (λ e. absurd (cc), (λ e. absurd (cc), (still 0x77 refl, (λ e. absurd (cc), (λ e. absurd (cc), (still 0x74 refl, (still 0x73 refl, (still 0x72 refl, (λ e. absurd (cc), (λ e. absurd (cc), (still 0x6F refl, (λ e. absurd (cc), (λ e. absurd (cc), (λ e. absurd (cc), (still 0x6B refl, (λ e. absurd (cc), (λ e. absurd (cc), (λ e. absurd (cc), (still 0x67 refl, (λ e. absurd (cc), (λ e. absurd (cc), (still 0x64 refl, (still 0x63 refl, (still 0x62 refl, (λ e. absurd (cc), (λ e. absurd (cc), (still 0x5F refl, (λ e. absurd (cc), (λ e. absurd (cc), (still 0x5C refl, (still 0x5B refl, (still 0x5A refl, (λ e. absurd (cc), (λ e. absurd (cc), (still 0x57 refl, (λ e. absurd (cc), (λ e. absurd (cc), (still 0x54 refl, (still 0x53 refl, (still 0x52 refl, (λ e. absurd (cc), (λ e. absurd (cc), (still 0x4F refl, (λ e. absurd (cc), (λ e. absurd (cc), (λ e. absurd (cc), (still 0x4B refl, (λ e. absurd (cc), (λ e. absurd (cc), (λ e. absurd (cc), (still 0x47 refl, (λ e. absurd (cc), (λ e. absurd (cc), (still 0x44 refl, (still 0x43 refl, (still 0x42 refl, (λ e. absurd (cc), (λ e. absurd (cc), (still 0x3F refl, (λ e. absurd (cc), (λ e. absurd (cc), (still 0x3C refl, (still 0x3B refl, (still 0x3A refl, (λ e. absurd (cc), (λ e. absurd (cc), (still 0x37 refl, (λ e. absurd (cc), (λ e. absurd (cc), (still 0x34 refl, (still 0x33 refl, (still 0x32 refl, (λ e. absurd (cc), (λ e. absurd (cc), (still 0x2F refl, (λ e. absurd (cc), (λ e. absurd (cc), (λ e. absurd (cc), (still 0x2B refl, (λ e. absurd (cc), (λ e. absurd (cc), (λ e. absurd (cc), (still 0x27 refl, (λ e. absurd (cc), (λ e. absurd (cc), (λ e. absurd (cc), (still 0x23 refl, (still 0x22 refl, (λ e. absurd (cc), (λ e. absurd (cc), (still 0x1F refl, (λ e. absurd (cc), (λ e. absurd (cc), (still 0x1C refl, (still 0x1B refl, (still 0x1A refl, (λ e. absurd (cc), (λ e. absurd (cc), (still 0x17 refl, (λ e. absurd (cc), (λ e. absurd (cc), (still 0x14 refl, (still 0x13 refl, (still 0x12 refl, (λ e. absurd (cc), (λ e. absurd (cc), (still 0x0F refl, (λ e. absurd (cc), (λ e. absurd (cc), (still 0x0C refl, (still 0x0B refl, (λ e. absurd (cc), (λ e. absurd (cc), (λ e. absurd (cc), (still 0x07 refl, (λ e. absurd (cc), (λ e. absurd (cc), (still 0x04 refl, (still 0x03 refl, (still 0x02 refl, (λ e. absurd (cc), (still 0x00 refl, tt))))))))))))))))))))))))))))))))))))))))))))))))))))))))))))))))))))))))))))))))))))))))))))))))))))))))))))))))))))))))))))))))))))))))))))))))))))))))))))))))))))))))))))))))))))))))))))))))))))))))))))))))))))))))))))))))))))))))))))))))))))))))))))))))
