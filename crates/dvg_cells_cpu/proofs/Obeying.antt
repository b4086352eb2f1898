-- What is to be shown of an opcode; and that it is enough to show it of cells and cycles that are variables.
use Rattle.std.proofs.Common.{◌≡◌, ℕ, List, [], ◌∷◌, ◌∙◌}
use Rattle.std.specs.Prelude.{length}
use Rattle.dvg_calls_6502.specs.Processor.{Cpu, Instr}
use Rattle.dvg_cells_cpu.specs.Cpu.{Cpu as Cells}
use Rattle.dvg_cells_cpu.specs.Refines.{AreAnswered, CellsDo, Cycle, IsSound, cycles}
use Rattle.dvg_cells_cpu.proofs.OperandReads.{here}
use Rattle.dvg_cells_cpu.proofs.Lists.{one, two, three, four, five, at_opcode}
use Rattle.dvg_cells_cpu.proofs.Resting.{cy, resting}

-- an opcode is this instruction
abbrev pub Obeys : ℕ → Instr → Type 0
Obeys op instr = (cpu : Cpu) (ir low high back was : ℕ) → IsSound cpu → cpu.mem cpu.pc ≡ op → (list : List Cycle)
    → length list ≡ cycles instr → AreAnswered cpu (resting cpu ir low high back was) list
    → CellsDo instr cpu (resting cpu ir low high back was) list

abbrev pub AllObey : List (ℕ × Instr) → Type 0
AllObey [] = Unit {0}
AllObey (row ∷ rows) = Obeys row.0 row.1 × AllObey rows

-- in these cycles
abbrev pub GoesIn : Instr → Cpu → Cells → List Cycle → Type 0
GoesIn instr cpu cells list = AreAnswered cpu cells list → CellsDo instr cpu cells list

-- the same, in one to five cycles, the first of which reads this opcode
abbrev pub Obeys1 : ℕ → Instr → Type 0
Obeys1 op instr = (cpu : Cpu) (ir low high back was : ℕ) → IsSound cpu → cpu.mem cpu.pc ≡ op → (m0 : ℕ)
    → GoesIn instr cpu (resting cpu ir low high back was) (cy m0 op ∷ [])

abbrev pub Obeys2 : ℕ → Instr → Type 0
Obeys2 op instr = (cpu : Cpu) (ir low high back was : ℕ) → IsSound cpu → cpu.mem cpu.pc ≡ op → (m0 m1 d1 : ℕ)
    → GoesIn instr cpu (resting cpu ir low high back was) (cy m0 op ∷ cy m1 d1 ∷ [])

abbrev pub Obeys3 : ℕ → Instr → Type 0
Obeys3 op instr = (cpu : Cpu) (ir low high back was : ℕ) → IsSound cpu → cpu.mem cpu.pc ≡ op → (m0 m1 m2 d1 d2 : ℕ)
    → GoesIn instr cpu (resting cpu ir low high back was) (cy m0 op ∷ cy m1 d1 ∷ cy m2 d2 ∷ [])

abbrev pub Obeys4 : ℕ → Instr → Type 0
Obeys4 op instr = (cpu : Cpu) (ir low high back was : ℕ) → IsSound cpu → cpu.mem cpu.pc ≡ op
    → (m0 m1 m2 m3 d1 d2 d3 : ℕ)
    → GoesIn instr cpu (resting cpu ir low high back was) (cy m0 op ∷ cy m1 d1 ∷ cy m2 d2 ∷ cy m3 d3 ∷ [])

abbrev pub Obeys5 : ℕ → Instr → Type 0
Obeys5 op instr = (cpu : Cpu) (ir low high back was : ℕ) → IsSound cpu → cpu.mem cpu.pc ≡ op
    → (m0 m1 m2 m3 m4 d1 d2 d3 d4 : ℕ)
    → GoesIn instr cpu (resting cpu ir low high back was) (cy m0 op ∷ cy m1 d1 ∷ cy m2 d2 ∷ cy m3 d3 ∷ cy m4 d4 ∷ [])

module _ (op : ℕ) (instr : Instr) where
  pub in_one : Obeys1 op instr → cycles instr ≡ 1 → Obeys op instr
  in_one obeys are cpu ir low high back was sound is list count answered =
      let cells = resting cpu ir low high back was in
      one (GoesIn instr cpu cells)
      (λ c0 answered. at_opcode op (λ c. GoesIn instr cpu cells (c ∷ []))
      (obeys cpu ir low high back was sound is)
      c0 (here cpu sound c0.din answered.0 ∙ is) answered)
      list (count ∙ are) answered

  pub in_two : Obeys2 op instr → cycles instr ≡ 2 → Obeys op instr
  in_two obeys are cpu ir low high back was sound is list count answered =
      let cells = resting cpu ir low high back was in
      two (GoesIn instr cpu cells)
      (λ c0 c1 answered. at_opcode op (λ c. GoesIn instr cpu cells (c ∷ c1 ∷ []))
      (λ m. obeys cpu ir low high back was sound is m c1.nmi c1.din)
      c0 (here cpu sound c0.din answered.0 ∙ is) answered)
      list (count ∙ are) answered

  pub in_three : Obeys3 op instr → cycles instr ≡ 3 → Obeys op instr
  in_three obeys are cpu ir low high back was sound is list count answered =
      let cells = resting cpu ir low high back was in
      three (GoesIn instr cpu cells)
      (λ c0 c1 c2 answered. at_opcode op (λ c. GoesIn instr cpu cells (c ∷ c1 ∷ c2 ∷ []))
      (λ m. obeys cpu ir low high back was sound is m c1.nmi c2.nmi c1.din c2.din)
      c0 (here cpu sound c0.din answered.0 ∙ is) answered)
      list (count ∙ are) answered

  pub in_four : Obeys4 op instr → cycles instr ≡ 4 → Obeys op instr
  in_four obeys are cpu ir low high back was sound is list count answered =
      let cells = resting cpu ir low high back was in
      four (GoesIn instr cpu cells)
      (λ c0 c1 c2 c3 answered. at_opcode op (λ c. GoesIn instr cpu cells (c ∷ c1 ∷ c2 ∷ c3 ∷ []))
      (λ m. obeys cpu ir low high back was sound is m c1.nmi c2.nmi c3.nmi c1.din c2.din c3.din)
      c0 (here cpu sound c0.din answered.0 ∙ is) answered)
      list (count ∙ are) answered

  pub in_five : Obeys5 op instr → cycles instr ≡ 5 → Obeys op instr
  in_five obeys are cpu ir low high back was sound is list count answered =
      let cells = resting cpu ir low high back was in
      five (GoesIn instr cpu cells)
      (λ c0 c1 c2 c3 c4 answered. at_opcode op (λ c. GoesIn instr cpu cells (c ∷ c1 ∷ c2 ∷ c3 ∷ c4 ∷ []))
      (λ m. obeys cpu ir low high back was sound is m c1.nmi c2.nmi c3.nmi c4.nmi c1.din c2.din c3.din c4.din)
      c0 (here cpu sound c0.din answered.0 ∙ is) answered)
      list (count ∙ are) answered
