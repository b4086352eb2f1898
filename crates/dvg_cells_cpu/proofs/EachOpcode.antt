-- Each opcode, of any cells that rest as the processor.
use Rattle.std.proofs.Common.{◌≡◌, ℕ, zero, suc, ◌<◌, ◌≤◌, Bool, true, false, List, [], ◌∷◌, refl, sym, ap, ◌∙◌, subst, arith, inl, inr, eqb-true}
use Rattle.std.specs.Prelude.{◌⊎◌, nat_eq, if◌then◌else◌}
use Rattle.std.proofs.lemmas.Bool.{cases_lt}
use Rattle.dvg_calls_6502.specs.Processor.{Cpu, Instr, Unknown, opcodes, decoded}
use Rattle.dvg_cells_cpu.specs.Cpu.{clock}
use Rattle.dvg_cells_cpu.specs.Refines.{AreAnswered, CellsDo, CpuRefines, CpuStays, CpuWaits, Rests, pins_of}
use Rattle.dvg_cells_cpu.proofs.Resting.{stood}
use Rattle.dvg_cells_cpu.proofs.Obeying.{AllObey, Obeys, in_one}
use Rattle.dvg_cells_cpu.proofs.Rows.{all_obey}
use Rattle.dvg_cells_cpu.proofs.BusAccesses.{tail1}
use Rattle.dvg_cells_cpu.proofs.Stays.{Below, Stays, all_stay}

-- one that isn't in the table
at_below : (cpu : Cpu) (ir low high back was m n op : ℕ) → Below cpu ir low high back was m n → op < n
    → decoded opcodes op ≡ Unknown → Stays cpu ir low high back was m op
at_below cpu ir low high back was m zero op all less = absurd (omega arith)
at_below cpu ir low high back was m (suc n) op all less =
    by (λ lower. at_below cpu ir low high back was m n op all.1 lower) (cases_lt op n)
  where
    by : (op < n → decoded opcodes op ≡ Unknown → Stays cpu ir low high back was m op) → (op < n) ⊎ (n ≤ op)
        → decoded opcodes op ≡ Unknown → Stays cpu ir low high back was m op
    by below (inl lower) = below lower
    by below (inr more) = let same : op ≡ n = omega arith in
        subst (λ o. decoded opcodes o ≡ Unknown → Stays cpu ir low high back was m o) (sym same) all.0

stays_at : (cpu : Cpu) (ir low high back was m op : ℕ) → op < 256 → decoded opcodes op ≡ Unknown
    → Stays cpu ir low high back was m op
stays_at cpu ir low high back was m op less =
    at_below cpu ir low high back was m 256 op (all_stay cpu ir low high back was m) less

pub stays : CpuStays
stays cpu cells cycle rests free less unknown =
    subst (λ k. Rests (clock k (pins_of cycle)) cpu) (sym (stood cells cpu rests free))
    (stays_at cpu cells.ir cells.low cells.high cells.back cells.was cycle.nmi cycle.din less unknown)

unknown_obeys : (op : ℕ) → op < 256 → decoded opcodes op ≡ Unknown → Obeys op Unknown
unknown_obeys op less unknown = in_one op Unknown
    (λ cpu ir low high back was sound is m answered. record {
      rests = stays_at cpu ir low high back was m op less unknown;
      news = [];
      log = refl;
      bus = tail1 cpu sound op is;
      memory = refl;
      opcode = (refl, tt);
    }) refl

-- one of a table, or another one
each : (rows : List (ℕ × Instr)) (op : ℕ) → AllObey rows → (decoded rows op ≡ Unknown → Obeys op Unknown)
    → Obeys op (decoded rows op)
each [] op all other = other refl
each (row ∷ rows) op all other = by (λ later. each rows op all.1 later) (nat_eq row.0 op) refl
  where
    by : ((decoded rows op ≡ Unknown → Obeys op Unknown) → Obeys op (decoded rows op)) → (b : Bool) → nat_eq row.0 op ≡ b
        → Obeys op (if b then row.1 else decoded rows op)
    by rest true e = subst (λ o. Obeys o row.1) (eqb-true row.0 op e) all.0
    by rest false e = rest (λ is. other (ap (λ b. if b then row.1 else decoded rows op) e ∙ is))

pub refines : CpuRefines
refines cpu cells list sound rests free count answered =
    let is = stood cells cpu rests free in
    let op = cpu.mem cpu.pc in
    let obeys : Obeys op (decoded opcodes op) = each opcodes op all_obey (unknown_obeys op (sound.bytes cpu.pc)) in
    subst (λ k. CellsDo (decoded opcodes op) cpu k list) (sym is)
    (obeys cpu cells.ir cells.low cells.high cells.back cells.was sound refl list count
    (subst (λ k. AreAnswered cpu k list) is answered))

pub waits : CpuWaits
waits cells nmi din = refl
