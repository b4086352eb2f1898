-- Accesses that the definition of the driver's calls doesn't see, and those that it sees.
use Rattle.std.proofs.Common.{◌≡◌, ℕ, ◌<◌, ◌≤◌, Bool, true, false, List, [], ◌∷◌, refl, ap, arith, inl, inr, le-leb}
use Rattle.std.specs.Prelude.{◌⊎◌, nat_le, if◌then◌else◌}
use Rattle.std.proofs.lemmas.Bool.{ne_eqb, cases_lt}
use Rattle.dvg_calls_6502.specs.Processor.{Access, Reads, Writes, Cpu, Mode, Immediate, Instr, Load, Store}
use Rattle.dvg_calls_6502.specs.Processor.{And, Or, Xor, Add, Subtract, Compare, TestBits, Change, ShiftAt}
use Rattle.dvg_calls_6502.specs.Board.{seen, is_hardware}
use Rattle.dvg_cells_cpu.specs.Refines.{after_opcode, fetched, got, naming}
use Rattle.dvg_calls_cells.specs.Cycles.{WriteAt, AreQuiet}
use Rattle.dvg_calls_cells.proofs.BoardLeftAlone.{write_append}
pub use Rattle.dvg_calls_6502.proofs.FewAccesses.{AreUnseen, IsUnseen, low_unseen, no_ram, unseen}
pub use Rattle.dvg_calls_6502.proofs.LogsGrow.{seen_append as seen_more}

abbrev pub IsSeen : Access → Type 0
IsSeen (Reads a byte) = is_hardware a ≡ true
IsSeen (Writes a byte) = nat_le 0x200 a ≡ true

pub seen_one : (access : Access) (rest : List Access) → IsSeen access → seen (access ∷ rest) ≡ access ∷ seen rest
seen_one (Reads a byte) rest is = ap (λ (b : Bool). if b then Reads a byte ∷ seen rest else seen rest) is
seen_one (Writes a byte) rest is = ap (λ (b : Bool). if b then Writes a byte ∷ seen rest else seen rest) is

pub either_way : (access : Access) → IsUnseen access ⊎ IsSeen access
either_way (Reads a byte) = by (is_hardware a) refl
  where
    by : (b : Bool) → is_hardware a ≡ b → (is_hardware a ≡ false) ⊎ (is_hardware a ≡ true)
    by true e = inr e
    by false e = inl e
either_way (Writes a byte) = by (nat_le 0x200 a) refl
  where
    by : (b : Bool) → nat_le 0x200 a ≡ b → (nat_le 0x200 a ≡ false) ⊎ (nat_le 0x200 a ≡ true)
    by true e = inr e
    by false e = inl e

below : (a : ℕ) → nat_le 0x200 a ≡ false → a < 0x200
below a e = by (cases_lt a 0x200)
  where
    by : (a < 0x200) ⊎ (0x200 ≤ a) → a < 0x200
    by (inl less) = less
    by (inr more) = absurd (let is = le-leb 0x200 a more in cc)

-- what isn't seen leaves the board alone
pub unseen_quiet : (l : List Access) → AreUnseen l → AreQuiet l
unseen_quiet [] q = tt
unseen_quiet (Reads a byte ∷ l) q = unseen_quiet l q.1
unseen_quiet (Writes a byte ∷ l) q =
    let less = below a q.0 in
    ((no_ram a (omega arith), ne_eqb a 0x3000 (omega arith)), unseen_quiet l q.1)

-- and so do the reads of a program
module _ (P : ℕ → Type 0) where
  naming_quiet : (mode : Mode) (cpu : Cpu) → WriteAt P (naming mode cpu)
  naming_quiet Immediate cpu = tt
  naming_quiet mode cpu = tt

  after_quiet : (instr : Instr) (cpu : Cpu) → WriteAt P (after_opcode instr cpu)
  after_quiet (Load r mode) cpu = naming_quiet mode cpu
  after_quiet (Store r mode) cpu = naming_quiet mode cpu
  after_quiet (And mode) cpu = naming_quiet mode cpu
  after_quiet (Or mode) cpu = naming_quiet mode cpu
  after_quiet (Xor mode) cpu = naming_quiet mode cpu
  after_quiet (Add mode) cpu = naming_quiet mode cpu
  after_quiet (Subtract mode) cpu = naming_quiet mode cpu
  after_quiet (Compare r mode) cpu = naming_quiet mode cpu
  after_quiet (TestBits mode) cpu = naming_quiet mode cpu
  after_quiet (Change mode by) cpu = naming_quiet mode cpu
  after_quiet (ShiftAt shift mode) cpu = naming_quiet mode cpu
  after_quiet instr cpu = tt

  pub fetched_quiet : (instr : Instr) (cpu : Cpu) → WriteAt P (fetched instr cpu)
  fetched_quiet instr cpu = write_append P (after_opcode instr cpu) (got cpu cpu.pc ∷ []) (after_quiet instr cpu) tt
