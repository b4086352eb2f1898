-- An instruction of a call of the driver makes one access of the hardware at most.
use Rattle.std.proofs.Common.{◌≡◌, ◌⊎◌, inl, inr, ℕ, Bool, true, false, List, [], ◌∷◌, refl, sym}
use Rattle.std.proofs.Common.{ap, ◌∙◌, subst, arith, append-nil, eqb-true, Some}
use Rattle.std.specs.Prelude.{◌&&◌, nat_eq, nat_le, if◌then◌else◌}
use Rattle.dvg_calls_6502.specs.Processor
use Rattle.dvg_calls_6502.specs.Processor.{Cpu, Access, Reads, Writes, decoded, opcodes}
use Rattle.dvg_calls_6502.specs.Amid.{is_code}
use Rattle.dvg_calls_6502.specs.Board.{is_hardware, seen}
use Rattle.dvg_calls_6502.specs.Calls.{Call, Routine, is_table}
use Rattle.dvg_calls_6502.specs.Single.{is_single}
use Rattle.dvg_calls_6502.proofs.FewAccesses.{AreFew as AreShort, few as few_by, low_unseen, unseen}
use Rattle.dvg_game_rules.proofs.Facts.{both_true}
use Rattle.dvg_game_6502.specs.Play.{IsByteWide, done, fresh}
use Rattle.dvg_game_6502.specs.Open.{IsIn}
use Rattle.dvg_game_6502.proofs.CallsStay.{good_call}
use Rattle.dvg_game_6502.proofs.Claims.{Note}
use Rattle.dvg_game_6502.proofs.Notes.{lookup, noted, notes}
use Rattle.dvg_game_6502.proofs.OpenCall.{code_guarded}
use Rattle.dvg_game_6502.proofs.Rows.{byte_at}

all_single : List (ℕ × Note) → Bool
all_single [] = true
all_single (row ∷ rows) = is_single (decoded opcodes (byte_at row.0)) && all_single rows

-- each instruction of the driver is so
they_are : all_single notes ≡ true
unfolding all_single
they_are = refl

single_at : (rows : List (ℕ × Note)) → all_single rows ≡ true → (at : ℕ) (note : Note) → lookup rows at ≡ Some note
    → is_single (decoded opcodes (byte_at at)) ≡ true
unfolding all_single
single_at [] all at note is = absurd (cc)
single_at (row ∷ rows) all at note is = by (λ more. single_at rows two.1 at note more) (nat_eq row.0 at) refl is
  where
    two : (is_single (decoded opcodes (byte_at row.0)) ≡ true) × (all_single rows ≡ true)
    two = both_true (is_single (decoded opcodes (byte_at row.0))) (all_single rows) all

    by : (lookup rows at ≡ Some note → is_single (decoded opcodes (byte_at at)) ≡ true)
        → (t : Bool) → nat_eq row.0 at ≡ t → (if t then Some row.1 else lookup rows at) ≡ Some note
        → is_single (decoded opcodes (byte_at at)) ≡ true
    by later true here there = subst (λ q. is_single (decoded opcodes (byte_at q)) ≡ true) (eqb-true row.0 at here) two.0
    by later false here there = later there

-- none, or one
abbrev pub AreFew : List Access → Type 0
AreFew log = (log ≡ []) ⊎ ((access : Access) × (log ≡ access ∷ []))

one : (access : Access) → AreFew (seen (access ∷ []))
one (Reads a byte) = by (is_hardware a)
  where
    by : (t : Bool) → AreFew (if t then Reads a byte ∷ [] else [])
    by true = inr (Reads a byte, refl)
    by false = inl refl
one (Writes a byte) = by (nat_le 0x200 a)
  where
    by : (t : Bool) → AreFew (if t then Writes a byte ∷ [] else [])
    by true = inr (Writes a byte, refl)
    by false = inl refl

-- few accesses are none that is seen, or one
none_or_one : (list : List Access) → AreShort list → AreFew (seen list)
none_or_one [] short = inl refl
none_or_one (access ∷ []) short = one access
none_or_one (access ∷ other ∷ list) (inl less) = absurd (omega (arith, less))
none_or_one (access ∷ other ∷ list) (inr low) =
    inl (unseen (access ∷ other ∷ list) (low_unseen (access ∷ other ∷ list) low))

module _ (cpu : Cpu) (flags : ℕ → ℕ) (bytes : IsByteWide cpu) where
  abbrev now : Cpu
  now = fresh flags cpu

  -- an instruction of a call that the processor is in
  pub single : (R : List ℕ) (routine : Routine) (s : ℕ) (calls : List Call) (log : List Access) (future : ℕ → ℕ)
      → IsIn R routine s calls cpu log future → is_code cpu.pc ≡ true → is_single (decoded opcodes (cpu.mem cpu.pc)) ≡ true
  single R routine s calls log future is code =
      let good = good_call R is.call calls is.session in
      let here : cpu.mem cpu.pc ≡ byte_at cpu.pc =
      is.same cpu.pc (code_guarded (is_table is.call calls) s cpu.s cpu.pc code)
      ∙ ap (λ (k : Cpu). k.mem cpu.pc) (sym is.after) ∙ good.coded cpu.pc code in
      ap (λ b. is_single (decoded opcodes b)) here ∙ single_at notes they_are cpu.pc good.note
      (ap (λ (k : Cpu). noted k.pc) (sym is.after) ∙ good.here)

  pub few : (R : List ℕ) (routine : Routine) (s : ℕ) (calls : List Call) (log : List Access) (future : ℕ → ℕ)
      → IsIn R routine s calls cpu log future → is_code cpu.pc ≡ true → AreFew (seen (done flags cpu).log)
  few R routine s calls log future is code =
      let instr = decoded opcodes (cpu.mem cpu.pc) in
      none_or_one (Processor.does instr now).log (few_by now bytes.mem instr (single R routine s calls log future is code)
      (Processor.does instr now).log (sym (append-nil (Processor.does instr now).log)))
