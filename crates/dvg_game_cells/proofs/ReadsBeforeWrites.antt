-- Reads of the zero page, the stack and the ROM find what the definition's processor has, as long as nothing is written.
use Rattle.std.proofs.Common.{◌≡◌, ℕ, suc, ◌<◌, ◌≤◌, Bool, true, false, List, [], ◌∷◌, refl, sym, ap, ◌∙◌}
use Rattle.std.proofs.Common.{subst, arith, inl, inr, eqb-true, le-leb}
use Rattle.std.specs.Prelude.{nat_eq, nat_le, nat_lt, ◌&&◌, if◌then◌else◌}
use Rattle.std.proofs.lemmas.Bool.{ne_eqb}
use Rattle.dvg_calls_6502.specs.Processor.{Cpu, Access, Reads, Writes, found}
use Rattle.dvg_cells_core.specs.Cells.{bit, mux, part, either, eq}
use Rattle.dvg_cells_board.specs.Board.{Bus, q}
use Rattle.dvg_cells_cpu.specs.Cpu.{Cpu as Cells, at, write, dout, clock}
use Rattle.dvg_cells_cpu.specs.Refines.{pins_of, access, made, after_writes, AreAnswered, Where}
use Rattle.dvg_calls_cells.specs.Cycles.{Turn, acts, idles, wait_bus, next, first_bus, second_bus, cycles_of, cycle_of, between}
use Rattle.dvg_calls_cells.specs.Played.{AreGiven, at_rest}
use Rattle.dvg_calls_cells.proofs.Fits.{AllFit, cycle_fits, wait_fits}
use Rattle.dvg_calls_cells.proofs.BoardLeftAlone.{made_more}
use Rattle.dvg_calls_cells.proofs.CallOnCells.{on_board}
use Rattle.dvg_game_cells.specs.Whole.{Finds}
use Rattle.dvg_game_cells.proofs.InstructionReads.{AreTame, IsTame, tame_end, tame_front}
use Rattle.dvg_game_cells.proofs.CellsTask.{AreAsked, calm_in, wrote}

-- the board doesn't answer there
pub off_board : (a : ℕ) → IsTame a → on_board a ≡ 0
off_board a (inl low) =
    ap (λ t. either (either (bit t) (eq a 8194)) (eq a 12288)) (ne_eqb (part 11 5 a) 8 (λ e. omega (arith, e, low)))
    ∙ ap (λ t. either (either 0 (bit t)) (eq a 12288)) (ne_eqb a 8194 (λ e. omega (arith, e, low)))
    ∙ ap (λ t. either 0 (bit t)) (ne_eqb a 12288 (λ e. omega (arith, e, low)))
off_board a (inr code) =
    let low = code.0 in let high = code.1 in
    ap (λ t. either (either (bit t) (eq a 8194)) (eq a 12288)) (ne_eqb (part 11 5 a) 8 (λ e. omega (arith, e, low, high)))
    ∙ ap (λ t. either (either 0 (bit t)) (eq a 12288)) (ne_eqb a 8194 (λ e. omega (arith, e, low)))
    ∙ ap (λ t. either 0 (bit t)) (ne_eqb a 12288 (λ e. omega (arith, e, low)))

no_flag : (a : ℕ) → IsTame a → nat_eq a 0x2002 ≡ false
no_flag a (inl low) = ne_eqb a 0x2002 (λ e. omega (arith, e, low))
no_flag a (inr code) = let low = code.0 in ne_eqb a 0x2002 (λ e. omega (arith, e, low))

pub where_so : {P : Type 0} (t : Bool) → t ≡ true → Where t P → P
where_so true e p = p
where_so false e p = absurd (cc)

-- what memory outside gives there
pub tame_byte : (rom work : ℕ → ℕ) (a m : ℕ) (mem : ℕ → ℕ) → Finds rom work a m → IsTame a → ((b : ℕ) → b < 0x200 → mem b ≡ work b)
    → ((b : ℕ) → 0x4800 ≤ b → b < 0x8000 → mem b ≡ rom b) → m ≡ mem a
tame_byte rom work a m mem f (inl low) lows loaded =
    where_so (nat_lt a 0x200) (le-leb (suc a) 0x200 low) f.in_work ∙ sym (lows a low)
tame_byte rom work a m mem f (inr code) lows loaded =
    where_so (nat_le 0x4800 a && nat_lt a 0x8000)
    (ap (λ t. t && nat_lt a 0x8000) (le-leb 0x4800 a code.0) ∙ le-leb (suc a) 0x8000 code.1) f.in_rom
    ∙ sym (loaded a code.0 code.1)

-- without a write the work RAM stays
pub same_work : (cells : Cells) (work : ℕ → ℕ) → write cells ≡ 0 → wrote cells work ≡ work
same_work cells work is =
    ap (λ w. if nat_eq w 1 && nat_lt (at cells) 0x200 then Rattle.dvg_calls_6502.specs.Processor.put (at cells) (dout cells) work else work) is

-- those accesses write nothing
pub tame_writes : (list : List Access) (mem : ℕ → ℕ) → AreTame list → after_writes list mem ≡ mem
tame_writes [] mem t = refl
tame_writes (Reads a byte ∷ list) mem t = tame_writes list mem t.1
tame_writes (Writes a byte ∷ list) mem t = absurd t

module _ (R : List ℕ) (held rom : ℕ → ℕ) where
  -- one access that is tame is a read
  reads_so : (cells : Cells) (din : ℕ) → AreTame (access cells din ∷ []) → (nat_eq (write cells) 0 ≡ true) × IsTame (at cells)
  reads_so cells din t = by (nat_eq (write cells) 0) refl t
    where
      by : (w : Bool) → nat_eq (write cells) 0 ≡ w
          → AreTame ((if w then Reads (at cells) din else Writes (at cells) (dout cells)) ∷ [])
          → (nat_eq (write cells) 0 ≡ true) × IsTame (at cells)
      by true e t = (e, t.0)
      by false e t = absurd t

  pub tame_answered : (list : List Turn) (older : List Bus) (cells : Cells) (work : ℕ → ℕ) (calm : ℕ) (cpu : Cpu)
      → AllFit R held older cells → AreGiven R (at_rest held older cells) list
      → AreAsked rom work calm (at_rest held older cells) list
      → ((b : ℕ) → b < 0x200 → cpu.mem b ≡ work b) → ((b : ℕ) → 0x4800 ≤ b → b < 0x8000 → cpu.mem b ≡ rom b)
      → AreTame (made cells (cycles_of (at_rest held older cells) list) [])
      → AreAnswered cpu cells (cycles_of (at_rest held older cells) list)
  tame_answered [] older cells work calm cpu f given asked low loaded t = tt
  tame_answered (idles drive ∷ list) older cells work calm cpu f given asked low loaded t =
      tame_answered list (wait_bus (at_rest held older cells) drive ∷ older) cells work calm cpu
      (wait_fits R held older cells drive f given.0) given.1 asked low loaded t
  tame_answered (acts two ∷ list) older cells work calm cpu f given asked low loaded t =
      let machine = at_rest held older cells in
      let cycle = cycle_of machine two in
      let later = cycles_of (next machine (acts two)) list in
      let all = subst AreTame (made_more (clock cells (pins_of cycle)) later (access cells cycle.din ∷ [])) t in
      let mine = reads_so cells cycle.din (tame_end (made (clock cells (pins_of cycle)) later []) (access cells cycle.din ∷ []) all) in
      let none = eqb-true (write cells) 0 mine.0 in (
        subst (λ w. Where w (cycle.din ≡ found (at cells) cpu)) (sym mine.0)
            (ap (λ o. mux o (q (between machine two).board (second_bus machine two)) two.second.m) (off_board (at cells) mine.1)
            ∙ tame_byte rom work (at cells) two.second.m cpu.mem (asked.0.finds none) mine.1 low loaded
            ∙ sym (ap (λ t. if t then cpu.flags 0 else cpu.mem (at cells)) (no_flag (at cells) mine.1))),
        tame_answered list (second_bus machine two ∷ first_bus machine two ∷ older) (clock cells (pins_of cycle))
            (wrote cells work) (calm_in cells cycle calm) cpu (cycle_fits R held older cells two f given.0) given.1 asked.1
            (λ b less. low b less ∙ sym (ap (λ (k : ℕ → ℕ). k b) (same_work cells work none))) loaded
            (tame_front (made (clock cells (pins_of cycle)) later []) (access cells cycle.din ∷ []) all),
      )
