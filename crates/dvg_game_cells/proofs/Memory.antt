-- Cycles write the work RAM and the board's RAM as their accesses say.
use Rattle.std.proofs.Common.{◌≡◌, ℕ, zero, suc, ◌+◌, ◌<◌, Bool, true, false, not, List, [], ◌∷◌, ◌++◌, refl, sym, ap, ◌∙◌}
use Rattle.std.proofs.Common.{arith, inl, inr, eqb-true, eq-eqb, le-leb}
use Rattle.std.specs.Prelude.{nat_eq, nat_lt, ◌&&◌, if◌then◌else◌}
use Rattle.std.proofs.lemmas.Bool.{ne_eqb}
use Rattle.std.proofs.lemmas.Bool.Decides.{eqb_tells}
use Rattle.dvg_calls_6502.specs.Processor.{Access, Reads, Writes, put}
use Rattle.dvg_cells_core.specs.Cells.{bit, mux, part, joined, both}
use Rattle.dvg_cells_board.specs.Board.{Board, Bus}
use Rattle.dvg_cells_board.specs.Memory.{memwr}
use Rattle.dvg_cells_board.specs.Clocks.{after}
use Rattle.dvg_cells_cpu.specs.Cpu.{Cpu as Cells, at, write, dout, clock}
use Rattle.dvg_cells_cpu.specs.Refines.{Cycle, pins_of, access, made, after_writes}
use Rattle.dvg_cells_cpu.proofs.LawOfWidths.{fits}
use Rattle.dvg_calls_cells.specs.Cycles.{Two, Turn, acts, idles, wait_bus, next, first_bus, second_bus, cycles_of, cycle_of}
use Rattle.dvg_calls_cells.specs.Played.{AreGiven, at_rest, older_after}
use Rattle.dvg_calls_cells.proofs.Fits.{AllFit, cycle_fits, wait_fits}
use Rattle.dvg_calls_cells.proofs.BoardLeftAlone.{made_more}
use Rattle.dvg_game_cells.proofs.CellsTask.{works, wrote}

pub writes_both : (one two : List Access) (mem : ℕ → ℕ) → after_writes (one ++ two) mem ≡ after_writes one (after_writes two mem)
writes_both [] two mem = refl
writes_both (Reads a byte ∷ one) two mem = writes_both one two mem
writes_both (Writes a byte ∷ one) two mem = ap (put a byte) (writes_both one two mem)

-- the memory after a cycle's access, and after those of later cycles
pub writes_first : (cells : Cells) (cycle : Cycle) (later : List Cycle) (mem : ℕ → ℕ)
    → after_writes (made cells (cycle ∷ later) []) mem
    ≡ after_writes (made (clock cells (pins_of cycle)) later []) (after_writes (access cells cycle.din ∷ []) mem)
writes_first cells cycle later mem =
    ap (λ l. after_writes l mem) (made_more (clock cells (pins_of cycle)) later (access cells cycle.din ∷ []))
    ∙ writes_both (made (clock cells (pins_of cycle)) later []) (access cells cycle.din ∷ []) mem

-- a write is one of a bit
write_bit : (w : ℕ) → w < 2 → nat_eq w 1 ≡ not (nat_eq w 0)
write_bit (suc (suc n)) less = absurd (omega (arith, less))
write_bit _ less = refl

-- one cycle in the work RAM
low_one : (cells : Cells) (din : ℕ) (work mem : ℕ → ℕ) (b : ℕ) → write cells < 2 → b < 0x200 → mem b ≡ work b
    → after_writes (access cells din ∷ []) mem b ≡ wrote cells work b
low_one cells din work mem b bit less same =
    by (nat_eq (write cells) 0) ∙ ap (λ w. (if w && nat_lt (at cells) 0x200 then put (at cells) (dout cells) work else work) b)
    (sym (write_bit (write cells) bit))
  where
    placed : (t : Bool) → nat_lt (at cells) 0x200 ≡ t
        → put (at cells) (dout cells) mem b ≡ (if t then put (at cells) (dout cells) work else work) b
    placed true is = ap (λ x. if nat_eq b (at cells) then dout cells else x) same
    placed false is = ap (λ t. if t then dout cells else mem b) (ne_eqb b (at cells) (λ e.
        let no : nat_lt (at cells) 0x200 ≡ true = le-leb (suc (at cells)) 0x200 (omega (arith, e, less)) in
        absurd (let x = sym no ∙ is in cc))) ∙ same

    by : (t : Bool) → after_writes ((if t then Reads (at cells) din else Writes (at cells) (dout cells)) ∷ []) mem b
        ≡ (if not t && nat_lt (at cells) 0x200 then put (at cells) (dout cells) work else work) b
    by true = same
    by false = placed (nat_lt (at cells) 0x200) refl

module _ (R : List ℕ) (held : ℕ → ℕ) where
  pub low_after : (list : List Turn) (older : List Bus) (cells : Cells) (work mem : ℕ → ℕ) → AllFit R held older cells
      → AreGiven R (at_rest held older cells) list → ((b : ℕ) → b < 0x200 → mem b ≡ work b) → (b : ℕ) → b < 0x200
      → after_writes (made cells (cycles_of (at_rest held older cells) list) []) mem b
      ≡ works cells (cycles_of (at_rest held older cells) list) work b
  low_after [] older cells work mem f given same b less = same b less
  low_after (idles drive ∷ list) older cells work mem f given same b less =
      low_after list (wait_bus (at_rest held older cells) drive ∷ older) cells work mem (wait_fits R held older cells drive f given.0)
      given.1 same b less
  low_after (acts two ∷ list) older cells work mem f given same b less =
      let machine = at_rest held older cells in
      let cycle = cycle_of machine two in
      ap (λ (m : ℕ → ℕ). m b) (writes_first cells cycle (cycles_of (next machine (acts two)) list) mem)
      ∙ low_after list (second_bus machine two ∷ first_bus machine two ∷ older) (clock cells (pins_of cycle)) (wrote cells work)
      (after_writes (access cells cycle.din ∷ []) mem) (cycle_fits R held older cells two f given.0) given.1
      (λ b less. low_one cells cycle.din work mem b (fits.2 cells f.of_cells).1 less (same b less)) b less

  -- one cycle in the board's RAM
  ram_one : (older : List Bus) (cells : Cells) (two : Two) (mem : ℕ → ℕ) → write cells < 2 → at cells < 65536
      → ((a : ℕ) → a < 2048 → mem (0x4000 + a) ≡ (after held older).ram a) → (a : ℕ) → a < 2048
      → after_writes (access cells (cycle_of (at_rest held older cells) two).din ∷ []) mem (0x4000 + a)
      ≡ (after held (second_bus (at_rest held older cells) two ∷ first_bus (at_rest held older cells) two ∷ older)).ram a
  ram_one older cells two mem write_in small same a less =
      by (write cells) write_in (nat_eq (part 11 5 (at cells)) 8) refl
    where
      old : Board
      old = after held older

      written : ℕ → Bool → ℕ
      written w t = memwr (mux (both (both 1 (bit t)) w) 255 0)
          (mux (both (both 1 (bit t)) w) (mux (both 1 (bit t)) (part 0 11 (at cells)) (joined 1 (after held older).core.high (part 0 10 (after held older).core.at)))
          (part 0 11 two.first.undefined))
          (mux (both (both 1 (bit t)) w) (dout cells) (part 0 8 two.first.undefined)) (after held older).ram a

      there : nat_eq (part 11 5 (at cells)) 8 ≡ true
          → (if nat_eq (0x4000 + a) (at cells) then dout cells else mem (0x4000 + a))
          ≡ (if nat_eq a (part 0 11 (at cells)) then dout cells else (after held older).ram a)
      there page = elim (eqb_tells a (part 0 11 (at cells))) [
        | inl t ↦
            let is = t.1 in
            let eight : part 11 5 (at cells) ≡ 8 = eqb-true (part 11 5 (at cells)) 8 page in
            let e : 0x4000 + a ≡ at cells = omega (arith, is, eight, small) in
            ap (λ t. if t then dout cells else mem (0x4000 + a)) (eq-eqb (0x4000 + a) (at cells) e)
            ∙ sym (ap (λ t. if t then dout cells else (after held older).ram a) (eq-eqb a (part 0 11 (at cells)) is))
        | inr t ↦
            let eight : part 11 5 (at cells) ≡ 8 = eqb-true (part 11 5 (at cells)) 8 page in
            ap (λ t. if t then dout cells else mem (0x4000 + a)) (ne_eqb (0x4000 + a) (at cells) (λ e.
            let same_place : a ≡ part 0 11 (at cells) = omega (arith, e, less) in
            absurd (let x = eq-eqb a (part 0 11 (at cells)) same_place in let y = t.0 in cc)))
            ∙ same a less
            ∙ sym (ap (λ t. if t then dout cells else (after held older).ram a) t.0)
      ]

      elsewhere : nat_eq (part 11 5 (at cells)) 8 ≡ false
          → (if nat_eq (0x4000 + a) (at cells) then dout cells else mem (0x4000 + a)) ≡ (after held older).ram a
      elsewhere page = ap (λ t. if t then dout cells else mem (0x4000 + a)) (ne_eqb (0x4000 + a) (at cells) (λ e.
          let eight : part 11 5 (at cells) ≡ 8 = omega (arith, e, less) in
          absurd (let x = eq-eqb (part 11 5 (at cells)) 8 eight in cc))) ∙ same a less

      by : (w : ℕ) → w < 2 → (t : Bool) → nat_eq (part 11 5 (at cells)) 8 ≡ t
          → after_writes ((if nat_eq w 0 then Reads (at cells) (cycle_of (at_rest held older cells) two).din
          else Writes (at cells) (dout cells)) ∷ []) mem (0x4000 + a) ≡ written w t
      by zero small_w true page = same a less
      by zero small_w false page = same a less
      by (suc zero) small_w true page = there page
      by (suc zero) small_w false page = elsewhere page
      by (suc (suc n)) small_w t page = absurd (omega (arith, small_w))

  pub ram_after : (list : List Turn) (older : List Bus) (cells : Cells) (mem : ℕ → ℕ) → AllFit R held older cells
      → AreGiven R (at_rest held older cells) list → ((a : ℕ) → a < 2048 → mem (0x4000 + a) ≡ (after held older).ram a)
      → (a : ℕ) → a < 2048 → after_writes (made cells (cycles_of (at_rest held older cells) list) []) mem (0x4000 + a)
      ≡ (after held (older_after held older cells list)).ram a
  ram_after [] older cells mem f given same a less = same a less
  ram_after (idles drive ∷ list) older cells mem f given same a less =
      ram_after list (wait_bus (at_rest held older cells) drive ∷ older) cells mem (wait_fits R held older cells drive f given.0)
      given.1 same a less
  ram_after (acts two ∷ list) older cells mem f given same a less =
      let machine = at_rest held older cells in
      let cycle = cycle_of machine two in
      let pins = fits.2 cells f.of_cells in
      ap (λ (m : ℕ → ℕ). m (0x4000 + a)) (writes_first cells cycle (cycles_of (next machine (acts two)) list) mem)
      ∙ ram_after list (second_bus machine two ∷ first_bus machine two ∷ older) (clock cells (pins_of cycle))
      (after_writes (access cells cycle.din ∷ []) mem) (cycle_fits R held older cells two f given.0) given.1
      (λ a less. ram_one older cells two mem pins.1 pins.0 same a less) a less
