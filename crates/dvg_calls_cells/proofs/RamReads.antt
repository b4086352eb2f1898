-- A read of the board's RAM finds what the call's memory has.
use Rattle.std.proofs.Common.{◌≡◌, ℕ, zero, suc, ◌+◌, ◌/◌, ◌<◌, Bool, true, false, not, List, [], ◌∷◌, refl, sym, ap, ◌∙◌, subst, arith}
use Rattle.std.specs.Prelude.{nat_eq, ◌&&◌, ◌||◌, if◌then◌else◌}
use Rattle.std.proofs.lemmas.Bool.{ne_eqb, eqb-true, eq-eqb, or_left as or_first, or_right as or_last}
use Rattle.dvg_calls_6502.specs.Processor.{Cpu, found, flag_place, turn, stack_place}
use Rattle.dvg_calls_6502.specs.Amid.{amid, changed, AreHarmless, Guard, guards, is_kept, is_work, is_code}
use Rattle.dvg_calls_6502.specs.Board.{is_own, is_ram, is_readable}
use Rattle.dvg_calls_6502.specs.Calls.{Call, IsSession, is_table}
use Rattle.dvg_cells_core.specs.Cells.{bit, mux, none, part, joined, both, either, eq}
use Rattle.dvg_cells_board.specs.Board.{Board, Bus, q}
use Rattle.dvg_cells_board.specs.Board as board
use Rattle.dvg_cells_board.specs.Clocks.{after}
use Rattle.dvg_calls_board.specs.Machine.{HaveRam, later}
use Rattle.dvg_cells_cpu.specs.Cpu.{Cpu as Cells, at, write, clock}
use Rattle.dvg_cells_cpu.specs.Refines.{pins_of, AreAnswered, Where}
use Rattle.dvg_calls_cells.specs.Cycles.{Two, Turn, acts, idles, first_bus, second_bus, wait_bus, cycle_of, cycles_of}
use Rattle.dvg_calls_cells.specs.Steps.{now}
use Rattle.dvg_calls_cells.specs.Played.{AreGiven, AreFound, in_board, at_rest}
use Rattle.dvg_calls_cells.proofs.Fits.{AllFit, cycle_fits, wait_fits, first_is}
use Rattle.dvg_calls_cells.proofs.BoardLeftAlone.{both_none}
use Rattle.dvg_calls_board.proofs.Ram.{in_ram as ram_place}

-- the board in the clock of a read of its RAM, and after it
module _ (b : Board) (bus next : Bus) (access : bus.access ≡ 1) (reading : bus.write ≡ 0) where
  no_write : both (both bus.access (eq (part 11 5 bus.a) 8)) bus.write ≡ 0
  no_write = ap (λ w. both (both bus.access (eq (part 11 5 bus.a) 8)) w) reading ∙ both_none (both bus.access (eq (part 11 5 bus.a) 8))

  pub same_ram : (a : ℕ) → (board.clock b bus).ram a ≡ b.ram a
  same_ram a = ap (λ w. if nat_eq (mux w 255 0) 0 then b.ram a
      else if nat_eq a (mux w (mux (both bus.access (eq (part 11 5 bus.a) 8)) (part 0 11 bus.a) (joined 1 b.core.high (part 0 10 b.core.at))) (part 0 11 bus.undefined))
      then mux w bus.d (part 0 8 bus.undefined) else b.ram a) no_write

  pub reads_ram : nat_eq (part 11 5 bus.a) 8 ≡ true → nat_eq bus.a 8194 ≡ false → q (board.clock b bus) next ≡ b.ram (part 0 11 bus.a)
  reads_ram page flag =
      let place : ℕ = mux (both bus.access (eq (part 11 5 bus.a) 8)) (part 0 11 bus.a) (joined 1 b.core.high (part 0 10 b.core.at)) in
      let read : ℕ = mux (both (both bus.access (eq (part 11 5 bus.a) 8)) bus.write) b.read (b.ram place) in
      ap (λ t. mux (both (both bus.access (none bus.write)) (bit t)) (joined 7 0 (board.clock b bus).ran) read) flag
      ∙ ap (λ f. mux f (joined 7 0 (board.clock b bus).ran) read) (both_none (both bus.access (none bus.write)))
      ∙ ap (λ w. mux w b.read (b.ram place)) no_write
      ∙ ap (λ t. b.ram (mux (both bus.access (bit t)) (part 0 11 bus.a) (joined 1 b.core.high (part 0 10 b.core.at)))) page
      ∙ ap (λ k. b.ram (mux (both k 1) (part 0 11 bus.a) (joined 1 b.core.high (part 0 10 b.core.at)))) access

module _ (R : List ℕ) (held : ℕ → ℕ) (cpu : Cpu) where
  -- the board's RAM is what the processor has there
  abbrev pub RamIs : List Bus → Type 0
  RamIs older = (a : ℕ) → a < 2048 → (after held older).ram a ≡ cpu.mem (0x4000 + a)

  module _ (older : List Bus) (cells : Cells) (two : Two) (f : AllFit R held older cells) (a_in : at cells < 65536) (reading : nat_eq (write cells) 0 ≡ true) where
    ram_next : RamIs older → RamIs (second_bus (at_rest held older cells) two ∷ first_bus (at_rest held older cells) two ∷ older)
    ram_next is a less = same_ram (after held older) (first_bus (at_rest held older cells) two) (first_bus (at_rest held older cells) two) refl
        (eqb-true (write cells) 0 reading) a ∙ is a less

    finds : RamIs older → in_board (at cells) ≡ true → (cycle_of (at_rest held older cells) two).din ≡ found (at cells) cpu
    finds is there =
        let eight : at cells / 2048 ≡ 8 = eqb-true (at cells / 0x800) 8 there in
        let page : nat_eq (part 11 5 (at cells)) 8 ≡ true = eq-eqb (part 11 5 (at cells)) 8 (omega arith) in
        let flag : nat_eq (at cells) 8194 ≡ false = ne_eqb (at cells) 8194 (omega arith) in
        let place : 0x4000 + part 0 11 (at cells) ≡ at cells = omega arith in
        let less : part 0 11 (at cells) < 2048 = omega arith in
        let found_q = q (after held (first_bus (at_rest held older cells) two ∷ older)) (second_bus (at_rest held older cells) two) in
        ap (λ t. mux (either (either (bit t) (eq (at cells) 8194)) (eq (at cells) 12288)) found_q two.second.m) page
        ∙ reads_ram (after held older) (first_bus (at_rest held older cells) two) (second_bus (at_rest held older cells) two) refl
        (eqb-true (write cells) 0 reading) page flag
        ∙ is (part 0 11 (at cells)) less ∙ ap cpu.mem place
        ∙ sym (ap (λ t. if t then cpu.flags 0 else cpu.mem (at cells)) flag)

  pub answered_of : (list : List Turn) (older : List Bus) (cells : Cells) (fresh : Bool) → AllFit R held older cells
      → AreGiven R (at_rest held older cells) list → (fresh ≡ true → RamIs older) → AreFound cpu fresh (at_rest held older cells) list
      → AreAnswered cpu cells (cycles_of (at_rest held older cells) list)
  answered_of [] older cells fresh f given is answers = tt
  answered_of (idles drive ∷ later) older cells fresh f given is answers =
      answered_of later (wait_bus (at_rest held older cells) drive ∷ older) cells fresh (wait_fits R held older cells drive f given.0)
      given.1 (λ e. is e) answers
  answered_of (acts two ∷ later) older cells fresh f given is answers =
      let machine = at_rest held older cells in
      let bus = first_is R held older cells two f given.0 in (
        by (nat_eq (write cells) 0) fresh (in_board (at cells)) refl refl refl answers.0 bus.a,
        answered_of later (second_bus machine two ∷ first_bus machine two ∷ older) (clock cells (pins_of (cycle_of machine two)))
            (fresh && nat_eq (write cells) 0) (cycle_fits R held older cells two f given.0) given.1 (next_is fresh (nat_eq (write cells) 0) refl is bus.a)
            answers.1,
      )
    where
      by : (w fr there : Bool) → nat_eq (write cells) 0 ≡ w → fresh ≡ fr → in_board (at cells) ≡ there
          → Where w (Where (not (fr && there)) ((cycle_of (at_rest held older cells) two).din ≡ found (at cells) cpu)) → at cells < 65536
          → Where w ((cycle_of (at_rest held older cells) two).din ≡ found (at cells) cpu)
      by false fr there w_is fr_is there_is answer a_in = tt
      by true false there w_is fr_is there_is answer a_in = answer
      by true true false w_is fr_is there_is answer a_in = answer
      by true true true w_is fr_is there_is answer a_in = finds older cells two f a_in w_is (is fr_is) there_is

      next_is : (fr w : Bool) → nat_eq (write cells) 0 ≡ w → (fr ≡ true → RamIs older) → at cells < 65536 → (fr && w) ≡ true
          → RamIs (second_bus (at_rest held older cells) two ∷ first_bus (at_rest held older cells) two ∷ older)
      next_is true true w_is ram a_in e = ram_next older cells two f a_in w_is (ram refl)
      next_is true false w_is ram a_in e = absurd (cc)
      next_is false w w_is ram a_in e = absurd (cc)

-- what others leave of the guarded bytes
harmless_at : (guard : Guard) (s n : ℕ) (others : ℕ → ℕ → ℕ) (from : Cpu) → AreHarmless guard s others (n + 1) from → (b : ℕ)
    → guard (amid s others n from).s b ≡ true → others n b ≡ (amid s others n from).mem b
harmless_at guard s zero others from harmless b is = harmless.0 b is
harmless_at guard s (suc n) others from harmless b is =
    let e : suc n + 1 ≡ suc (n + 1) = omega arith in
    let rest : AreHarmless guard s others (suc (n + 1)) from = subst (λ k. AreHarmless guard s others k from) e harmless in
    harmless_at guard s n (λ k. others (suc k)) (turn s (changed (others 0) from)) rest.1 b is

-- the RAM of the board is what the call finds there
pub now_has : (held : ℕ → ℕ) (call : Call) (calls : List Call) (older : List Bus) → HaveRam (call ∷ calls) (after held older)
    → IsSession (later 1 call ∷ calls) → (a : ℕ) → a < 2048 → (after held older).ram a ≡ (now call).mem (0x4000 + a)
now_has held call calls older have session a less =
    let b = 0x4000 + a in
    let readable : is_readable b ≡ true = or_first (is_ram b) (nat_eq b flag_place) (ram_place a less) in
    sym (harmless_at (guards (is_kept (is_table (later 1 call) calls)) call.from.s) call.from.s call.steps call.others call.from session.2 b
    (guarded b readable) ∙ have a less)
  where
    guarded : (b : ℕ) → is_readable b ≡ true → guards (is_kept (is_table (later 1 call) calls)) call.from.s (amid call.from.s call.others call.steps call.from).s b ≡ true
    guarded b readable =
        let now = (amid call.from.s call.others call.steps call.from).s in
        let tables = is_table (later 1 call) calls in
        or_first (is_kept tables b) (not (nat_eq now call.from.s) && (nat_eq b (stack_place (now + 1)) || nat_eq b (stack_place (now + 2))))
        (or_last (is_own b) (is_work b || (is_code b || (is_readable b || tables b)))
        (or_last (is_work b) (is_code b || (is_readable b || tables b))
        (or_last (is_code b) (is_readable b || tables b) (or_first (is_readable b) (tables b) readable))))
