-- Cycles of the cells in a cabinet: those that leave the board alone, and one that makes an instruction's access.
use Rattle.std.proofs.Common.{◌≡◌, ℕ, suc, ◌<◌, Bool, true, false, List, [], ◌∷◌, refl, sym, ap, ◌∙◌, subst, eqb-true}
use Rattle.std.specs.Prelude.{nat_eq, if◌then◌else◌, Option, Some}
use Rattle.dvg_calls_6502.specs.Processor.{Cpu, Access, Reads, Writes}
use Rattle.dvg_cells_core.specs.Cells.{mux}
use Rattle.dvg_cells_board.specs.Board.{Bus, q}
use Rattle.dvg_cells_board.specs.Board as pin
use Rattle.dvg_cells_board.specs.Clocks.{after}
use Rattle.dvg_calls_board.specs.Machine.{Makes}
use Rattle.dvg_cells_cpu.specs.Cpu.{Cpu as Cells, at, write, dout, clock}
use Rattle.dvg_cells_cpu.specs.Refines.{pins_of, access, made}
use Rattle.dvg_calls_cells.specs.Cycles.{Two, Turn, acts, idles, wait_bus, first_bus, second_bus, next, cycles_of, cycle_of, IsQuiet, AreQuiet}
use Rattle.dvg_calls_cells.specs.Steps.{AreServed}
use Rattle.dvg_calls_cells.specs.Played.{at_rest, older_after}
use Rattle.dvg_calls_cells.proofs.BoardLeftAlone.{idle_write, write_first}
use Rattle.dvg_calls_cells.proofs.SeenAccesses.{IsSeen}
use Rattle.dvg_calls_cells.proofs.CallOnCells.{answered_there, on_board, one_of}
use Rattle.dvg_game_6502.specs.Play.{done, restarts}
use Rattle.dvg_game_board.specs.Cabinet.{IsCabinet, AreMade, no_more, one_more, waits, reads, does, touched}

module _ (R image : List ℕ) (held rom : ℕ → ℕ) (start : ℕ) where
  abbrev On : Option (Cpu × ℕ) → List Bus → Type 0
  On spot clocks = IsCabinet R image held rom start spot clocks

  module _ (older : List Bus) (cells : Cells) (two : Two) (served : AreServed R (at_rest held older cells) (acts two ∷ [])) where
    abbrev one : Bus
    one = first_bus (at_rest held older cells) two

    abbrev last : Bus
    last = second_bus (at_rest held older cells) two

    abbrev din : ℕ
    din = (cycle_of (at_rest held older cells) two).din

    -- the first clock of a cycle that leaves the board alone
    pub quiet_half : (spot : Option (Cpu × ℕ)) → On spot older → AreQuiet (access cells din ∷ []) → On spot (one ∷ older)
    quiet_half spot on q = by (nat_eq (write cells) 0) refl q
      where
        by : (w : Bool) → nat_eq (write cells) 0 ≡ w
            → AreQuiet ((if w then Reads (at cells) din else Writes (at cells) (dout cells)) ∷ []) → On spot (one ∷ older)
        by true e q = reads one on served.0 served.1.1.0 refl (eqb-true (write cells) 0 e)
        by false e q = waits one on served.0 served.1.1.0 (idle_write (after held older) one e q.0.0 q.0.1)

    -- the second one of any cycle
    pub second_half : (spot : Option (Cpu × ℕ)) → On spot (one ∷ older) → On spot (last ∷ one ∷ older)
    second_half spot on = waits last on served.1.0 served.1.1.1.0 (refl, refl)

    -- the first clock of a cycle that makes the one access of an instruction
    makes : (w : Bool) (its : Access) → nat_eq (write cells) 0 ≡ w
        → (if nat_eq (write cells) 0 then Reads (at cells) din else Writes (at cells) (dout cells)) ≡ its
        → IsSeen its → Makes (after held older) one its
    makes true its w is it_is_seen =
        let read : Reads (at cells) din ≡ its =
        sym (ap (λ (b : Bool). if b then Reads (at cells) din else Writes (at cells) (dout cells)) w) ∙ is in
        let there : on_board (at cells) ≡ 1 = answered_there (at cells) served.0.a (subst IsSeen (sym read) it_is_seen) in
        subst (Makes (after held older) one) read (
          refl,
          eqb-true (write cells) 0 w,
          refl,
          λ next. sym (ap (λ o. mux o (q (pin.clock (after held older) one) next) two.second.m) there),
        )
    makes false its w is it_is_seen =
        let written : Writes (at cells) (dout cells) ≡ its =
        sym (ap (λ (b : Bool). if b then Reads (at cells) din else Writes (at cells) (dout cells)) w) ∙ is in
        subst (Makes (after held older) one) written (refl, one_of _ _ w, refl, refl)

    pub loud_half : (cpu : Cpu) (since : ℕ) (flags : ℕ → ℕ) → On (Some (cpu, since)) older → restarts cpu ≡ false
        → flags 0 < 256 → (its : Access) → access cells din ≡ its → IsSeen its → touched cpu (done flags cpu) ≡ its ∷ []
        → On (Some (done flags cpu, suc since)) (one ∷ older)
    loud_half cpu since flags on go small its is it_is_seen touches =
        does flags on go small (subst (λ log. AreMade R held log older (one ∷ older)) (sym touches)
        (one_more its one no_more served.0 served.1.1.0 (makes (nat_eq (write cells) 0) its refl is it_is_seen)))

  -- cycles that leave the board alone
  pub quietly : (spot : Option (Cpu × ℕ)) (twos : List Turn) (older : List Bus) (cells : Cells) → On spot older
      → AreServed R (at_rest held older cells) twos
      → AreQuiet (made cells (cycles_of (at_rest held older cells) twos) []) → On spot (older_after held older cells twos)
  quietly spot [] older cells on served quiet = on
  quietly spot (idles drive ∷ later) older cells on served quiet =
      quietly spot later (wait_bus (at_rest held older cells) drive ∷ older) cells
      (waits (wait_bus (at_rest held older cells) drive) on served.0 served.1.0 (refl, refl)) served.1.1 quiet
  quietly spot (acts two ∷ later) older cells on served quiet =
      let machine = at_rest held older cells in
      let cycle = cycle_of machine two in
      let both = write_first IsQuiet cells cycle (cycles_of (next machine (acts two)) later) quiet in
      let mine : AreServed R machine (acts two ∷ []) = (served.0, (served.1.0, (served.1.1.0, (served.1.1.1.0, tt)))) in
      quietly spot later (second_bus machine two ∷ first_bus machine two ∷ older) (clock cells (pins_of cycle))
      (second_half older cells two mine spot (quiet_half older cells two mine spot on both.0)) served.1.1.1.1 both.1
