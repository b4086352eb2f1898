-- When an NMI is due, and how many cycles came since it rose.
use Rattle.std.proofs.Common.{◌≡◌, ℕ, suc, ◌+◌, ◌<◌, ◌≤◌, Bool, true, false, List, [], ◌∷◌, refl, ap, ◌∙◌, arith, inl, inr}
use Rattle.std.specs.Prelude.{◌⊎◌, nat_eq, ◌&&◌, if◌then◌else◌}
use Rattle.dvg_calls_6502.specs.Processor.{Mode, Immediate, ZeroPage, ZeroPageX, ZeroPageY, Absolute}
use Rattle.dvg_calls_6502.specs.Processor.{AbsoluteX, AbsoluteY, IndexedIndirect, IndirectIndexed, Instr, Load, Store, Transfer, And, Or, Xor}
use Rattle.dvg_calls_6502.specs.Processor.{Add, Subtract, Compare, TestBits, Change, Step, ShiftAt, ShiftA, Set, Branch, Jump, JumpAt}
use Rattle.dvg_calls_6502.specs.Processor.{Call, Return, PushA, PushFlags, PullA, PullFlags, FromStack, ToStack, Resume, Pass, Unknown}
use Rattle.dvg_cells_board.specs.Board.{Bus}
use Rattle.dvg_cells_cpu.specs.Cpu.{Cpu as Cells, clock}
use Rattle.dvg_cells_cpu.specs.Refines.{pins_of, cycles, cycles_by}
use Rattle.dvg_cells_cpu.proofs.Interrupting.{hears}
use Rattle.dvg_calls_cells.specs.Cycles.{Turn, acts, idles, wait_bus, next, first_bus, second_bus, cycles_of, cycle_of}
use Rattle.dvg_calls_cells.specs.Played.{AreGiven, at_rest, cells_after}
use Rattle.dvg_calls_cells.proofs.Fits.{AllFit, cycle_fits, wait_fits}
use Rattle.dvg_game_cells.proofs.CellsTask.{AreAsked, calm_in, calms, counted, wrote}

-- no instruction has more cycles than six
by_mode : (mode : Mode) → cycles_by mode ≤ 5
by_mode Immediate = omega arith
by_mode _ = omega arith

of_mode : (mode : Mode) → cycles_by mode ≤ 6
of_mode mode = let five = by_mode mode in omega (arith, five)

more_mode : (mode : Mode) → cycles_by mode + 1 ≤ 6
more_mode mode = let five = by_mode mode in omega (arith, five)

pub at_most : (instr : Instr) → cycles instr ≤ 6
at_most (Load r mode) = of_mode mode
at_most (Store r mode) = of_mode mode
at_most (And mode) = of_mode mode
at_most (Or mode) = of_mode mode
at_most (Xor mode) = of_mode mode
at_most (Add mode) = of_mode mode
at_most (Subtract mode) = of_mode mode
at_most (Compare r mode) = of_mode mode
at_most (TestBits mode) = of_mode mode
at_most (Change mode by) = more_mode mode
at_most (ShiftAt shift mode) = more_mode mode
at_most _ = omega arith

-- and each has one
some_mode : (mode : Mode) → 0 < cycles_by mode
some_mode Immediate = omega arith
some_mode _ = omega arith

pub at_least : (instr : Instr) → 0 < cycles instr
at_least (Load r mode) = some_mode mode
at_least (Store r mode) = some_mode mode
at_least (And mode) = some_mode mode
at_least (Or mode) = some_mode mode
at_least (Xor mode) = some_mode mode
at_least (Add mode) = some_mode mode
at_least (Subtract mode) = some_mode mode
at_least (Compare r mode) = some_mode mode
at_least (TestBits mode) = some_mode mode
at_least _ = omega arith

module _ (R : List ℕ) (held rom : ℕ → ℕ) where
  -- no NMI has risen in cycles, and none is due; or one rose, long after the last
  abbrev pub Timed : (length calm calm_then due : ℕ) → Type 0
  Timed n calm calm_then due = (due ≡ 0) ⊎ ((5200 ≤ calm + n) × (calm_then ≤ n))

  pub record Timely (n calm calm_then old due : ℕ) : Type 0 where
    pub bound : calm_then ≤ calm + n
    pub timed : old ≡ 0 → Timed n calm calm_then due

  pub timely : (list : List Turn) (older : List Bus) (cells : Cells) (work : ℕ → ℕ) (calm : ℕ) → AllFit R held older cells
      → AreGiven R (at_rest held older cells) list → AreAsked rom work calm (at_rest held older cells) list
      → Timely (counted list) calm (calms cells (cycles_of (at_rest held older cells) list) calm) cells.due
      (cells_after held older cells list).due
  timely [] older cells work calm f given asked = record { bound = omega arith; timed = λ is. inl is }
  timely (idles drive ∷ list) older cells work calm f given asked =
      timely list (wait_bus (at_rest held older cells) drive ∷ older) cells work calm (wait_fits R held older cells drive f given.0)
      given.1 asked
  timely (acts two ∷ list) older cells work calm f given asked = by
      (timely list (second_bus (at_rest held older cells) two ∷ first_bus (at_rest held older cells) two ∷ older)
      (clock cells (pins_of (cycle_of (at_rest held older cells) two))) (wrote cells work)
      (calm_in cells (cycle_of (at_rest held older cells) two) calm) (cycle_fits R held older cells two f given.0) given.1 asked.1)
      (nat_eq (cycle_of (at_rest held older cells) two).nmi 1 && nat_eq cells.was 0) refl
    where
      still : (b : Bool) (due : ℕ) → due ≡ 0 → (if b then 0 else due) ≡ 0
      still true due is = refl
      still false due is = is

      due_then : (nat_eq (cycle_of (at_rest held older cells) two).nmi 1 && nat_eq cells.was 0) ≡ false → cells.due ≡ 0
          → (clock cells (pins_of (cycle_of (at_rest held older cells) two))).due ≡ 0
      due_then none is =
          (hears cells (cycle_of (at_rest held older cells) two) f.of_cells.was f.of_cells.due given.0.nmi).1
          ∙ ap (λ t. if t then 1 else if nat_eq cells.state 2 then 0 else cells.due) none
          ∙ still (nat_eq cells.state 2) cells.due is

      by : Timely (counted list) (calm_in cells (cycle_of (at_rest held older cells) two) calm)
          (calms (clock cells (pins_of (cycle_of (at_rest held older cells) two)))
          (cycles_of (next (at_rest held older cells) (acts two)) list) (calm_in cells (cycle_of (at_rest held older cells) two) calm))
          (clock cells (pins_of (cycle_of (at_rest held older cells) two))).due
          (cells_after held older cells (acts two ∷ list)).due
          → (t : Bool) → (nat_eq (cycle_of (at_rest held older cells) two).nmi 1 && nat_eq cells.was 0) ≡ t
          → Timely (counted (acts two ∷ list)) calm (calms cells (cycles_of (at_rest held older cells) (acts two ∷ list)) calm) cells.due
          (cells_after held older cells (acts two ∷ list)).due
      by rest true e =
          let now : calm_in cells (cycle_of (at_rest held older cells) two) calm ≡ 0 = ap (λ t. if t then 0 else suc calm) e in
          let bound = rest.bound in
          let late = asked.0.apart e in record {
            bound = omega (arith, bound, now);
            timed = λ is. inr (omega (arith, late), omega (arith, bound, now));
          }
      by rest false e =
          let now : calm_in cells (cycle_of (at_rest held older cells) two) calm ≡ suc calm =
          ap (λ t. if t then 0 else suc calm) e in
          let bound = rest.bound in record {
            bound = omega (arith, bound, now);
            timed = λ is. again now (rest.timed (due_then e is));
          }
        where
          again : calm_in cells (cycle_of (at_rest held older cells) two) calm ≡ suc calm
              → Timed (counted list) (calm_in cells (cycle_of (at_rest held older cells) two) calm)
              (calms (clock cells (pins_of (cycle_of (at_rest held older cells) two)))
              (cycles_of (next (at_rest held older cells) (acts two)) list) (calm_in cells (cycle_of (at_rest held older cells) two) calm))
              (cells_after held older cells (acts two ∷ list)).due
              → Timed (counted (acts two ∷ list)) calm (calms cells (cycles_of (at_rest held older cells) (acts two ∷ list)) calm)
              (cells_after held older cells (acts two ∷ list)).due
          again now (inl is) = inl is
          again now (inr late) = let a = late.0 in let b = late.1 in inr (omega (arith, a, now), omega (arith, b))
