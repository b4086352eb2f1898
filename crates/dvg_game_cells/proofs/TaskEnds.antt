-- What each task comes to, halfway and at its end.
use Rattle.std.proofs.Common.{◌≡◌, ℕ, zero, suc, ◌<◌, ◌≤◌, Bool, true, false, List, [], ◌∷◌, ◌++◌, refl, arith}
use Rattle.std.specs.Prelude.{nat_eq, nat_lt, ◌&&◌, if◌then◌else◌, Option, None, Some}
use Rattle.dvg_calls_6502.specs.Processor.{Cpu, put}
use Rattle.dvg_cells_board.specs.Board.{Bus}
use Rattle.dvg_cells_cpu.specs.Cpu.{Cpu as Cells, at, write, dout}
use Rattle.dvg_cells_cpu.specs.Cpu as cpus
use Rattle.dvg_cells_cpu.specs.Refines.{Rests, pins_of, cycles}
use Rattle.dvg_cells_cpu.proofs.LawOfWidths.{fits}
use Rattle.dvg_calls_cells.specs.Cycles.{Two, Turn, acts, idles, wait_bus, cycles_of, cycle_of, first_bus, second_bus}
use Rattle.dvg_calls_cells.specs.Steps.{AreServed, instr_of}
use Rattle.dvg_calls_cells.specs.Played.{AreGiven, at_rest, older_after, cells_after}
use Rattle.dvg_calls_cells.proofs.Fits.{AllFit, served_of, wait_fits}
use Rattle.dvg_game_board.specs.Cabinet.{IsCabinet}
use Rattle.dvg_game_cells.specs.Keeps.{IsBoot}
use Rattle.dvg_game_cells.proofs.CellsTask.{Boots, Doing, IsTime, Stand, calms, works, wrote, stands, starts, breaks, plays, hears}
use Rattle.dvg_game_cells.proofs.CpuOfAnyCells.{choose}
use Rattle.dvg_game_cells.proofs.Snoc.{then_at}
use Rattle.dvg_game_cells.proofs.NmiDue.{at_least}

-- the newest of these turns is a cycle
abbrev pub EndsInCycle : List Turn → Type 0
EndsInCycle list = (front : List Turn) × (two : Two) × (list ≡ front ++ acts two ∷ [])

module _ (R image : List ℕ) (held rom : ℕ → ℕ) (start : ℕ) where
  -- where a cabinet stands after the first clock of one cycle more
  abbrev pub Half : List Bus → Cells → List Turn → Two → Type 0
  Half older cells list two = (spot : Option (Cpu × ℕ))
      × IsCabinet R image held rom start spot
      (first_bus (then_at R held rom older cells list) two ∷ older_after held older cells list)

  -- a task is done
  abbrev pub Done : Cpu → List Bus → Cells → (ℕ → ℕ) → ℕ → List Turn → Type 0
  Done cpu older cells work calm list = Stand R image held rom start (cells_after held older cells list)
      (works cells (cycles_of (at_rest held older cells) list) work)
      (calms cells (cycles_of (at_rest held older cells) list) calm) (older_after held older cells list)

  pub works_in : (list : List Turn) (older : List Bus) (cells : Cells) (work : ℕ → ℕ) → AllFit R held older cells
      → AreGiven R (at_rest held older cells) list → ((a : ℕ) → work a < 256)
      → (a : ℕ) → works cells (cycles_of (at_rest held older cells) list) work a < 256
  works_in [] older cells work f given less = less
  works_in (idles drive ∷ list) older cells work f given less =
      works_in list (wait_bus (at_rest held older cells) drive ∷ older) cells work (wait_fits R held older cells drive f given.0) given.1 less
  works_in (acts two ∷ list) older cells work f given less =
      works_in list (second_bus (at_rest held older cells) two ∷ first_bus (at_rest held older cells) two ∷ older)
      (cpus.clock cells (pins_of (cycle_of (at_rest held older cells) two))) (wrote cells work)
      (served_of R held (acts two ∷ []) older cells f (given.0, tt)).1 given.1
      (λ a. one (nat_eq (write cells) 1 && nat_lt (at cells) 0x200) a)
    where
      one : (t : Bool) (a : ℕ) → (if t then put (at cells) (dout cells) work else work) a < 256
      one true a = choose (nat_eq a (at cells)) (dout cells) (work a) (fits.2 cells f.of_cells).2 (less a)
      one false a = less a

  -- what is served in cycles, and in one more
  pub split_served : (two : Two) (list : List Turn) (older : List Bus) (cells : Cells)
      → AreServed R (at_rest held older cells) (list ++ acts two ∷ [])
      → AreServed R (at_rest held older cells) list × AreServed R (then_at R held rom older cells list) (acts two ∷ [])
  split_served two [] older cells served = (tt, served)
  split_served two (idles drive ∷ list) older cells served =
      let rest = split_served two list (wait_bus (at_rest held older cells) drive ∷ older) cells served.1.1 in
      ((served.0, (served.1.0, rest.0)), rest.1)
  split_served two (acts x ∷ list) older cells served =
      let rest = split_served two list (second_bus (at_rest held older cells) x ∷ first_bus (at_rest held older cells) x ∷ older)
      (cpus.clock cells (pins_of (cycle_of (at_rest held older cells) x))) served.1.1.1.1 in
      ((served.0, (served.1.0, (served.1.1.0, (served.1.1.1.0, rest.0)))), rest.1)

  -- an instruction comes next, or an NMI
  pub settle : (cpu : Cpu) (since : ℕ) (older : List Bus) (cells : Cells) (work : ℕ → ℕ) (calm : ℕ)
      → IsCabinet R image held rom start (Some (cpu, since)) older → Rests cells cpu
      → Doing R image held rom start cpu older cells work calm [] → (cells.due ≡ 0 → IsTime since calm)
      → (cells.due ≡ 1 → (860 ≤ since) × (calm ≤ 6)) → Stand R image held rom start cells work calm older
  settle cpu since older cells work calm on rests doing time late = by cells.due doing.fits.of_cells.due refl
    where
      by : (due : ℕ) → due < 2 → cells.due ≡ due → Stand R image held rom start cells work calm older
      by zero less is = stands cpu older cells work calm (cycles (instr_of cpu)) [] doing (plays since on rests is (time is))
          (at_least (instr_of cpu)) (Some (cpu, since), on)
      by (suc zero) less is = let two = late is in
          stands cpu older cells work calm 5 [] doing (hears since on rests is two.0 two.1) (omega arith) (Some (cpu, since), on)
      by (suc (suc n)) less is = absurd (omega (arith, less))

  -- the same before the TXS
  pub settle_boot : (cpu : Cpu) (spot : Option (Cpu × ℕ)) (left : ℕ) (older : List Bus) (cells : Cells) (work : ℕ → ℕ) (calm : ℕ)
      → IsCabinet R image held rom start spot older → Rests cells cpu → Boots R image held rom start left cpu
      → IsBoot rom start spot None cpu → Doing R image held rom start cpu older cells work calm [] → (cells.due ≡ 1 → calm ≤ 6)
      → Stand R image held rom start cells work calm older
  settle_boot cpu spot left older cells work calm on rests boots boot doing close = by cells.due doing.fits.of_cells.due refl
    where
      by : (due : ℕ) → due < 2 → cells.due ≡ due → Stand R image held rom start cells work calm older
      by zero less is = stands cpu older cells work calm (cycles (instr_of cpu)) [] doing (starts spot left on rests boots boot is)
          (at_least (instr_of cpu)) (spot, on)
      by (suc zero) less is = stands cpu older cells work calm 5 [] doing (breaks spot left on rests boots boot is (close is)) (omega arith) (spot, on)
      by (suc (suc n)) less is = absurd (omega (arith, less))
