-- One turn more, after others.
use Rattle.std.proofs.Common.{◌≡◌, ℕ, suc, List, [], ◌∷◌, ◌++◌, refl, ap}
use Rattle.dvg_cells_board.specs.Board.{Bus}
use Rattle.dvg_cells_cpu.specs.Cpu.{Cpu as Cells, clock}
use Rattle.dvg_cells_cpu.specs.Refines.{pins_of, ends}
use Rattle.dvg_calls_cells.specs.Machine.{Machine}
use Rattle.dvg_calls_cells.specs.Cycles.{Drive, Two, Turn, acts, idles, wait_bus, first_bus, second_bus, buses, cycles_of, cycle_of}
use Rattle.dvg_calls_cells.specs.Played.{AreGiven, at_rest, older_after, cells_after}
use Rattle.dvg_game_cells.proofs.CellsTask.{AreAsked, calm_in, calms, counted, works, wrote}

pub counts : (list : List Turn) (two : Two) → counted (list ++ acts two ∷ []) ≡ suc (counted list)
counts [] two = refl
counts (acts x ∷ list) two = ap suc (counts list two)
counts (idles drive ∷ list) two = counts list two

pub counts_idle : (list : List Turn) (drive : Drive) → counted (list ++ idles drive ∷ []) ≡ counted list
counts_idle [] drive = refl
counts_idle (acts x ∷ list) drive = ap suc (counts_idle list drive)
counts_idle (idles x ∷ list) drive = counts_idle list drive

module _ (R : List ℕ) (held rom : ℕ → ℕ) where
  -- the machine after these turns
  abbrev pub then_at : List Bus → Cells → List Turn → Machine
  then_at older cells list = at_rest held (older_after held older cells list) (cells_after held older cells list)

  module _ (last : Turn) where
    abbrev onward : List Bus → Cells → Two → List Bus
    onward older cells x = second_bus (at_rest held older cells) x ∷ first_bus (at_rest held older cells) x ∷ older

    abbrev waited : List Bus → Cells → Drive → List Bus
    waited older cells drive = wait_bus (at_rest held older cells) drive ∷ older

    abbrev moved : List Bus → Cells → Two → Cells
    moved older cells x = clock cells (pins_of (cycle_of (at_rest held older cells) x))

    pub more_cells : (list : List Turn) (older : List Bus) (cells : Cells)
        → cells_after held older cells (list ++ last ∷ [])
        ≡ ends (cells_after held older cells list) (cycles_of (then_at older cells list) (last ∷ []))
    more_cells [] older cells = refl
    more_cells (acts x ∷ list) older cells = more_cells list (onward older cells x) (moved older cells x)
    more_cells (idles drive ∷ list) older cells = more_cells list (waited older cells drive) cells

    pub more_older : (list : List Turn) (older : List Bus) (cells : Cells)
        → older_after held older cells (list ++ last ∷ [])
        ≡ buses (then_at older cells list) (last ∷ []) (older_after held older cells list)
    more_older [] older cells = refl
    more_older (acts x ∷ list) older cells = more_older list (onward older cells x) (moved older cells x)
    more_older (idles drive ∷ list) older cells = more_older list (waited older cells drive) cells

    pub more_works : (list : List Turn) (older : List Bus) (cells : Cells) (work : ℕ → ℕ)
        → works cells (cycles_of (at_rest held older cells) (list ++ last ∷ [])) work
        ≡ works (cells_after held older cells list) (cycles_of (then_at older cells list) (last ∷ []))
        (works cells (cycles_of (at_rest held older cells) list) work)
    more_works [] older cells work = refl
    more_works (acts x ∷ list) older cells work = more_works list (onward older cells x) (moved older cells x) (wrote cells work)
    more_works (idles drive ∷ list) older cells work = more_works list (waited older cells drive) cells work

    pub more_calms : (list : List Turn) (older : List Bus) (cells : Cells) (calm : ℕ)
        → calms cells (cycles_of (at_rest held older cells) (list ++ last ∷ [])) calm
        ≡ calms (cells_after held older cells list) (cycles_of (then_at older cells list) (last ∷ []))
        (calms cells (cycles_of (at_rest held older cells) list) calm)
    more_calms [] older cells calm = refl
    more_calms (acts x ∷ list) older cells calm = more_calms list (onward older cells x) (moved older cells x)
        (calm_in cells (cycle_of (at_rest held older cells) x) calm)
    more_calms (idles drive ∷ list) older cells calm = more_calms list (waited older cells drive) cells calm

    pub more_given : (list : List Turn) (older : List Bus) (cells : Cells) → AreGiven R (at_rest held older cells) list
        → AreGiven R (then_at older cells list) (last ∷ []) → AreGiven R (at_rest held older cells) (list ++ last ∷ [])
    more_given [] older cells given one = one
    more_given (acts x ∷ list) older cells given one =
        (given.0, more_given list (onward older cells x) (moved older cells x) given.1 one)
    more_given (idles drive ∷ list) older cells given one =
        (given.0, more_given list (waited older cells drive) cells given.1 one)

    pub more_asked : (list : List Turn) (older : List Bus) (cells : Cells) (work : ℕ → ℕ) (calm : ℕ)
        → AreAsked rom work calm (at_rest held older cells) list
        → AreAsked rom (works cells (cycles_of (at_rest held older cells) list) work)
        (calms cells (cycles_of (at_rest held older cells) list) calm) (then_at older cells list) (last ∷ [])
        → AreAsked rom work calm (at_rest held older cells) (list ++ last ∷ [])
    more_asked [] older cells work calm asked one = one
    more_asked (acts x ∷ list) older cells work calm asked one = (
      asked.0,
      more_asked list (onward older cells x) (moved older cells x) (wrote cells work)
          (calm_in cells (cycle_of (at_rest held older cells) x) calm) asked.1 one,
    )
    more_asked (idles drive ∷ list) older cells work calm asked one =
        more_asked list (waited older cells drive) cells work calm asked one
