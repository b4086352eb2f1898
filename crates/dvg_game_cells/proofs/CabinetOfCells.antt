-- Each run of cells stands somewhere, and so it is a run of a cabinet, whose log keeps the headline.
use Rattle.std.proofs.Common.{◌≡◌, ℕ, zero, suc, ◌<◌, ◌≤◌, Bool, true, false, List, [], ◌∷◌, ◌++◌, refl, sym, ap, ◌∙◌}
use Rattle.std.proofs.Common.{subst, arith, inl, inr, lit<, eqb-true}
use Rattle.std.specs.Prelude.{◌⊎◌, nat_eq, nat_lt, ◌&&◌, if◌then◌else◌, Option, Some, None}
use Rattle.std.proofs.lemmas.Bool.{cases_lt}
use Rattle.std.proofs.lemmas.List.Elements.{recursion_from_All}
use Rattle.dvg_mem.specs.Memory.{IsRom}
use Rattle.dvg_calls_6502.specs.Processor.{Cpu, put}
use Rattle.dvg_cells_board.specs.Board.{Board, Bus}
use Rattle.dvg_cells_board.specs.Clocks.{IsServed, after}
use Rattle.dvg_cells_board.specs.Logs.{HoldsRam}
use Rattle.dvg_cells_cpu.specs.Cpu.{Cpu as Cells, at, dout, sync, write, zeros}
use Rattle.dvg_cells_cpu.specs.Cpu as cpus
use Rattle.dvg_cells_cpu.specs.Refines.{ends, made, pins_of}
use Rattle.dvg_cells_cpu.proofs.LawOfWidths.{fits}
use Rattle.dvg_calls_cells.specs.Machine.{Machine, Bus as Pins, clock, drives_board}
use Rattle.dvg_calls_cells.specs.Machine as pin
use Rattle.dvg_calls_cells.specs.Cycles.{Drive, Two, pins_by, driven, resetting, first_bus, second_bus, cycle_of}
use Rattle.dvg_calls_cells.specs.Cycles.{Turn, acts, idles, wait_bus, cycles_of, AreQuiet}
use Rattle.dvg_calls_cells.specs.Steps.{AreServed}
use Rattle.dvg_calls_cells.specs.GoesOn.{drive_for}
use Rattle.dvg_calls_cells.specs.Played.{IsGiven, IsWaiting, at_rest, cells_after, older_after, reset_bus}
use Rattle.dvg_calls_cells.proofs.Fits.{AllFit, reset_is, reset_fits, served_of, wait_is}
use Rattle.dvg_game_6502.proofs.Plays.{Brought, by_bytes, by_content}
use Rattle.dvg_game_6502.proofs.Stages.{IsAccepted}
use Rattle.dvg_game_board.proofs.OnBoard.{on_board}
use Rattle.dvg_calls_board.proofs.Waiting.{below}
use Rattle.dvg_calls_board.specs.Machine.{OfEachMachine}
use Rattle.dvg_game_board.specs.Cabinet.{IsCabinet, powers, resets, waits, ClocksDrawAlike, DrawAlike, none, same, elsewhere}
use Rattle.dvg_game_board.specs.Keeps.{GameKeepsHeadline, GamesKeep, VectorsKeep}
use Rattle.dvg_game_board.proofs.SharedRam.{Laws}
use Rattle.dvg_game_cells.specs.Whole.{IsDriven, IsCellsRun, Finds, calm_after, work_after}
use Rattle.dvg_game_cells.specs.Whole as whole
use Rattle.dvg_game_cells.specs.Keeps.{AreBooting, CellsKeep, GamesOnCellsKeep, MayBoot, StandAt, VectorsOnCellsKeep}
use Rattle.dvg_game_cells.specs.GoesOn.{answer}
use Rattle.dvg_game_cells.proofs.Walks.{quietly, second_half}
use Rattle.dvg_game_cells.proofs.CellsTask.{Asked, Doing, Shares, Spot, Stand, Task, calm_in, counted, calms, works, wrote, stands, wakes, starts, breaks, handles}
use Rattle.dvg_game_cells.proofs.CellsTask.{plays, hears}
use Rattle.dvg_game_cells.proofs.CpuOfAnyCells.{answer_finds, answer_small, fresh_cpu, fresh_holds, fresh_shares}
use Rattle.dvg_game_cells.proofs.Boots as booting
use Rattle.dvg_game_cells.proofs.Plays as playing
use Rattle.dvg_game_cells.proofs.CyclesFind.{no_cycles}
use Rattle.dvg_game_cells.proofs.Vectors as vectors
use Rattle.dvg_game_cells.proofs.TaskEnds.{Done, EndsInCycle, Half, works_in}
use Rattle.dvg_game_cells.proofs.Snoc.{counts, counts_idle, more_asked, more_calms, more_cells, more_given, more_older, more_works, then_at}

-- clocks that are alike leave boards that draw the same
alike_draw : {held : ℕ → ℕ} {made shown : List Bus} → ClocksDrawAlike held made shown → DrawAlike (after held made) (after held shown)
alike_draw none = (refl, refl)
alike_draw (same bus rest draw) = draw
alike_draw (elsewhere bus a reading rest draw) = draw

module _ (laws : Laws) (R image : List ℕ) (held rom : ℕ → ℕ) (start : ℕ) (game : IsAccepted rom start)
    (brought : Brought R (on_board laws R image held) rom start) where
  abbrev Standing : Cells → (ℕ → ℕ) → ℕ → List Bus → Type 0
  Standing cells work calm clocks = Stand R image held rom start cells work calm clocks

  abbrev On : Option (Cpu × ℕ) → List Bus → Type 0
  On spot clocks = IsCabinet R image held rom start spot clocks

  abbrev Asks : Machine → (ℕ → ℕ) → ℕ → Pins → Type 0
  Asks machine work calm pins = IsDriven R rom machine work calm pins

  served_by : {machine : Machine} {work : ℕ → ℕ} {calm : ℕ} {pins : Pins} → Asks machine work calm pins
      → IsServed R machine.board (drives_board machine pins)
  served_by asks = record { big = asks.big; rom = asks.from_rom }

  moved_to : {cells cells' : Cells} {work work' : ℕ → ℕ} {calm calm' : ℕ} {clocks clocks' : List Bus} → cells ≡ cells'
      → work ≡ work' → calm ≡ calm' → clocks ≡ clocks' → Standing cells work calm clocks → Standing cells' work' calm' clocks'
  moved_to {cells} {cells'} {work} {work'} {calm} {calm'} {clocks} {clocks'} a b c d s =
      subst (λ k. Standing k work' calm' clocks') a (subst (λ k. Standing cells k calm' clocks') b
      (subst (λ k. Standing cells work k clocks') c (subst (λ k. Standing cells work calm k) d s)))

  -- a task's halfway, and its end
  half : (cpu : Cpu) (older : List Bus) (cells : Cells) (work : ℕ → ℕ) (calm : ℕ) {n : ℕ}
      → Task R image held rom start cpu older cells calm n → (list : List Turn) (two : Two) → counted list < n
      → Doing R image held rom start cpu older cells work calm (list ++ acts two ∷ [])
      → Half R image held rom start older cells list two
  half cpu older cells work calm (wakes spot may on holds begin free) list two less doing =
      vectors.wakes_half R image held rom start cpu older cells work calm holds begin free spot on list two less doing
  half cpu older cells work calm (starts spot left on rests boots boot free) list two less doing =
      booting.starts_half R image held rom start cpu older cells work calm rests spot left on boots boot free list two less doing
  half cpu older cells work calm (breaks spot left on rests boots boot due close) list two less doing =
      booting.breaks_half R image held rom start cpu older cells work calm rests spot left on boots boot due close list two less doing
  half cpu older cells work calm (handles spot left on rests back since boots early boot free close) list two less doing =
      booting.handles_half R image held rom start cpu older cells work calm rests spot left on back since boots early boot free close list two less doing
  half cpu older cells work calm (plays since on rests free time) list two less doing =
      playing.plays_half laws R image held rom start game brought cpu older cells work calm since on rests free list two less doing
  half cpu older cells work calm (hears since on rests due late calm_is) list two less doing =
      vectors.hears_half R image held rom start cpu older cells work calm laws game brought since on rests due late calm_is list two less doing

  done : (cpu : Cpu) (older : List Bus) (cells : Cells) (work : ℕ → ℕ) (calm : ℕ) {n : ℕ}
      → Task R image held rom start cpu older cells calm n → (list : List Turn) → EndsInCycle list → counted list ≡ n
      → Doing R image held rom start cpu older cells work calm list
      → Done R image held rom start cpu older cells work calm list
  done cpu older cells work calm (wakes spot may on holds begin free) list newest count doing =
      vectors.wakes_done R image held rom start cpu older cells work calm holds begin free game spot may on list count doing
  done cpu older cells work calm (starts spot left on rests boots boot free) list newest count doing =
      booting.starts_done R image held rom start cpu older cells work calm rests spot left on boots boot free list count doing
  done cpu older cells work calm (breaks spot left on rests boots boot due close) list newest count doing =
      booting.breaks_done R image held rom start cpu older cells work calm rests spot left on boots boot due close game list count doing
  done cpu older cells work calm (handles spot left on rests back since boots early boot free close) list newest count doing =
      booting.handles_done R image held rom start cpu older cells work calm rests spot left on back since boots early boot free close list count doing
  done cpu older cells work calm (plays since on rests free time) list newest count doing =
      playing.plays_done laws R image held rom start game brought cpu older cells work calm since on rests free time list count doing newest
  done cpu older cells work calm (hears since on rests due late calm_is) list newest count doing =
      vectors.hears_done R image held rom start cpu older cells work calm laws game brought since on rests due late calm_is list count doing

  -- amid it no opcode is read
  amid_task : (cpu : Cpu) (older : List Bus) (cells : Cells) (work : ℕ → ℕ) (calm : ℕ) {n : ℕ}
      → Task R image held rom start cpu older cells calm n → (list : List Turn) → 0 < counted list → counted list < n
      → Doing R image held rom start cpu older cells work calm list → sync (cells_after held older cells list) ≡ 0
  amid_task cpu older cells work calm (wakes spot may on holds begin free) list some less doing =
      vectors.wakes_amid R image held rom start cpu older cells work calm holds begin free list less
  amid_task cpu older cells work calm (starts spot left on rests boots boot free) list some less doing =
      booting.starts_unread R image held rom start cpu older cells work calm rests spot left on boots boot free list some less doing
  amid_task cpu older cells work calm (breaks spot left on rests boots boot due close) list some less doing =
      booting.breaks_unread R image held rom start cpu older cells work calm rests spot left on boots boot due close list less doing.shares
  amid_task cpu older cells work calm (handles spot left on rests back since boots early boot free close) list some less doing =
      booting.handles_unread R image held rom start cpu older cells work calm rests spot left on back since boots early boot free close
      list some less doing
  amid_task cpu older cells work calm (plays since on rests free time) list some less doing =
      playing.plays_amid laws R image held rom start game brought cpu older cells work calm since on rests free list some less doing
  amid_task cpu older cells work calm (hears since on rests due late calm_is) list some less doing =
      vectors.hears_amid R image held rom start cpu older cells work calm laws game brought since on rests due late calm_is list less

  abbrev At : Cells → List Bus → Type 0
  At cells clocks = (spot : Option (Cpu × ℕ)) × On spot clocks × (StandAt cells spot ⊎ AreBooting rom start spot cells)

  not_both : (level : ℕ) → level ≡ 1 → level ≡ 0 → ⊥
  not_both level high low = let e = sym low ∙ high in cc

  -- where one is read, the cells have the registers of the processor
  at_task : (cpu : Cpu) (older : List Bus) (cells : Cells) (work : ℕ → ℕ) (calm : ℕ) {n : ℕ}
      → Task R image held rom start cpu older cells calm n → Shares R image held rom start cpu work older → sync cells ≡ 1
      → At cells older
  at_task cpu older cells work calm (wakes spot may on holds begin free) shares high =
      absurd (not_both (sync cells) high
      (vectors.wakes_amid R image held rom start cpu older cells work calm holds begin free [] (omega arith)))
  at_task cpu older cells work calm (starts spot left on rests boots boot free) shares high =
      (spot, on, inr (None, cpu, boot, rests.holds))
  at_task cpu older cells work calm (breaks spot left on rests boots boot due close) shares high =
      absurd (not_both (sync cells) high (booting.breaks_unread R image held rom start cpu older cells work calm rests spot left on
      boots boot due close [] (omega arith) shares))
  at_task cpu older cells work calm (handles spot left on rests back since boots early boot free close) shares high =
      (spot, on, inr (Some back.pc, cpu, boot, rests.holds))
  at_task cpu older cells work calm (plays since on rests free time) shares high = (Some (cpu, since), on, inl rests.holds)
  at_task cpu older cells work calm (hears since on rests due late calm_is) shares high =
      absurd (not_both (sync cells) high (vectors.hears_amid R image held rom start cpu older cells work calm laws game brought
      since on rests due late calm_is [] (omega arith)))

  at_opcode : {cells : Cells} {work : ℕ → ℕ} {calm : ℕ} {clocks : List Bus} → Standing cells work calm clocks → sync cells ≡ 1
      → At cells clocks
  at_opcode (stands cpu older cells work calm n list doing task short spot) high = by (counted list) refl
    where
      by : (count : ℕ) → counted list ≡ count → At (cells_after held older cells list) (older_after held older cells list)
      by zero idle =
          let empty = no_cycles R image held rom start list older cells idle in
          let same : cells_after held older cells list ≡ cells = ap (λ l. ends cells l) empty in
          let here = at_task cpu older cells work calm task doing.shares (subst (λ c. sync c ≡ 1) same high) in (
            here.0,
            quietly R image held rom start here.0 list older cells here.1 (served_of R held list older cells doing.fits doing.given).0
                (subst (λ l. AreQuiet (made cells l [])) (sym empty) tt),
            subst (λ c. StandAt c here.0 ⊎ AreBooting rom start here.0 c) (sym same) here.2,
          )
      by (suc count) some = absurd (not_both (sync (cells_after held older cells list)) high
          (amid_task cpu older cells work calm task list (omega (arith, some)) short doing))

  -- what holds wherever it stands
  record Holding (cells : Cells) (work : ℕ → ℕ) (clocks : List Bus) : Type 0 where
    is_rom : IsRom R
    fitting : AllFit R held clocks cells
    work_in : (a : ℕ) → work a < 256
    rom_in : (a : ℕ) → rom a < 256
    spot : Option (Cpu × ℕ)
    on : On spot clocks

  -- a task stands halfway, and after the second clock of the cycle
  both_clocks : (cpu : Cpu) (older : List Bus) (cells : Cells) (work : ℕ → ℕ) (calm n : ℕ)
      → Task R image held rom start cpu older cells calm n → (list : List Turn) (two : Two) → counted list < n
      → Doing R image held rom start cpu older cells work calm (list ++ acts two ∷ [])
      → Spot R image held rom start (older_after held older cells (list ++ acts two ∷ []))
  both_clocks cpu older cells work calm n task list two less doing =
      let first = half cpu older cells work calm task list two less doing in
      let parts = served_of R held (list ++ acts two ∷ []) older cells doing.fits doing.given in
      let served = last_served list older cells parts.0 in (
        first.0,
        subst (λ k. On first.0 k) (sym (more_older R held rom (acts two) list older cells))
            (second_half R image held rom start (older_after held older cells list) (cells_after held older cells list) two served first.0 first.1),
      )
    where
      last_served : (l : List Turn) (b : List Bus) (c : Cells) → AreServed R (at_rest held b c) (l ++ acts two ∷ [])
          → AreServed R (then_at R held rom b c l) (acts two ∷ [])
      last_served [] b c served = served
      last_served (idles drive ∷ l) b c served = last_served l (wait_bus (at_rest held b c) drive ∷ b) c served.1.1
      last_served (acts x ∷ l) b c served =
          last_served l (second_bus (at_rest held b c) x ∷ first_bus (at_rest held b c) x ∷ b)
          (cpus.clock c (pins_of (cycle_of (at_rest held b c) x))) served.1.1.1.1

  holding : {cells : Cells} {work : ℕ → ℕ} {calm : ℕ} {clocks : List Bus} → Standing cells work calm clocks → Holding cells work clocks
  holding (stands cpu older cells work calm n list doing task short spot) = record {
    is_rom = doing.is_rom;
    fitting = (served_of R held list older cells doing.fits doing.given).1;
    work_in = works_in R image held rom start list older cells work doing.fits doing.given doing.work_in;
    rom_in = doing.rom_in;
    spot = spot.0;
    on = spot.1;
  }

  -- a cycle more
  cycle_on : {cells : Cells} {work : ℕ → ℕ} {calm : ℕ} {clocks : List Bus} → Standing cells work calm clocks → (two : Two)
      → IsGiven R (at_rest held clocks cells) two → Asked rom cells work calm two.second.nmi two.second.m
      → Standing (cpus.clock cells (pins_of (cycle_of (at_rest held clocks cells) two))) (wrote cells work)
      (calm_in cells (cycle_of (at_rest held clocks cells) two) calm)
      (second_bus (at_rest held clocks cells) two ∷ first_bus (at_rest held clocks cells) two ∷ clocks)
  cycle_on (stands cpu older cells work calm n list doing task short spot) two given asked =
      moved_to (more_cells R held rom (acts two) list older cells) (more_works R held rom (acts two) list older cells work)
      (more_calms R held rom (acts two) list older cells calm) (more_older R held rom (acts two) list older cells)
      (by (cases_lt (suc (counted list)) n))
    where
      does : Doing R image held rom start cpu older cells work calm (list ++ acts two ∷ [])
      does = record {
        is_rom = doing.is_rom;
        fits = doing.fits;
        shares = doing.shares;
        work_in = doing.work_in;
        rom_in = doing.rom_in;
        given = more_given R held rom (acts two) list older cells doing.given (given, tt);
        asked = more_asked R held rom (acts two) list older cells work calm doing.asked (asked, tt);
      }

      by : (suc (counted list) < n) ⊎ (n ≤ suc (counted list))
          → Standing (cells_after held older cells (list ++ acts two ∷ []))
          (works cells (cycles_of (at_rest held older cells) (list ++ acts two ∷ [])) work)
          (calms cells (cycles_of (at_rest held older cells) (list ++ acts two ∷ [])) calm)
          (older_after held older cells (list ++ acts two ∷ []))
      by (inl less) = stands cpu older cells work calm n (list ++ acts two ∷ []) does task
          (let count = counts list two in omega (arith, count, less)) (both_clocks cpu older cells work calm n task list two short does)
      by (inr full) = done cpu older cells work calm task (list ++ acts two ∷ []) (list, two, refl)
          (let count = counts list two in omega (arith, count, full, short)) does

  -- a clock in which the processor waits
  wait_on : {cells : Cells} {work : ℕ → ℕ} {calm : ℕ} {clocks : List Bus} → Standing cells work calm clocks → (drive : Drive)
      → IsWaiting R (at_rest held clocks cells) drive
      → Standing cells work calm (wait_bus (at_rest held clocks cells) drive ∷ clocks)
  wait_on (stands cpu older cells work calm n list doing task short spot) drive given =
      moved_to (more_cells R held rom (idles drive) list older cells) (more_works R held rom (idles drive) list older cells work)
      (more_calms R held rom (idles drive) list older cells calm) (more_older R held rom (idles drive) list older cells)
      (stands cpu older cells work calm n (list ++ idles drive ∷ []) (record {
        is_rom = doing.is_rom;
        fits = doing.fits;
        shares = doing.shares;
        work_in = doing.work_in;
        rom_in = doing.rom_in;
        given = more_given R held rom (idles drive) list older cells doing.given (given, tt);
        asked = more_asked R held rom (idles drive) list older cells work calm doing.asked tt;
      }) task (let count = counts_idle list drive in omega (arith, count, short)) (
        spot.0,
        subst (λ k. On spot.0 k) (sym (more_older R held rom (idles drive) list older cells))
            (waits (wait_bus (then_at R held rom older cells list) drive) spot.1
            (wait_is R held (older_after held older cells list) (cells_after held older cells list) drive
            (served_of R held list older cells doing.fits doing.given).1 given) given.served (refl, refl)),
      ))

  -- the first clock of one
  half_on : {cells : Cells} {work : ℕ → ℕ} {calm : ℕ} {clocks : List Bus} → Standing cells work calm clocks → (two : Two)
      → IsGiven R (at_rest held clocks cells) two → Asked rom cells work calm two.second.nmi two.second.m
      → Spot R image held rom start (first_bus (at_rest held clocks cells) two ∷ clocks)
  half_on (stands cpu older cells work calm n list doing task short spot) two given asked =
      half cpu older cells work calm task list two short (record {
        is_rom = doing.is_rom;
        fits = doing.fits;
        shares = doing.shares;
        work_in = doing.work_in;
        rom_in = doing.rom_in;
        given = more_given R held rom (acts two) list older cells doing.given (given, tt);
        asked = more_asked R held rom (acts two) list older cells work calm doing.asked (asked, tt);
      })

  -- a reset begins anew, also that of power-up
  anew : (spot : Option (Cpu × ℕ)) → MayBoot spot → (cells : Cells) (work : ℕ → ℕ) (calm : ℕ) (clocks : List Bus) → On spot clocks → IsRom R
      → AllFit R held clocks cells → ((a : ℕ) → work a < 256) → ((a : ℕ) → rom a < 256) → cells.state ≡ 0 → cells.due ≡ 0
      → Standing cells work calm clocks
  anew spot may cells work calm clocks on is_rom fitting work_in rom_in begin free =
      stands (fresh_cpu R image held rom start cells work clocks fitting work_in rom_in) clocks cells work calm 2 [] (record {
        is_rom = is_rom;
        fits = fitting;
        shares = fresh_shares R image held rom start cells work clocks fitting work_in rom_in;
        work_in = work_in;
        rom_in = rom_in;
        given = tt;
        asked = tt;
      }) (wakes spot may on (fresh_holds R image held rom start cells work clocks fitting work_in rom_in) begin free) (omega arith) (spot, on)

  -- between two cycles, or amid one
  data Now : Machine → (ℕ → ℕ) → ℕ → List Bus → Type 0 where
    rests : {cells : Cells} {work : ℕ → ℕ} {calm : ℕ} {clocks : List Bus} → Standing cells work calm clocks
        → Now (at_rest held clocks cells) work calm clocks
    amid : {cells : Cells} {work : ℕ → ℕ} {calm : ℕ} {clocks : List Bus} → Standing cells work calm clocks → (drive : Drive)
        → Asks (at_rest held clocks cells) work calm (driven drive)
        → Now (clock (at_rest held clocks cells) (driven drive)) (work_after (at_rest held clocks cells) (driven drive) work)
        (calm_after (at_rest held clocks cells) (driven drive) calm) (drives_board (at_rest held clocks cells) (driven drive) ∷ clocks)

  abbrev drive_of : Pins → Drive
  drive_of pins = record {
    nmi = pins.nmi;
    hold = pins.hold;
    big = pins.big;
    rom = pins.rom;
    m = pins.m;
    undefined = pins.undefined;
  }

  abbrev Next : Machine → (ℕ → ℕ) → ℕ → List Bus → Pins → Type 0
  Next machine work calm clocks pins =
      Now (clock machine pins) (work_after machine pins work) (calm_after machine pins calm) (drives_board machine pins ∷ clocks)

  module _ {cells : Cells} {work : ℕ → ℕ} {calm : ℕ} {clocks : List Bus} (s : Standing cells work calm clocks) where
    abbrev here : Machine
    here = at_rest held clocks cells

    -- a reset, whether a cycle might begin or not
    resets_it : (drive : Drive) → Asks here work calm (resetting drive) → Next here work calm clocks (resetting drive)
    resets_it drive asks =
        let h = holding s in
        let bus = reset_bus held clocks cells drive in
        let on = resets bus h.on (reset_is R held clocks cells drive h.fitting asks.nmi asks.vector_rom asks.m) (served_by asks) (refl, refl) refl in
        rests (anew None tt (clock here (resetting drive)).cpu work calm (bus ∷ clocks) on h.is_rom
        (reset_fits R held clocks cells drive h.fitting asks.nmi asks.vector_rom asks.m) h.work_in h.rom_in refl refl)

    first_clock : (reset ready : ℕ) (drive : Drive) → reset < 2 → ready < 2 → Asks here work calm (pins_by reset ready drive)
        → Next here work calm clocks (pins_by reset ready drive)
    first_clock zero zero drive less less_ready asks =
        rests (wait_on s drive (record { rom = asks.vector_rom; served = served_by asks }))
    first_clock zero (suc zero) drive less less_ready asks = amid s drive asks
    first_clock (suc zero) zero drive less less_ready asks = resets_it drive (record {
      reset = asks.reset;
      ready = lit< tt;
      nmi = asks.nmi;
      vector_rom = asks.vector_rom;
      m = asks.m;
      big = asks.big;
      from_rom = asks.from_rom;
      answers = asks.answers;
      apart = asks.apart;
    })
    first_clock (suc zero) (suc zero) drive less less_ready asks = resets_it drive asks
    first_clock (suc (suc n)) ready drive less less_ready asks = absurd (omega (arith, less))
    first_clock reset (suc (suc n)) drive less less_ready asks = absurd (omega (arith, less_ready))

    -- what is asked of two clocks is asked of the cycle
    module _ (first : Drive) (asks : Asks here work calm (driven first)) where
      abbrev middle : Machine
      middle = clock here (driven first)

      same_work : write cells ≡ 0 → wrote cells work ≡ work
      same_work is = ap (λ w. if nat_eq w 1 && nat_lt (at cells) 0x200 then put (at cells) (dout cells) work else work) is

      abbrev Asked_then : (reset ready : ℕ) → Drive → Type 0
      Asked_then reset ready second =
          Asks middle (work_after here (driven first) work) (calm_after here (driven first) calm) (pins_by reset ready second)

      asked_by : (second : Drive) → Asked_then 0 0 second → Asked rom cells work calm second.nmi second.m
      asked_by second more = record {
        finds = λ is. subst (λ k. Finds rom k (at cells) second.m) (same_work is) (more.answers refl is);
        apart = more.apart;
      }

      -- in it a reset does nothing, nor does `ready`
      cycle_then : (second : Drive) → Asked_then 0 0 second
          → Next middle (work_after here (driven first) work) (calm_after here (driven first) calm)
          (drives_board here (driven first) ∷ clocks) (pins_by 0 0 second)
      cycle_then second more = rests (cycle_on s (record { first = first; second = second }) (record {
        nmi = more.nmi;
        first_rom = asks.vector_rom;
        second_rom = more.vector_rom;
        m = more.m;
        first = served_by asks;
        second = served_by more;
      }) (asked_by second more))

      plainly : {reset ready : ℕ} {second : Drive} → IsDriven R rom middle (work_after here (driven first) work)
          (calm_after here (driven first) calm) (pins_by reset ready second)
          → (pin.takes middle (pins_by 0 0 second) ≡ pin.takes middle (pins_by reset ready second)) → Asked_then 0 0 second
      plainly {reset} {ready} {second} more alike = record {
        reset = lit< tt;
        ready = lit< tt;
        nmi = more.nmi;
        vector_rom = more.vector_rom;
        m = more.m;
        big = more.big;
        from_rom = λ takes. more.from_rom (sym alike ∙ takes);
        answers = more.answers;
        apart = more.apart;
      }

      second_clock : (reset ready : ℕ) (second : Drive) → reset < 2 → ready < 2 → Asked_then reset ready second
          → Next middle (work_after here (driven first) work) (calm_after here (driven first) calm)
          (drives_board here (driven first) ∷ clocks) (pins_by reset ready second)
      second_clock zero zero second less less_ready more = cycle_then second more
      second_clock zero (suc zero) second less less_ready more = cycle_then second (plainly more refl)
      second_clock (suc zero) zero second less less_ready more = cycle_then second (plainly more refl)
      second_clock (suc zero) (suc zero) second less less_ready more = cycle_then second (plainly more refl)
      second_clock (suc (suc n)) ready second less less_ready more = absurd (omega (arith, less))
      second_clock reset (suc (suc n)) second less less_ready more = absurd (omega (arith, less_ready))

  tick : {machine : Machine} {work : ℕ → ℕ} {calm : ℕ} {clocks : List Bus} (pins : Pins) → Now machine work calm clocks
      → Asks machine work calm pins → Next machine work calm clocks pins
  tick pins (rests s) asks = first_clock s pins.reset pins.ready (drive_of pins) asks.reset asks.ready asks
  tick pins (amid s first driven_so) asks =
      second_clock s first driven_so pins.reset pins.ready (drive_of pins) asks.reset asks.ready asks

  now : {machine : Machine} {work : ℕ → ℕ} {calm : ℕ} {clocks : List Bus}
      → IsCellsRun R image held rom machine work calm clocks → Now machine work calm clocks
  now (whole.powers work calm is_rom is_image first held_in work_in rom_in) =
      rests (anew None tt zeros work calm [] (powers is_rom is_image first) is_rom
      (record { of_cells = fits.0; of_board = record { read = lit< tt; ran = lit< tt; ram = held_in } }) work_in rom_in refl refl)
  now (whole.ticks pins on asks) = tick pins (now on) asks

  -- a cycle can be ended
  module _ {cells : Cells} {work : ℕ → ℕ} {calm : ℕ} {clocks : List Bus} (s : Standing cells work calm clocks) (first : Drive)
      (asks : Asks (at_rest held clocks cells) work calm (driven first)) where
    abbrev ending : Two
    ending = record {
      first = first;
      second = drive_for R (clock (at_rest held clocks cells) (driven first)).board cells.was 0 (answer rom work 0 (at cells));
    }

    ends_given : IsGiven R (at_rest held clocks cells) ending
    ends_given = record {
      nmi = (holding s).fitting.of_cells.was;
      first_rom = asks.vector_rom;
      second_rom = below R (recursion_from_All (λ byte. byte < 256) R (holding s).is_rom.bytes) _;
      m = answer_small rom work 0 (at cells) (lit< tt) (holding s).work_in (holding s).rom_in;
      first = served_by asks;
      second = record { big = refl; rom = λ takes from to. refl };
    }

    never : (was : ℕ) → was < 2 → (nat_eq was 1 && nat_eq was 0) ≡ true → ⊥
    never (suc (suc n)) less e = absurd (omega (arith, less))
    never _ less e = cc

    ends_asked : Asked rom cells work calm cells.was (answer rom work 0 (at cells))
    ends_asked = record {
      finds = λ is. answer_finds rom work 0 (at cells);
      apart = λ rise. absurd (never cells.was (holding s).fitting.of_cells.was rise);
    }

    mid : Spot R image held rom start (first_bus (at_rest held clocks cells) ending ∷ clocks)
    mid = half_on s ending ends_given ends_asked

  -- so its clocks are those of a cabinet
  record Found (machine : Machine) (clocks : List Bus) : Type 0 where
    spot : Option (Cpu × ℕ)
    on : On spot clocks
    board : machine.board ≡ after held clocks
    registers : machine.answers ≡ 0 → sync machine.cpu ≡ 1 → StandAt machine.cpu spot ⊎ AreBooting rom start spot machine.cpu

  find : {machine : Machine} {work : ℕ → ℕ} {calm : ℕ} {clocks : List Bus} → Now machine work calm clocks → Found machine clocks
  find (rests {cells} {work} {calm} {clocks} s) = by (nat_eq (sync cells) 1) refl
    where
      by : (t : Bool) → nat_eq (sync cells) 1 ≡ t → Found (at_rest held clocks cells) clocks
      by true high =
          let here = at_opcode s (eqb-true (sync cells) 1 high) in
          record { spot = here.0; on = here.1; board = refl; registers = λ rest high. here.2 }
      by false low =
          let h = holding s in record {
            spot = h.spot;
            on = h.on;
            board = refl;
            registers = λ rest high. absurd (let e = sym low ∙ ap (λ n. nat_eq n 1) high in cc);
          }
  find (amid s first asks) =
      let one = mid s first asks in record { spot = one.0; on = one.1; board = refl; registers = λ rest. absurd (cc) }

  -- and what is said of a cabinet is said of the cells
  of_cabinet : OfEachMachine (λ R image held calls log clocks. HoldsRam image held log clocks)
      → ((spot : Option (Cpu × ℕ)) (clocks : List Bus) → On spot clocks → GameKeepsHeadline R image held clocks)
      → (machine : Machine) (work : ℕ → ℕ) (calm : ℕ) (clocks : List Bus)
      → IsCellsRun R image held rom machine work calm clocks → CellsKeep R image held rom start machine clocks
  of_cabinet memory keeps machine work calm clocks on =
      let one = find (now on) in
      let kept = keeps one.spot clocks one.on in
      let draw = alike_draw kept.alike in record {
        spot = one.spot;
        game = one.on;
        registers = one.registers;
        keeps = kept;
        board = one.board;
        draw = (ap (λ (b : Board). b.core) one.board ∙ draw.0, ap (λ (b : Board). b.ram) one.board ∙ draw.1);
        memory = λ a less. ap (λ (m : ℕ → ℕ). m a) draw.1 ∙ memory R image held kept.calls kept.log kept.shown kept.machine a less;
      }

pub games_on_cells_keep : Laws → GamesKeep
    → OfEachMachine (λ R image held calls log clocks. HoldsRam image held log clocks) → GamesOnCellsKeep
games_on_cells_keep laws keeps memory R image held rom start notes accepted content machine work calm clocks on =
    let game : IsAccepted rom start = record { notes = notes; yes = accepted } in
    of_cabinet laws R image held rom start game (by_content R (on_board laws R image held) game content) memory
    (keeps R image held rom start notes accepted content) machine work calm clocks on

pub vectors_on_cells_keep : Laws → VectorsKeep
    → OfEachMachine (λ R image held calls log clocks. HoldsRam image held log clocks) → VectorsOnCellsKeep
vectors_on_cells_keep laws keeps memory R image held rom start notes accepted offers puts pairs machine work calm clocks on =
    let game : IsAccepted rom start = record { notes = notes; yes = accepted } in
    of_cabinet laws R image held rom start game (by_bytes R (on_board laws R image held) game offers puts pairs) memory
    (keeps R image held rom start notes accepted offers puts pairs) machine work calm clocks on
