-- Each run of the circuit is a run of cells of a machine.
use Rattle.std.proofs.Common.{◌≡◌, ℕ, ◌<◌, Bool, true, false, List, [], ◌∷◌, length, refl, sym, ap, ◌∙◌, subst, arith, lit<, eqb-true}
use Rattle.std.specs.Prelude.{All, nat_eq, not, ◌&&◌, ◌==◌, if◌then◌else◌}
use Rattle.std.proofs.lemmas.List.Elements.{All-cons, All-head, All-nil, All-tail}
use Rattle.dvg_mem.specs.Memory.{IsRom}
use Rattle.dvg_cells_core.specs.Cells.{bit, both, either, eq, mux, none, part}
use Rattle.dvg_cells_core.specs.Core.{halted}
use Rattle.dvg_cells_board.specs.Board as board
use Rattle.dvg_cells_motion.specs.Pace.{hold}
use Rattle.dvg_cells_motion.specs.Vectors as vectors
use Rattle.dvg_cells_motion.specs.Machine as drawn
use Rattle.dvg_cells_cpu.specs.Cpu.{Cpu as Cells, at, dout, write}
use Rattle.dvg_cells_cpu.specs.Cpu as cpus
use Rattle.dvg_cells_cpu.specs.Widths.{Fits}
use Rattle.dvg_cells_cpu.proofs.Bounds.{both_in, either_in, mux_in, bit_in}
use Rattle.dvg_cells_cpu.proofs.LawOfWidths.{fits}
use Rattle.dvg_cells_cpu.proofs.EachOpcode.{waits}
use Rattle.dvg_calls_cells.specs.Machine as machines
use Rattle.dvg_calls_cells.proofs.Fits.{BoardFits, board_fits, q_in}
use Rattle.dvg_game_cells.specs.Whole.{IsDriven, IsCellsRun, powers, ticks, calm_after, work_after}
use Rattle.dvg_game_circuit.specs.Game.{Game, Bus, clock, drives_cpu, drives_vectors}
use Rattle.dvg_game_circuit.specs.Circuit.{Held, IsBus, HoldsGame, after, machine_of, board_clocks, vector_clocks}
use Rattle.dvg_game_circuit.specs.Laws.{CircuitsAreWhole}
use Rattle.dvg_game_circuit.proofs.Projection.{found_at, pins_of}
use Rattle.dvg_game_circuit.proofs.NmisApart.{Timed, timed_on}
use Rattle.dvg_game_circuit.proofs.Shapes.{both_left, both_one, both_right, high_in, none_some, place_of, read_on, taken_is}
use Rattle.dvg_game_circuit.proofs.OwnMemoryReads.{both_tests, code_place, finds, found_in}
use Rattle.dvg_game_circuit.proofs.WorkRam.{bytes_on, byte_read, place, same_on, work_by}

-- a cycle begins where none is open, `ready` is high and nothing is reset
begins : (ready answers restarts : ℕ) → mux ready (both (none answers) (none restarts)) 0 ≡ 1 → (answers ≡ 0) × (restarts ≡ 0)
begins ready answers restarts = by (nat_eq ready 0)
  where
    by : (t : Bool) → (if t then 0 else both (none answers) (none restarts)) ≡ 1 → (answers ≡ 0) × (restarts ≡ 0)
    by true e = absurd (omega arith)
    by false e = (none_some answers (both_left (none answers) (none restarts) e), none_some restarts (both_right (none answers) (none restarts) e))

not_amid : (ready answers restarts : ℕ) → answers ≡ 1 → mux ready (both (none answers) (none restarts)) 0 ≡ 0
not_amid ready answers restarts e = rw e (by (nat_eq ready 0))
  where
    by : (t : Bool) → ◌≡◌ {A = ℕ} (if t then 0 else 0) 0
    by true = refl
    by false = refl

rises_at : (answers nmi was : ℕ) → (nat_eq answers 1 && (nat_eq nmi 1 && nat_eq was 0)) ≡ true → (nmi ≡ 1) × (was ≡ 0)
rises_at answers nmi was e =
    let one = both_tests (nat_eq answers 1) (nat_eq nmi 1 && nat_eq was 0) e in
    let two = both_tests (nat_eq nmi 1) (nat_eq was 0) one.1 in (eqb-true nmi 1 two.0, eqb-true was 0 two.1)

twelfth : (periods : ℕ) → eq periods 12 ≡ 1 → periods ≡ 12
twelfth periods e = eqb-true periods 12 (by (nat_eq periods 12) e)
  where
    by : (t : Bool) → bit t ≡ 1 → t ≡ true
    by true e = refl
    by false e = absurd (omega arith)

module _ (R image : List ℕ) (rom : ℕ → ℕ) (held : Held) (is_rom : IsRom R) (count : length R ≡ 2048) (rom_in : (a : ℕ) → rom a < 256)
    (loaded : HoldsGame R image rom held) where
  -- what holds between two clocks
  pub record Stands (game : Game) (work : ℕ → ℕ) (calm : ℕ) (clocks : List board.Bus) : Type 0 where
    pub whole : IsCellsRun R image held.ram rom (machine_of game) work calm clocks
    pub code : game.code ≡ held.code
    pub shapes : game.shapes ≡ held.shapes
    pub answers_in : game.answers < 2
    pub cpu : Fits game.cpu
    pub board : BoardFits game.vectors.board
    pub high : game.vectors.board.core.high < 2
    pub work_in : game.work_byte < 256
    pub code_in : game.code_byte < 256
    pub shapes_in : game.shapes_byte < 256
    pub ram_in : (b : ℕ) → game.work b < 256
    pub same : (b : ℕ) → b < 0x200 → game.work b ≡ work b
    -- in the second clock of a cycle, what the first one read
    pub read_work : game.answers ≡ 1 → write game.cpu ≡ 0 → at game.cpu < 0x200 → game.work_byte ≡ work (at game.cpu)
    pub read_code : game.answers ≡ 1 → game.code_byte ≡ held.code (code_place (at game.cpu))
    -- and where the board takes a byte
    pub read_shapes : nat_eq game.vectors.board.pending 0 ≡ false → game.shapes_byte ≡ held.shapes (place_of game.vectors.board)
    pub timed : Timed game.answers game.worked game.beat game.periods game.cpu.was calm

  abbrev pub Spot : Game → List board.Bus → Type 0
  Spot game clocks = (work : ℕ → ℕ) × (calm : ℕ) × Stands game work calm clocks

  module _ (game : Game) (work : ℕ → ℕ) (calm : ℕ) (clocks : List board.Bus) (s : Stands game work calm clocks) (bus : Bus) (is : IsBus bus) where
    abbrev pub restarts : ℕ
    restarts = either bus.reset game.bites

    abbrev pub access : ℕ
    access = mux bus.ready (both (none game.answers) (none restarts)) 0

    abbrev taken : ℕ
    taken = both bus.tick (none game.ticked)

    abbrev found : ℕ
    found = found_at (at game.cpu) bus.held game.beat bus.switches game.work_byte game.code_byte

    access_in : access < 2
    access_in = mux_in bus.ready (both (none game.answers) (none restarts)) 0 2 (both_in (none game.answers) (none restarts)) (lit< tt)

    at_in : at game.cpu < 65536
    at_in = (fits.2 game.cpu s.cpu).0

    write_in : write game.cpu < 2
    write_in = (fits.2 game.cpu s.cpu).1

    dout_in : dout game.cpu < 256
    dout_in = (fits.2 game.cpu s.cpu).2

    m_in : found < 256
    m_in = found_in (at game.cpu) bus.held game.beat bus.switches game.work_byte game.code_byte s.work_in s.code_in

    asked : machines.takes (machine_of game) (pins_of game bus) ≡ 1 → nat_eq game.vectors.board.pending 0 ≡ false
    asked e =
        let one = both_one game.vectors.board.pending (none (both restarts (none game.answers)))
        (both_left (both game.vectors.board.pending (none (both restarts (none game.answers)))) (none game.vectors.board.starting) e) in
        both_left game.vectors.board.pending (none (both restarts (none game.answers))) one

    driven : IsDriven R rom (machine_of game) work calm (pins_of game bus)
    driven = record {
      reset = either_in bus.reset game.bites;
      ready = is.ready;
      nmi = bit_in (nat_eq game.periods 12);
      vector_rom = s.shapes_in;
      m = m_in;
      big = ap (λ n. bit (not (n == 2048))) (sym count);
      from_rom = λ e. taken_is R held.shapes game.vectors.board.core.at game.vectors.board.core.high game.shapes_byte count
          loaded.shapes s.high (s.read_shapes (asked e));
      answers = λ amid reads. finds (at game.cpu) bus.held game.beat bus.switches game.work_byte game.code_byte held.code rom work
          loaded.program at_in (s.read_work amid reads) (s.read_code amid);
      apart = λ e. let two = rises_at game.answers (eq game.periods 12) game.cpu.was e in
          s.timed.unseen (twelfth game.periods two.0) two.1;
    }

    -- in the first clock of a cycle the processor stays as it is
    abbrev pub waiting : (reset step : ℕ) → cpus.Pins
    waiting reset step = record { reset = reset; step = step; nmi = eq game.periods 12; din = (drives_cpu game bus).din }

    pub kept : access ≡ 1 → cpus.clock game.cpu (drives_cpu game bus) ≡ game.cpu
    kept e = let two = begins bus.ready game.answers restarts e in
        ap (λ n. cpus.clock game.cpu (waiting (both restarts (none game.answers)) n)) two.0
        ∙ ap (λ n. cpus.clock game.cpu (waiting (both n (none game.answers)) 0)) two.1
        ∙ waits game.cpu (eq game.periods 12) (drives_cpu game bus).din

    -- what was read is of the place where the processor still is
    abbrev work' : ℕ → ℕ
    work' = work_by access (write game.cpu) (at game.cpu) (dout game.cpu) work

    abbrev work_read : ℕ
    work_read = mux (both (both access (write game.cpu)) (none (part 10 6 (at game.cpu)))) game.work_byte
        (game.work (place (at game.cpu) game.bank))

    abbrev ReadsWork : Cells → Type 0
    ReadsWork cells = write cells ≡ 0 → at cells < 0x200 → work_read ≡ work' (at cells)

    unwritten : access ≡ 1 → write game.cpu ≡ 0 → work' ≡ work
    unwritten e f = ap (λ n. work_by n (write game.cpu) (at game.cpu) (dout game.cpu) work) e
        ∙ ap (λ n. work_by 1 n (at game.cpu) (dout game.cpu) work) f

    reads_work : access ≡ 1 → ReadsWork game.cpu
    reads_work e reads less =
        byte_read (at game.cpu) (dout game.cpu) game.bank bus.undefined game.work work at_in s.same access (write game.cpu)
        game.work_byte reads less ∙ sym (ap (λ (w : ℕ → ℕ). w (at game.cpu)) (unwritten e reads))

    reads_code : (cells : Cells) → cells ≡ game.cpu → game.code (code_place (at game.cpu)) ≡ held.code (code_place (at cells))
    reads_code cells e = ap (λ (c : ℕ → ℕ). c (code_place (at game.cpu))) s.code ∙ ap (λ (c : Cells). held.code (code_place (at c))) (sym e)

    din_in : (drives_cpu game bus).din < 256
    din_in = mux_in (either (either (eq (part 11 5 (at game.cpu)) 8) (eq (at game.cpu) 8194)) (eq (at game.cpu) 12288))
        (board.q game.vectors.board (vectors.drives_board game.vectors (drives_vectors game bus))) found 256
        (q_in game.vectors.board (vectors.drives_board game.vectors (drives_vectors game bus)) s.board) m_in

    work_read_in : work_read < 256
    work_read_in = mux_in (both (both access (write game.cpu)) (none (part 10 6 (at game.cpu)))) game.work_byte
        (game.work (place (at game.cpu) game.bank)) 256 s.work_in (s.ram_in (place (at game.cpu) game.bank))

    same_byte : (f g : ℕ → ℕ) (a : ℕ) → f ≡ g → f a ≡ g a
    same_byte f g a e = ap (λ (h : ℕ → ℕ). h a) e

    byte_of : (f g : ℕ → ℕ) (a : ℕ) → f ≡ g → ((b : ℕ) → g b < 256) → f a < 256
    byte_of f g a e all = subst (λ n. n < 256) (sym (same_byte f g a e)) (all a)

    abbrev on : board.Bus
    on = vectors.drives_board game.vectors (drives_vectors game bus)

    stands_on : Stands (clock game bus) (work_after (machine_of game) (pins_of game bus) work) (calm_after (machine_of game) (pins_of game bus) calm)
        (vectors.drives_board game.vectors (drives_vectors game bus) ∷ clocks)
    stands_on = record {
      whole = ticks (pins_of game bus) s.whole driven;
      code = s.code;
      shapes = s.shapes;
      answers_in = access_in;
      cpu = fits.1 game.cpu (drives_cpu game bus) s.cpu (bit_in (nat_eq game.periods 12)) din_in;
      board = board_fits game.vectors.board on s.board dout_in;
      high = high_in game.vectors.board.core (board.pins game.vectors.board on) s.high;
      work_in = work_read_in;
      code_in = byte_of game.code held.code (code_place (at game.cpu)) s.code loaded.code_bytes;
      shapes_in = byte_of game.shapes held.shapes (place_of game.vectors.board) s.shapes loaded.shapes_bytes;
      ram_in = bytes_on access (write game.cpu) (at game.cpu) (dout game.cpu) game.bank bus.undefined game.work dout_in s.ram_in;
      same = same_on (at game.cpu) (dout game.cpu) game.bank bus.undefined game.work work at_in s.same access (write game.cpu)
          access_in write_in;
      read_work = λ e. subst ReadsWork (sym (kept e)) (reads_work e);
      read_code = λ e. reads_code (clock game bus).cpu (kept e);
      read_shapes = λ e. same_byte game.shapes held.shapes (place_of game.vectors.board) s.shapes
          ∙ read_on held.shapes game.vectors.board on (both_one (both (both (none (halted game.vectors.board.core))
          (none (hold game.vectors.pace))) (none (either (either on.reset game.vectors.board.starting) game.vectors.board.pending)))
          (none (both access (eq (part 11 5 (at game.cpu)) 8))) e);
      timed = timed_on game.answers game.worked game.beat game.periods game.cpu.was calm s.timed s.answers_in s.cpu.was access taken
          access_in (both_in bus.tick (none game.ticked)) (not_amid bus.ready game.answers restarts)
          (both restarts (none game.answers)) (part 7 1 bus.held) (both_in restarts (none game.answers));
    }

  powers_on : Stands (after held []) held.work 5200 []
  powers_on = record {
    whole = powers held.work 5200 is_rom loaded.whole loaded.ram loaded.ram_bytes loaded.work_bytes rom_in;
    code = refl;
    shapes = refl;
    answers_in = lit< tt;
    cpu = fits.0;
    board = record { read = lit< tt; ran = lit< tt; ram = loaded.ram_bytes };
    high = lit< tt;
    work_in = lit< tt;
    code_in = lit< tt;
    shapes_in = lit< tt;
    ram_in = loaded.work_bytes;
    same = λ b less. refl;
    read_work = λ e. absurd (omega arith);
    read_code = λ e. absurd (omega arith);
    read_shapes = λ e. absurd (cc);
    timed = record {
      worked_in = lit< tt;
      beat_in = lit< tt;
      periods_in = omega arith;
      late = omega arith;
      unseen = λ e. absurd (omega arith);
    };
  }

  pub stands : (clocks : List Bus) → All IsBus clocks → Spot (after held clocks) (board_clocks held clocks)
  stands [] all = (held.work, 5200, powers_on)
  stands (bus ∷ clocks) all =
      let before = stands clocks (All-tail IsBus bus clocks all) in
      let game = after held clocks in (
        work_after (machine_of game) (pins_of game bus) before.0,
        calm_after (machine_of game) (pins_of game bus) before.1,
        stands_on game before.0 before.1 (board_clocks held clocks) before.2 bus (All-head IsBus bus clocks all),
      )

  pub circuits_are_whole : (clocks : List Bus) → All IsBus clocks
      → (work : ℕ → ℕ) × (calm : ℕ) × IsCellsRun R image held.ram rom (machine_of (after held clocks)) work calm (board_clocks held clocks)
  circuits_are_whole clocks all = let at_last = stands clocks all in (at_last.0, at_last.1, at_last.2.whole)

  -- the pins of its vectors are bits and bytes, in each clock
  pub vectors_driven : (clocks : List Bus) → All IsBus clocks → All drawn.IsBus (vector_clocks held clocks)
  vectors_driven [] all = All-nil drawn.IsBus
  vectors_driven (bus ∷ clocks) all =
      let before = (stands clocks (All-tail IsBus bus clocks all)).2 in
      let game = after held clocks in
      All-cons drawn.IsBus (drives_vectors game bus) (vector_clocks held clocks) (record {
        tick = both_in bus.tick (none game.ticked);
        reset = both_in (either bus.reset game.bites) (none game.answers);
        d = (fits.2 game.cpu before.cpu).2;
        rom = before.shapes_in;
      }) (vectors_driven clocks (All-tail IsBus bus clocks all))

pub vectors_after : (held : Held) (clocks : List Bus) → (after held clocks).vectors ≡ drawn.after held.ram (vector_clocks held clocks)
vectors_after held [] = refl
vectors_after held (bus ∷ clocks) =
    ap (λ (v : vectors.Vectors). vectors.clock v (drives_vectors (after held clocks) bus)) (vectors_after held clocks)

pub whole : CircuitsAreWhole
whole R image rom held is_rom count rom_in loaded = circuits_are_whole R image rom held is_rom count rom_in loaded
