-- The processor and the board of the circuit go as those of dvg_machine, whose pins are driven like this.
use Rattle.std.proofs.Common.{◌≡◌, ℕ, refl}
use Rattle.dvg_cells_core.specs.Cells.{either, eq, mux, none, part, joined}
use Rattle.dvg_cells_cpu.specs.Cpu.{at}
use Rattle.dvg_cells_motion.specs.Vectors as vectors
use Rattle.dvg_cells_motion.specs.Pace.{hold}
use Rattle.dvg_calls_cells.specs.Machine.{Bus as Pins, drives_board}
use Rattle.dvg_calls_cells.specs.Machine as machine
use Rattle.dvg_game_circuit.specs.Game.{Game, Bus, clock, drives_vectors}
use Rattle.dvg_game_circuit.specs.Circuit.{machine_of}

-- what a read finds where the board doesn't answer
abbrev pub input_at : (a held beat : ℕ) → ℕ
input_at a held beat =
    let eight = mux (part 10 1 a) (part 8 8 held) (joined 1 (part 0 1 held) (joined 1 (part 8 1 beat) (joined 1 0 (part 3 5 held)))) in
    let four = mux (part 2 1 a) (part 4 4 eight) (part 0 4 eight) in
    let two = mux (part 1 1 a) (part 2 2 four) (part 0 2 four) in
    mux (part 0 1 a) (part 1 1 two) (part 0 1 two)

abbrev pub setting_at : (a switches : ℕ) → ℕ
setting_at a switches =
    let pairs = mux (part 1 1 a) (part 4 4 switches) (part 0 4 switches) in
    mux (part 0 1 a) (part 2 2 pairs) (part 0 2 pairs)

abbrev pub byte_of_input : ℕ → ℕ
byte_of_input is_held =
    let n = none is_held in joined 1 n (joined 1 n (joined 1 n (joined 1 n (joined 1 n (joined 1 n (joined 1 n is_held))))))

abbrev pub found_at : (a held beat switches work_byte code_byte : ℕ) → ℕ
found_at a held beat switches work_byte code_byte =
    mux (none (part 10 6 a)) work_byte
    (mux (eq (part 11 5 a) 4) (byte_of_input (input_at a held beat))
    (mux (eq (part 10 6 a) 10) (joined 2 (setting_at a switches) 63) code_byte))

abbrev pub pins_of : Game → Bus → Pins
pins_of game bus = record {
  reset = either bus.reset game.bites;
  ready = bus.ready;
  nmi = eq game.periods 12;
  hold = hold game.vectors.pace;
  big = 0;
  rom = game.shapes_byte;
  m = found_at (at game.cpu) bus.held game.beat bus.switches game.work_byte game.code_byte;
  undefined = bus.undefined;
}

pub projects : (game : Game) (bus : Bus) → machine.clock (machine_of game) (pins_of game bus) ≡ machine_of (clock game bus)
projects game bus = refl

pub drives : (game : Game) (bus : Bus)
    → drives_board (machine_of game) (pins_of game bus) ≡ vectors.drives_board game.vectors (drives_vectors game bus)
drives game bus = refl
