-- Each run of the circuit is a run of a machine of cells, with no premise on memory and NMIs. So a
-- game's law on the circuit has no premise but the game's bytes.
use Rattle.std.specs.Prelude.{◌≡◌, ℕ, ◌+◌, ◌%◌, ◌<◌, true, All, List, length, slice_index}
use Rattle.dvg_mem.specs.Memory.{IsImage, IsRom}
use Rattle.dvg_frame.specs.declared.op.OpKind.{OpKind}
use Rattle.dvg_game_rules.specs.Checker.{Notes, accepts}
use Rattle.dvg_game_rules.specs.Asteroid as asteroid
use Rattle.dvg_game_rules.specs.Rocks as rocks
use Rattle.dvg_game_content.specs.Brings.{Ways, brings}
use Rattle.dvg_closed_board.specs.AsteroidContent as asteroid_content
use Rattle.dvg_closed_board.specs.RocksContent as rocks_content
use Rattle.dvg_game_cells.specs.Whole.{IsCellsRun}
use Rattle.dvg_game_circuit.specs.Game.{Bus}
use Rattle.dvg_game_circuit.specs.Circuit.{Held, IsBus, HoldsGame, CircuitKeeps, after, machine_of, board_clocks}

-- whatever came since power-up, its processor and its board are cells of a machine whose memory has these ROMs, with some
-- work RAM, and so many cycles since the last NMI
abbrev pub CircuitsAreWhole : Type 0
CircuitsAreWhole = (R image : List ℕ) (rom : ℕ → ℕ) (held : Held) → IsRom R → length R ≡ 2048 → ((a : ℕ) → rom a < 256)
    → HoldsGame R image rom held → (clocks : List Bus) → All IsBus clocks
    → (work : ℕ → ℕ) × (calm : ℕ)
    × IsCellsRun R image held.ram rom (machine_of (after held clocks)) work calm (board_clocks held clocks)

-- where two tests of a game's bytes say so, with notes of them that nobody has to trust, the circuit with these bytes in its
-- ROMs keeps this, whatever came
abbrev pub CircuitsKeepByBytes : Type 0
CircuitsKeepByBytes = (R image : List ℕ) (rom : ℕ → ℕ) (start : ℕ) (notes : Notes) (ways : Ways) (drafts : ℕ → List OpKind)
    → accepts rom start notes ≡ true → brings R rom start notes ways drafts ≡ true → IsRom R → length R ≡ 2048
    → ((a : ℕ) → rom a < 256) → (held : Held) → HoldsGame R image rom held → (clocks : List Bus) → All IsBus clocks
    → CircuitKeeps R image rom start held clocks

-- of a game: the circuit with these bytes, whatever bytes stand beside them, and with this vector ROM; whatever its RAM held
-- at power-up, and its pins were in each clock
abbrev pub KeepsOnCircuit : (R : List ℕ) → (rom : (ℕ → ℕ) → ℕ → ℕ) → (start : ℕ) → Type 0
KeepsOnCircuit R rom start = (other : ℕ → ℕ) (image : List ℕ) (held : Held) → ((a : ℕ) → other a < 256)
    → HoldsGame R image (rom other) held → (clocks : List Bus) → All IsBus clocks
    → CircuitKeeps R image (rom other) start held clocks

abbrev pub Asteroid : Type 0
Asteroid = KeepsOnCircuit asteroid_content.shapes asteroid.rom asteroid.start

abbrev pub Rocks : Type 0
Rocks = KeepsOnCircuit rocks_content.shapes rocks.rom rocks.start

-- a game's ROM, its vector ROM repeated beside the program; and the memories that these two fill
abbrev pub with_shapes : (R : List ℕ) → (rom : (ℕ → ℕ) → ℕ → ℕ) → ℕ → ℕ
with_shapes R rom = rom (λ a. slice_index R (a % 0x800))

abbrev pub loaded : (R : List ℕ) → (rom work ram : ℕ → ℕ) → Held
loaded R rom work ram = record { code = λ a. rom (a + 0x6000); shapes = slice_index R; work = work; ram = ram }

-- so there are such memories, with any bytes in both RAMs; and a run goes on by any clock, since it is a list of these
abbrev pub CanBeLoaded : (R : List ℕ) → (rom : (ℕ → ℕ) → ℕ → ℕ) → Type 0
CanBeLoaded R rom = (work ram : ℕ → ℕ) (image : List ℕ) → ((a : ℕ) → work a < 256) → ((a : ℕ) → ram a < 256)
    → IsImage image → ((a : ℕ) → a < 2048 → ram a ≡ slice_index image a)
    → ((a : ℕ) → slice_index R (a % 0x800) < 256)
    × HoldsGame R image (with_shapes R rom) (loaded R (with_shapes R rom) work ram)

abbrev pub GamesLoad : Type 0
GamesLoad = CanBeLoaded asteroid_content.shapes asteroid.rom × CanBeLoaded rocks_content.shapes rocks.rom
