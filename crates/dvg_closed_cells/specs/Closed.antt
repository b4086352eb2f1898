-- A game on cells, with no premise on what it does: by its bytes, or of these bytes.
use Rattle.std.specs.Prelude.{◌≡◌, ℕ, ◌<◌, true, List, [], slice_index}
use Rattle.dvg_mem.specs.Memory.{IsImage}
use Rattle.dvg_frame.specs.declared.op.OpKind.{OpKind}
use Rattle.dvg_cells_board.specs.Board.{Bus}
use Rattle.dvg_game_rules.specs.Checker.{Notes, accepts}
use Rattle.dvg_game_rules.specs.First as first
use Rattle.dvg_game_rules.specs.Bat as bat
use Rattle.dvg_game_rules.specs.Asteroid as asteroid
use Rattle.dvg_game_rules.specs.Rocks as rocks
use Rattle.dvg_game_rules.specs.TestRom as test_rom
use Rattle.dvg_game_content.specs.Brings.{Ways, brings}
use Rattle.dvg_calls_cells.specs.Machine.{Machine, powered}
use Rattle.dvg_closed_board.specs.FirstContent as first_content
use Rattle.dvg_closed_board.specs.BatContent as bat_content
use Rattle.dvg_closed_board.specs.AsteroidContent as asteroid_content
use Rattle.dvg_closed_board.specs.RocksContent as rocks_content
use Rattle.dvg_closed_board.specs.TestRomContent as test_rom_content
use Rattle.dvg_game_cells.specs.Whole.{IsCellsRun}
use Rattle.dvg_game_cells.specs.Keeps.{CellsKeep}

-- where two tests of a game's bytes say so, with notes of them that nobody has to trust, each run of the cells keeps this
abbrev pub GamesOnCellsKeepByBytes : Type 0
GamesOnCellsKeepByBytes = (R image : List ℕ) (held rom : ℕ → ℕ) (start : ℕ) (notes : Notes) (ways : Ways)
    (drafts : ℕ → List OpKind) → accepts rom start notes ≡ true → brings R rom start notes ways drafts ≡ true
    → (machine : Machine) (work : ℕ → ℕ) (calm : ℕ) (clocks : List Bus)
    → IsCellsRun R image held rom machine work calm clocks → CellsKeep R image held rom start machine clocks

-- of a game: each run of the cells with these bytes, whatever stands beside them, and with this vector ROM
abbrev pub KeepsOnCells : (R : List ℕ) → (rom : (ℕ → ℕ) → ℕ → ℕ) → (start : ℕ) → Type 0
KeepsOnCells R rom start = (other : ℕ → ℕ) (image : List ℕ) (held : ℕ → ℕ) (machine : Machine) (work : ℕ → ℕ) (calm : ℕ)
    (clocks : List Bus) → IsCellsRun R image held (rom other) machine work calm clocks
    → CellsKeep R image held (rom other) start machine clocks

abbrev pub First : Type 0
First = KeepsOnCells first_content.shapes first.rom first.start

abbrev pub Bat : Type 0
Bat = KeepsOnCells bat_content.shapes bat.rom bat.start

abbrev pub Asteroid : Type 0
Asteroid = KeepsOnCells asteroid_content.shapes asteroid.rom asteroid.start

abbrev pub Rocks : Type 0
Rocks = KeepsOnCells rocks_content.shapes rocks.rom rocks.start

abbrev pub TestRom : Type 0
TestRom = KeepsOnCells test_rom_content.shapes test_rom.rom test_rom.start

-- and there are such runs: it can be powered, whatever the RAMs hold (and each run goes on by a clock: RunsGoOn of dvg_game_cells)
abbrev pub PoweredOn : (R : List ℕ) → (rom : (ℕ → ℕ) → ℕ → ℕ) → Type 0
PoweredOn R rom = (other : ℕ → ℕ) (image : List ℕ) (held work : ℕ → ℕ) (calm : ℕ) → ((b : ℕ) → other b < 256)
    → IsImage image → ((a : ℕ) → a < 2048 → held a ≡ slice_index image a) → ((a : ℕ) → held a < 256)
    → ((a : ℕ) → work a < 256) → IsCellsRun R image held (rom other) (powered held) work calm []

abbrev pub CanBePowered : Type 0
CanBePowered = PoweredOn first_content.shapes first.rom × PoweredOn bat_content.shapes bat.rom
    × PoweredOn asteroid_content.shapes asteroid.rom × PoweredOn rocks_content.shapes rocks.rom
    × PoweredOn test_rom_content.shapes test_rom.rom
