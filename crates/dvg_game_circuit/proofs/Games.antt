-- What is said of a game on cells is said of it on the circuit.
use Rattle.std.proofs.Common.{◌≡◌, ℕ, zero, suc, ◌+◌, ◌-◌, ◌%◌, ◌<◌, ◌≤◌, List, [], ◌∷◌, length, refl, sym, ap, ◌∙◌, arith, lit<, le-leb, inl, inr}
use Rattle.std.specs.Prelude.{◌⊎◌, All, slice_index}
use Rattle.std.proofs.lemmas.Bool.{cases_lt}
use Rattle.std.proofs.lemmas.List.Elements.{recursion_from_All}
use Rattle.std.specs.List.{AllByRecursion}
use Rattle.dvg_mem.specs.Memory.{IsRom}
use Rattle.dvg_cells_board.specs.Board as board
use Rattle.dvg_calls_cells.specs.Machine.{Machine}
use Rattle.dvg_game_rules.specs.Written.{rom_of}
use Rattle.dvg_game_rules.specs.Asteroid as asteroid_game
use Rattle.dvg_game_rules.specs.Rocks as rocks_game
use Rattle.dvg_closed_board.specs.AsteroidContent as asteroid_content
use Rattle.dvg_closed_board.specs.RocksContent as rocks_content
use Rattle.dvg_game_cells.specs.Whole.{IsCellsRun, powers, ticks}
use Rattle.dvg_game_cells.specs.Keeps.{CellsKeep}
use Rattle.dvg_closed_cells.specs.Closed.{CanBePowered, GamesOnCellsKeepByBytes, KeepsOnCells, PoweredOn}
use Rattle.dvg_closed_cells.specs.Closed as closed
use Rattle.dvg_game_circuit.specs.Game.{Bus}
use Rattle.dvg_game_circuit.specs.Circuit.{CircuitKeeps, Held, IsBus, HoldsGame, after, board_clocks, machine_of, read}
use Rattle.dvg_game_circuit.specs.Laws.{Asteroid, CanBeLoaded, CircuitsKeepByBytes, GamesLoad, KeepsOnCircuit, Rocks, with_shapes}
use Rattle.dvg_game_circuit.proofs.OwnMemoryReads.{read_high, read_low}
use Rattle.dvg_game_circuit.proofs.CircuitAsCells.{vectors_after, vectors_driven, whole}

below : (bytes : List ℕ) → AllByRecursion (λ byte. byte < 256) bytes → (i : ℕ) → slice_index bytes i < 256
below [] all i = omega arith
below (byte ∷ bytes) all zero = all.0
below (byte ∷ bytes) all (suc i) = below bytes all.1 i

-- what each run of cells has from power-up
known : {R image : List ℕ} {held rom : ℕ → ℕ} {machine : Machine} {work : ℕ → ℕ} {calm : ℕ} {clocks : List board.Bus}
    → IsCellsRun R image held rom machine work calm clocks → IsRom R × ((a : ℕ) → rom a < 256)
known (powers work calm is_rom is_image same held_in work_in rom_in) = (is_rom, rom_in)
known (ticks pins on asks) = known on

pub keeps : (R image : List ℕ) (rom : ℕ → ℕ) (start : ℕ) (held : Held) → IsRom R → length R ≡ 2048 → ((a : ℕ) → rom a < 256)
    → HoldsGame R image rom held
    → ((machine : Machine) (work : ℕ → ℕ) (calm : ℕ) (clocks : List board.Bus)
    → IsCellsRun R image held.ram rom machine work calm clocks → CellsKeep R image held.ram rom start machine clocks)
    → (clocks : List Bus) → All IsBus clocks → CircuitKeeps R image rom start held clocks
keeps R image rom start held is_rom count rom_in there law clocks all =
    let on = whole R image rom held is_rom count rom_in there clocks all in record {
      cells = law (machine_of (after held clocks)) on.0 on.1 (board_clocks held clocks) on.2;
      vectors = vectors_after held clocks;
      driven = vectors_driven R image rom held is_rom count rom_in there clocks all;
    }

pub by_bytes : GamesOnCellsKeepByBytes → CircuitsKeepByBytes
by_bytes law R image rom start notes ways drafts accepted brought is_rom count rom_in held there =
    keeps R image rom start held is_rom count rom_in there (law R image held.ram rom start notes ways drafts accepted brought)

on_circuit : (R : List ℕ) (rom : (ℕ → ℕ) → ℕ → ℕ) (start : ℕ) → length R ≡ 2048 → PoweredOn R rom → KeepsOnCells R rom start
    → KeepsOnCircuit R rom start
on_circuit R rom start count powered law other image held small there =
    let two = known (powered other image held.ram held.work 0 small there.whole there.ram there.ram_bytes there.work_bytes) in
    keeps R image (rom other) start held two.0 count two.1 there (law other image held.ram)

asteroid_count : length asteroid_content.shapes ≡ 2048
unfolding asteroid_content.shapes
asteroid_count = refl

rocks_count : length rocks_content.shapes ≡ 2048
unfolding rocks_content.shapes
rocks_count = refl

pub asteroid : closed.Asteroid → CanBePowered → Asteroid
asteroid law powered = on_circuit asteroid_content.shapes asteroid_game.rom asteroid_game.start asteroid_count powered.2 law

pub rocks : closed.Rocks → CanBePowered → Rocks
rocks law powered = on_circuit rocks_content.shapes rocks_game.rom rocks_game.start rocks_count powered.3 law

-- below the program nothing of a game stands
rom_below : (rows : List (List ℕ)) (vectors : List ℕ) (other : ℕ → ℕ) (a : ℕ) → a < 0x6800 → rom_of rows vectors other a ≡ other a
unfolding rom_of
rom_below rows vectors other a less = rw (le-leb (suc a) 0x6800 less) refl

abbrev IsBelow : ((ℕ → ℕ) → ℕ → ℕ) → Type 0
IsBelow rom = (other : ℕ → ℕ) (a : ℕ) → a < 0x6800 → rom other a ≡ other a

asteroid_below : IsBelow asteroid_game.rom
unfolding asteroid_game.rom
asteroid_below other = rom_below asteroid_game.bytes asteroid_game.vectors other

rocks_below : IsBelow rocks_game.rom
unfolding rocks_game.rom
rocks_below other = rom_below rocks_game.bytes rocks_game.vectors other

module _ (R : List ℕ) (rom : (ℕ → ℕ) → ℕ → ℕ) (powered : PoweredOn R rom) (is_below : IsBelow rom) where
  loads : CanBeLoaded R rom
  loads work ram image work_in ram_in is_image same = (
    shape_in,
    record {
      program = program;
      shapes = λ a less. refl;
      whole = is_image;
      ram = same;
      code_bytes = λ a. two.1 (a + 0x6000);
      shapes_bytes = all;
      work_bytes = work_in;
      ram_bytes = ram_in;
    },
  )
    where
      is_rom : IsRom R
      is_rom = (known (powered (λ a. 0) image ram work 0 (λ a. lit< tt) is_image same ram_in work_in)).0

      all : (a : ℕ) → slice_index R a < 256
      all a = below R (recursion_from_All (λ byte. byte < 256) R is_rom.bytes) a

      shape_in : (a : ℕ) → slice_index R (a % 0x800) < 256
      shape_in a = all (a % 0x800)

      two : IsRom R × ((a : ℕ) → with_shapes R rom a < 256)
      two = known (powered (λ a. slice_index R (a % 0x800)) image ram work 0 shape_in is_image same ram_in work_in)

      program : (a : ℕ) → 0x4800 ≤ a → a < 0x8000 → read (λ b. with_shapes R rom (b + 0x6000)) a ≡ with_shapes R rom a
      program a from to = by (cases_lt a 0x6800)
        where
          by : (a < 0x6800) ⊎ (0x6800 ≤ a) → read (λ b. with_shapes R rom (b + 0x6000)) a ≡ with_shapes R rom a
          by (inl low) =
              let place : (a % 0x800 + 0x6000) % 0x800 ≡ a % 0x800 = omega arith in
              read_low (λ b. with_shapes R rom (b + 0x6000)) a low
              ∙ is_below (λ a. slice_index R (a % 0x800)) (a % 0x800 + 0x6000) (omega arith) ∙ ap (slice_index R) place
              ∙ sym (is_below (λ a. slice_index R (a % 0x800)) a low)
          by (inr high) =
              let place : a - 0x6000 + 0x6000 ≡ a = omega arith in
              read_high (λ b. with_shapes R rom (b + 0x6000)) a high ∙ ap (with_shapes R rom) place

pub games_load : CanBePowered → GamesLoad
games_load powered = (
  loads asteroid_content.shapes asteroid_game.rom powered.2 asteroid_below,
  loads rocks_content.shapes rocks_game.rom powered.3 rocks_below,
)
