-- The pins of the circuit, by those of its processor and its vectors.
use Rattle.std.specs.Prelude.{◌≡◌}
use Rattle.dvg_cells_cpu.specs.Cpu as cpu
use Rattle.dvg_cells_motion.specs.Vectors as vectors
use Rattle.dvg_game_circuit.specs.Game.{Game, Bus, drives_vectors}
use Rattle.dvg_game_circuit.specs.Game as pin

-- the accesses are the processor's, and those of the vectors
abbrev pub ShowsAccess : Game → Bus → Type 0
ShowsAccess game bus = (pin.access game bus ≡ (drives_vectors game bus).access) × (pin.write game ≡ cpu.write game.cpu)
    × (pin.a game ≡ cpu.at game.cpu) × (pin.d game ≡ cpu.dout game.cpu)
    × ((drives_vectors game bus).write ≡ cpu.write game.cpu) × ((drives_vectors game bus).a ≡ cpu.at game.cpu)
    × ((drives_vectors game bus).d ≡ cpu.dout game.cpu) × (pin.taken game bus ≡ (drives_vectors game bus).tick)

-- the others, but the latches and `hushes`, are the vectors'
abbrev pub ShowsVectors : Game → Type 0
ShowsVectors game = (pin.halted game ≡ vectors.halted game.vectors) × (pin.done game ≡ vectors.done game.vectors)
    × (pin.fault game ≡ vectors.fault game.vectors) × (pin.x game ≡ vectors.x game.vectors)
    × (pin.y game ≡ vectors.y game.vectors) × (pin.lit game ≡ vectors.lit game.vectors)
    × (pin.z game ≡ vectors.z game.vectors)

-- in each clock, whatever came before
abbrev pub ShowsParts : Type 0
ShowsParts = (game : Game) (bus : Bus) → ShowsAccess game bus × ShowsVectors game
