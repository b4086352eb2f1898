-- What is seen of a picture of the circuit, and how long it takes: by the laws of its vectors.
use Rattle.std.specs.Prelude.{◌≡◌, ℕ, ◌+◌, ◌<◌, true, false, All, List, [], ◌∷◌, ◌++◌, length}
use Rattle.dvg_mem.specs.Memory.{IsRom}
use Rattle.dvg_gen.specs.Run.{Finished, fate}
use Rattle.dvg_gen.specs.Counting.{followed_all}
use Rattle.dvg_cells_core.specs.Refines.{Agrees}
use Rattle.dvg_cells_core.specs.Tells.{moves_of}
use Rattle.dvg_cells_board.specs.Board.{starts}
use Rattle.dvg_cells_motion.specs.Motion.{going}
use Rattle.dvg_cells_motion.specs.Vectors as vectors
use Rattle.dvg_cells_motion.specs.Machine.{CountersFollow, cores, ticks}
use Rattle.dvg_cells_motion.specs.Pulses.{counters_of}
use Rattle.dvg_cells_motion.specs.Times.{GoOn, late, run_ticks}
use Rattle.dvg_game_circuit.specs.Game.{Game, Bus, halted, lit, z, drives_vectors}
use Rattle.dvg_game_circuit.specs.Circuit.{Held, IsBus, HoldsGame, after, vector_clocks}
use Rattle.dvg_game_circuit.specs.Around.{takes}

-- what is said of each run of the circuit with bytes in its memories, and the generator's ROM among them
abbrev pub OfEachCircuit : (Held → Type 0) → Type 0
OfEachCircuit P = (R image : List ℕ) (rom : ℕ → ℕ) (held : Held) → IsRom R → length R ≡ 2048 → ((a : ℕ) → rom a < 256)
    → HoldsGame R image rom held → P held

-- the beam's counters follow the run that its core has
abbrev pub IsFollowed : Held → List Bus → Type 0
IsFollowed held clocks =
    CountersFollow (cores held.ram (vector_clocks held clocks)) (after held clocks).vectors.pace (after held clocks).vectors.motion

-- and where the pin `halted` is high, no run is open, and they are those to which all moves of the newest one lead
pub record DrawsRun (held : Held) (clocks : List Bus) : Type 0 where
  pub follows : IsFollowed held clocks
  pub drawn : halted (after held clocks) ≡ 1 → (is : IsFollowed held clocks) × (is.agrees.run.is_open ≡ false)
      × (counters_of (after held clocks).vectors.motion ≡ followed_all is.began (moves_of is.agrees.run))

abbrev pub CircuitDraws : Type 0
CircuitDraws = OfEachCircuit (λ held. (clocks : List Bus) → All IsBus clocks → DrawsRun held clocks)

-- the clocks of the vectors, in these later clocks after others
abbrev pub later_clocks : Held → (clocks later : List Bus) → List vectors.Bus
later_clocks held clocks [] = []
later_clocks held clocks (bus ∷ later) = drives_vectors (after held (later ++ clocks)) bus ∷ later_clocks held clocks later

-- in each of them a cycle of the processor begins only with a tick that is taken
abbrev pub AreCyclesInTicks : (clocks later : List Bus) → Type 0
AreCyclesInTicks clocks [] = Unit {0}
AreCyclesInTicks clocks (bus ∷ later) = (bus.ready ≡ 1 → takes (later ++ clocks) bus ≡ true) × AreCyclesInTicks clocks later

-- from a start where `halted` is high to the next clock in which it is: if the run came to a HALT, as many ticks came as it has,
-- beside those that came late; none did where cycles begin with ticks
abbrev pub CircuitTakesPicture : Type 0
CircuitTakesPicture = OfEachCircuit (λ held. (clocks : List Bus) (bus : Bus) (later : List Bus) → All IsBus (later ++ bus ∷ clocks)
    → let old = vector_clocks held clocks in
    let first = drives_vectors (after held clocks) bus in
    let new = later_clocks held (bus ∷ clocks) later in
    halted (after held clocks) ≡ 1
    → starts (after held clocks).vectors.board (vectors.drives_board (after held clocks).vectors first) ≡ 1
    → GoOn held.ram (first ∷ old) new → halted (after held (later ++ bus ∷ clocks)) ≡ 1
    → (is : Agrees (cores held.ram (new ++ first ∷ old)))
    × (fate is.run.visits ≡ Finished → ticks new ≡ run_ticks is.run.first is.run.visits + late held.ram (first ∷ old) new)
    × (AreCyclesInTicks (bus ∷ clocks) later → late held.ram (first ∷ old) new ≡ 0))

-- it is dark where no vector goes, whatever came before
abbrev pub CircuitIsDark : Type 0
CircuitIsDark = (game : Game) → going game.vectors.motion ≡ 0 → (lit game ≡ 0) × (z game ≡ 0)
