-- How many ticks a picture takes: a sum over the instructions of its run.
use Rattle.std.specs.Prelude.{nat_le, ℕ, ◌+◌, ◌≡◌, ◌%◌, All, List, [], ◌∷◌, ◌++◌}
use Rattle.dvg_code.specs.declared.instr.Instr.{Instr}
use Rattle.dvg_code.specs.declared.instr.Instr.TheVariants.{Vctr, Labs, Jsrl, Svec}
use Rattle.dvg_gen.specs.declared.beam.Beam.{Beam}
use Rattle.dvg_gen.specs.Run.{Visit, Finished, beam_after, fate}
use Rattle.dvg_cells_core.specs.Cells.{bit, both, eq, mux, part}
use Rattle.dvg_cells_core.specs.Refines.{Agrees}
use Rattle.dvg_cells_board.specs.Board as board
use Rattle.dvg_cells_motion.specs.Machine.{IsBus, HasBytes, after, cores, ticks, vector_left}
use Rattle.dvg_cells_motion.specs.Pace.{hold}
use Rattle.dvg_cells_motion.specs.Pulses.{time}
use Rattle.dvg_cells_motion.specs.Vectors.{Vectors, Bus, halted, drives_board}

-- the ticks of an instruction at a global scale: one for each of its bytes, one of its own, a second one of a JSRL, and
-- those of a vector
abbrev pub instr_ticks : ℕ → Instr → ℕ
instr_ticks scale (Vctr local dx dy z) = 5 + time ((scale + local) % 16)
instr_ticks scale (Labs x y global) = 5
instr_ticks scale (Jsrl to) = 4
instr_ticks scale (Svec local dx dy z) = 3 + time ((scale + local) % 16)
instr_ticks scale _ = 3

-- those of a run, from the beam before it: the start's own, and each instruction's, at the scale that those before left
abbrev pub run_ticks : Beam → List Visit → ℕ
run_ticks beam [] = 1
run_ticks beam (visit ∷ older) = run_ticks beam older + instr_ticks (beam_after beam older).scale visit.code

-- how many ticks came late, in these clocks after others: while a byte might be fetched, and wasn't taken yet
abbrev pub late : (ℕ → ℕ) → List Bus → List Bus → ℕ
late held clocks [] = 0
late held clocks (bus ∷ later) = late held clocks later + mux (hold (after held (later ++ clocks)).pace) 0 bus.tick

-- in each of these later clocks the pin `halted` is low, and there is no start and no reset
abbrev pub GoOn : (ℕ → ℕ) → List Bus → List Bus → Type 0
GoOn held clocks [] = Unit {0}
GoOn held clocks (bus ∷ later) =
    let vectors = after held (later ++ clocks) in
    (halted vectors ≡ 0) × (board.starts vectors.board (drives_board vectors bus) ≡ 0) × (bus.reset ≡ 0)
    × GoOn held clocks later

-- an access to the RAM, which is at 4000 to 47FF
abbrev pub uses_ram : Bus → ℕ
uses_ram bus = both bus.access (eq (part 11 5 bus.a) 8)

-- whether the newest of these clocks has a tick, and the one before it
abbrev pub last_tick : List Bus → ℕ
last_tick [] = 0
last_tick (bus ∷ clocks) = bus.tick

abbrev pub tick_before : List Bus → ℕ
tick_before [] = 0
tick_before (bus ∷ clocks) = last_tick clocks

-- memory answers at once: after a tick there is none for two clocks, and in the first of them the RAM is left alone
abbrev pub AtOnce : List Bus → Type 0
AtOnce [] = Unit {0}
AtOnce (bus ∷ clocks) = (last_tick clocks ≡ 1 → (bus.tick ≡ 0) × (uses_ram bus ≡ 0)) × (tick_before clocks ≡ 1 → bus.tick ≡ 0)
    × AtOnce clocks

-- from a start where the pin `halted` is high to the next clock in which it is: if the run came to a HALT, as many ticks
-- came as it has, beside those that came late; where memory answers at once, none did
abbrev pub TakesPicture : Type 0
TakesPicture = (held : ℕ → ℕ) → HasBytes held → (clocks : List Bus) (bus : Bus) (later : List Bus)
    → All IsBus (later ++ bus ∷ clocks) → halted (after held clocks) ≡ 1
    → board.starts (after held clocks).board (drives_board (after held clocks) bus) ≡ 1 → GoOn held (bus ∷ clocks) later
    → halted (after held (later ++ bus ∷ clocks)) ≡ 1
    → (is : Agrees (cores held (later ++ bus ∷ clocks)))
    × (fate is.run.visits ≡ Finished
    → ticks later ≡ run_ticks is.run.first is.run.visits + late held (bus ∷ clocks) later)
    × (AtOnce later → late held (bus ∷ clocks) later ≡ 0)

-- the own ticks that an instruction has left, and those of its vector
abbrev pub left_ticks : Vectors → ℕ
left_ticks vectors = vectors.pace.left + vector_left vectors.motion

-- in each of these later clocks there is no start and no reset
abbrev pub StartsNone : (ℕ → ℕ) → List Bus → List Bus → Type 0
StartsNone held clocks [] = Unit {0}
StartsNone held clocks (bus ∷ later) =
    let vectors = after held (later ++ clocks) in
    (board.starts vectors.board (drives_board vectors bus) ≡ 0) × (bus.reset ≡ 0) × StartsNone held clocks later

-- after a reset, also amid a vector, the board's flag is high at once; the pin `halted` is high as soon as the ticks came
-- that were left, so the vector is drawn to its end
abbrev pub ResetDraws : Type 0
ResetDraws = (held : ℕ → ℕ) → HasBytes held → (clocks : List Bus) (bus : Bus) (later : List Bus)
    → All IsBus (later ++ bus ∷ clocks) → bus.reset ≡ 1 → StartsNone held (bus ∷ clocks) later
    → (board.halted (after held (later ++ bus ∷ clocks)).board ≡ 1)
    × (halted (after held (later ++ bus ∷ clocks))
    ≡ bit (nat_le (left_ticks (after held (bus ∷ clocks))) (ticks later)))
