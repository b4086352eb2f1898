-- Examples: the clocks in which a machine draws a vector of one unit, and those of a picture of a HALT alone.
use Rattle.std.specs.Prelude.{ℕ, zero, suc, ◌≡◌, nat_eq, if◌then◌else◌, All, List, [], ◌∷◌, ◌++◌}
use Rattle.dvg_cells_board.specs.Board as board
use Rattle.dvg_cells_motion.specs.Machine.{IsBus, HasBytes, AtRest, after, ticks}
use Rattle.dvg_cells_motion.specs.Pulses.{counters_of}
use Rattle.dvg_cells_motion.specs.Times.{GoOn, AtOnce}
use Rattle.dvg_cells_motion.specs.Vectors.{Bus, halted, drives_board}

-- a RAM with the words of `vctr 0 512 0 7`, and zeros
abbrev pub some_held : ℕ → ℕ
some_held a = if nat_eq a 3 then 0x72 else 0

-- a clock without an access
abbrev pub idle : ℕ → Bus
idle tick = record { tick = tick; reset = 0; access = 0; write = 0; a = 0; d = 0; big = 0; rom = 0; undefined = 0 }

-- one with a strobe
abbrev pub strobe : Bus
strobe = record { tick = 0; reset = 0; access = 1; write = 1; a = 0x3000; d = 0; big = 0; rom = 0; undefined = 0 }

-- after these clocks, so many ticks of four clocks each
abbrev pub and_ticks : ℕ → List Bus → List Bus
and_ticks zero clocks = clocks
and_ticks (suc n) clocks = idle 1 ∷ idle 0 ∷ idle 0 ∷ idle 0 ∷ and_ticks n clocks

-- a strobe, and nine ticks
abbrev pub some_clocks : List Bus
some_clocks = and_ticks 9 (strobe ∷ [])

-- after them the machine is at rest, and x has moved by one unit
abbrev pub SomeMotion : Type 0
SomeMotion = HasBytes some_held × All IsBus some_clocks
    × AtRest (after some_held some_clocks).pace (after some_held some_clocks).motion
    × (counters_of (after some_held some_clocks).motion ≡ record { x = 1; y = 0 })

-- a RAM with the word of `halt`, and zeros
abbrev pub halt_held : ℕ → ℕ
halt_held a = if nat_eq a 1 then 0xB0 else 0

-- the clock of a start, after its strobe
abbrev pub started : List Bus
started = idle 0 ∷ strobe ∷ []

-- it meets the premises of a picture's time, in four ticks: the start's own, one for each byte, and the HALT's own
abbrev pub SomePicture : Type 0
SomePicture = HasBytes halt_held × All IsBus (and_ticks 4 [] ++ started) × (halted (after halt_held (strobe ∷ [])) ≡ 1)
    × (board.starts (after halt_held (strobe ∷ [])).board (drives_board (after halt_held (strobe ∷ [])) (idle 0)) ≡ 1)
    × GoOn halt_held started (and_ticks 4 []) × (halted (after halt_held (and_ticks 4 [] ++ started)) ≡ 1)
    × AtOnce (and_ticks 4 []) × (ticks (and_ticks 4 []) ≡ 4)
