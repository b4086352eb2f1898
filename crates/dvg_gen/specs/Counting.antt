-- Moves and positions in whole screen units, as rate multipliers and counters of twelve bits make them.
use Rattle.std.specs.Prelude.{ℕ, suc, ◌+◌, ◌-◌, ◌*◌, ◌/◌, ◌%◌, ℤ, pos, negsuc, ◌*ℤ◌, Bool, true, false, List, []}
use Rattle.std.specs.Prelude.{◌∷◌, nat_lt, if◌then◌else◌}
use Rattle.dvg_code.specs.Fields.{signed}
use Rattle.dvg_code.specs.declared.instr.Instr.{Instr}
use Rattle.dvg_code.specs.declared.instr.Instr.TheVariants.{Vctr, Labs, Svec}
use Rattle.dvg_gen.specs.declared.beam.Beam.{Beam}
use Rattle.dvg_gen.specs.declared.counters.Counters.{Counters}
use Rattle.dvg_gen.specs.declared.moving.Move.{Move}
use Rattle.dvg_gen.specs.Drawing.{unit}
use Rattle.dvg_gen.specs.Run.{Visit, beam_after}

-- a magnitude in 1/512 of a screen unit, in whole units: a half is rounded up
abbrev pub whole : ℕ → ℕ
whole magnitude = (magnitude + 256) / 512

-- a signed move in 1/512 of a screen unit, in whole units: a half is rounded away from zero
abbrev pub rounded : ℤ → ℤ
rounded (pos m) = pos (whole m)
rounded (negsuc m) = signed 1 (whole (suc m))

-- a counter of twelve bits, so far on
abbrev pub counted : ℕ → ℤ → ℕ
counted from (pos m) = (from + m) % 4096
counted from (negsuc m) = (from + (4096 - suc m % 4096)) % 4096

-- the counters after a vector, by what it moves in 1/512 of a screen unit
abbrev pub stepped : Counters → ℤ → ℤ → Counters
stepped old dx dy = record { x = counted old.x (rounded dx); y = counted old.y (rounded dy) }

-- the counters after an instruction, by the global scale before it: LABS loads them, and a vector counts them on
abbrev pub clocked : Counters → ℕ → Instr → Counters
clocked old scale (Vctr local dx dy z) =
    let one = pos (unit ((scale + local) % 16)) in stepped old (dx *ℤ one) (dy *ℤ one)
clocked old scale (Labs x y global) = record { x = x; y = y }
clocked old scale (Svec local dx dy z) =
    let one = pos (256 * unit ((scale + local) % 16)) in stepped old (dx *ℤ one) (dy *ℤ one)
clocked old scale _ = old

-- the counters after these instructions, from the beam and the counters before them
abbrev pub counters : Beam → Counters → List Visit → Counters
counters beam old [] = old
counters beam old (visit ∷ older) = clocked (counters beam old older) (beam_after beam older).scale visit.code

-- how far ahead round the circle one position is of another
abbrev pub ahead : ℕ → ℕ → ℕ
ahead from to = (to + (2097152 - from % 2097152)) % 2097152

-- the way from one position to another in whole units: the shorter one round the circle, which is a vector's
abbrev pub whole_way : ℕ → ℕ → ℤ
whole_way from to = if nat_lt (ahead from to) 1048576 then pos (whole (ahead from to))
    else signed 1 (whole (2097152 - ahead from to))

-- the counters after a move
abbrev pub followed_by : Bool → Counters → Move → Counters
followed_by true old move = record { x = move.x1 / 512 % 4096; y = move.y1 / 512 % 4096 }
followed_by false old move =
    record { x = counted old.x (whole_way move.x0 move.x1); y = counted old.y (whole_way move.y0 move.y1) }

abbrev pub followed : Counters → Move → Counters
followed old move = followed_by move.placed old move

-- the counters after these moves, in order
abbrev pub followed_all : Counters → List Move → Counters
followed_all old [] = old
followed_all old (move ∷ later) = followed_all (followed old move) later
