-- The moves of a run, in 1/512 of a screen unit, or in whole units as counters have them.
use Rattle.std.specs.Prelude.{List, [], ◌∷◌, ◌++◌, Bool, true, false}
use Rattle.dvg_gen.specs.declared.beam.Beam.{Beam}
use Rattle.dvg_gen.specs.declared.counters.Counters.{Counters}
use Rattle.dvg_gen.specs.declared.moving.Move.{Move}
use Rattle.dvg_gen.specs.Counting.{followed}
use Rattle.dvg_gen.specs.Moving.{made, moves}
use Rattle.dvg_gen.specs.Run.{Visit}
use Rattle.dvg_gen.specs.Told.{nothing}
use Rattle.dvg_dump.specs.declared.ran.Ran.{Ran}

-- the counters before a first run: at 0, 0
abbrev pub origin : Counters
origin = record { x = 0; y = 0 }

-- a move in whole units: from where the counters are to where it leads them
abbrev pub counted_move : Counters → Move → Move
counted_move old move =
    record move { x0 = old.x; y0 = old.y; x1 = (followed old move).x; y1 = (followed old move).y }

-- moves in whole units, in order: each begins where the counters were led by those before it
abbrev pub in_units : Counters → List Move → List Move
in_units old [] = []
in_units old (move ∷ later) = counted_move old move ∷ in_units (followed old move) later

-- moves, in whole units where these are asked for
abbrev pub units_if : Bool → Counters → List Move → List Move
units_if true old list = in_units old list
units_if false old list = list

-- the moves of a first run's instructions, in order, also of those that are not seen
abbrev pub moves_in : Bool → List Visit → List Move
moves_in units visits = units_if units origin (moves nothing.first visits)

-- the moves of instructions that were recorded, from the beam before them
abbrev pub recorded_moves : Beam → List Ran → List Move
recorded_moves beam [] = []
recorded_moves beam (ran ∷ later) = made beam ran.address ran.code ++ recorded_moves ran.beam later

-- what goes along recorded instructions: whether in whole units, and where the beam and the counters are
pub record Course : Type 0 where
  pub units : Bool
  pub beam : Beam
  pub counters : Counters

-- at the beginning of a first run
abbrev pub setting_out : Bool → Course
setting_out units = record { units = units; beam = nothing.first; counters = origin }

-- the moves of these instructions, which the course comes to next, in its unit
abbrev pub moves_ahead : Course → List Ran → List Move
moves_ahead course ran = units_if course.units course.counters (recorded_moves course.beam ran)
