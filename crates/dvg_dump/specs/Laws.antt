-- Laws of how runs end.
use Rattle.std.specs.Prelude.{◌≡◌, ℕ, List, Option, IfSome, flat_map, option_to_list}
use Rattle.dvg_code.specs.Words.{IsWord}
use Rattle.dvg_gen.specs.Moving.{moves}
use Rattle.dvg_gen.specs.Run.{Visit}
use Rattle.dvg_gen.specs.Told.{nothing}
use Rattle.dvg_dump.specs.Ends.{End, Ends, drawn_by}
use Rattle.dvg_dump.specs.Traces.{trace}
use Rattle.dvg_dump.specs.Units.{recorded_moves}

-- the run over a memory of words ends in at least one way, and that over any memory in at most one,
-- after the same instructions
abbrev pub OneEnd : Type 0
OneEnd = ((memory : ℕ → Option ℕ) → ((address : ℕ) → IfSome (memory address) IsWord)
    → (visits : List Visit) × (end : End) × Ends memory visits end)
    × ((memory : ℕ → Option ℕ) (visits visits' : List Visit) (end end' : End) → Ends memory visits end
    → Ends memory visits' end'
    → (visits ≡ visits') × (end ≡ end'))

-- the strokes of a run are those that are recorded of its instructions, in order
abbrev pub StrokesOfTrace : Type 0
StrokesOfTrace = (memory : ℕ → Option ℕ) (visits : List Visit)
    → drawn_by visits ≡ flat_map (λ ran. option_to_list ran.stroke) (trace memory visits)

-- the moves of a run are those that are recorded of its instructions, in order
abbrev pub MovesOfTrace : Type 0
MovesOfTrace = (memory : ℕ → Option ℕ) (visits : List Visit)
    → moves nothing.first visits ≡ recorded_moves nothing.first (trace memory visits)
