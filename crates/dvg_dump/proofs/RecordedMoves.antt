-- Moves of instructions that were recorded.
use Rattle.std.proofs.Common.{◌≡◌, ℕ, List, [], ◌∷◌, ◌++◌, Option, Bool, true, false, refl, sym, ap, ◌∙◌, append_assoc, append-nil}
use Rattle.dvg_gen.specs.declared.beam.Beam.{Beam}
use Rattle.dvg_gen.specs.declared.counters.Counters.{Counters}
use Rattle.dvg_gen.specs.declared.moving.Move.{Move}
use Rattle.dvg_gen.specs.Counting.{followed, followed_all}
use Rattle.dvg_gen.specs.Moving.{made, moves}
use Rattle.dvg_gen.specs.Run.{Visit, beam_after}
use Rattle.dvg_gen.specs.Told.{nothing}
use Rattle.dvg_dump.specs.declared.ran.Ran.{Ran}
use Rattle.dvg_dump.specs.Traces.{ran_of, trace}
use Rattle.dvg_dump.specs.Units.{counted_move, in_units, recorded_moves, units_if}

-- the beam after recorded instructions
abbrev last_beam : Beam → List Ran → Beam
last_beam beam [] = beam
last_beam beam (ran ∷ later) = last_beam ran.beam later

last_of_more : (beam : Beam) (ran : List Ran) (one : Ran) → last_beam beam (ran ++ one ∷ []) ≡ one.beam
last_of_more beam [] one = refl
last_of_more beam (first ∷ later) one = last_of_more first.beam later one

-- one instruction more
moves_of_more : (beam : Beam) (ran : List Ran) (one : Ran)
    → recorded_moves beam (ran ++ one ∷ []) ≡ recorded_moves beam ran ++ made (last_beam beam ran) one.address one.code
moves_of_more beam [] one = append-nil (made beam one.address one.code)
moves_of_more beam (first ∷ later) one =
    ap (λ l. made beam first.address first.code ++ l) (moves_of_more first.beam later one)
    ∙ sym (append_assoc (made beam first.address first.code) (recorded_moves first.beam later) _)

-- the beam that is recorded last is that after the run's instructions
last_of_trace : (memory : ℕ → Option ℕ) (visits : List Visit) → last_beam nothing.first (trace memory visits) ≡ beam_after nothing.first visits
last_of_trace memory [] = refl
last_of_trace memory (visit ∷ older) = last_of_more nothing.first (trace memory older) (ran_of memory (beam_after nothing.first older) visit)

-- the moves that are recorded are those of the run
pub moves_of_trace : (memory : ℕ → Option ℕ) (visits : List Visit) → moves nothing.first visits ≡ recorded_moves nothing.first (trace memory visits)
moves_of_trace memory [] = refl
moves_of_trace memory (visit ∷ older) =
    ap (λ l. l ++ made (beam_after nothing.first older) visit.place visit.code) (moves_of_trace memory older)
    ∙ ap (λ b. recorded_moves nothing.first (trace memory older) ++ made b visit.place visit.code) (sym (last_of_trace memory older))
    ∙ sym (moves_of_more nothing.first (trace memory older) (ran_of memory (beam_after nothing.first older) visit))

-- moves in whole units, the first of them and then the others
in_units_more : (old : Counters) (first later : List Move) → in_units old (first ++ later) ≡ in_units old first ++ in_units (followed_all old first) later
in_units_more old [] later = refl
in_units_more old (move ∷ first) later = ap (λ l. counted_move old move ∷ l) (in_units_more (followed old move) first later)

pub units_more : (units : Bool) (old : Counters) (first later : List Move)
    → units_if units old (first ++ later) ≡ units_if units old first ++ units_if units (followed_all old first) later
units_more true old first later = in_units_more old first later
units_more false old first later = refl
