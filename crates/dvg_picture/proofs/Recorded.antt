-- What is written of instructions that were recorded is what is written of the run.
use Rattle.std.proofs.Common.{◌≡◌, ℕ, ◌+◌, ◌<◌, List, [], ◌∷◌, ◌++◌, Bool, true, false, Option, length, drop, get_or, cond, flat_map, option_to_list, refl, ap, sym, ◌∙◌}
use Rattle.std.proofs.lemmas.Grind.{flat_map-append}
use Rattle.std.proofs.lemmas.List.{drop_more}
use Rattle.dvg_gen.specs.declared.moving.Move.{Move}
use Rattle.dvg_gen.specs.Counting.{followed_all}
use Rattle.dvg_gen.specs.Moving.{made, seen, seen_by}
use Rattle.dvg_gen.specs.Run.{Visit}
use Rattle.dvg_gen.specs.declared.stroke.Stroke.{Stroke}
use Rattle.dvg_print.specs.RunLines.{move_line}
use Rattle.dvg_print.specs.Shows.{stroke_line}
use Rattle.dvg_dump.specs.declared.ran.Ran.{Ran}
use Rattle.dvg_dump.specs.Ends.{End, Complete, Broken, Endless}
use Rattle.dvg_dump.specs.Traces.{trace, trace_if}
use Rattle.dvg_dump.specs.Units.{Course, moves_ahead, moves_in, origin, recorded_moves, setting_out, units_if}
use Rattle.dvg_dump.proofs.RecordedMoves.{moves_of_trace, units_more}
use Rattle.dvg_job.specs.declared.form.PictureForm.{PictureForm}
use Rattle.dvg_picture.specs.Texts.{moved_text, picture_text, ran_text, recorded_text, run_text, traces}

-- the moves that are recorded are those of the run
moves_are : (units : Bool) (memory : ℕ → Option ℕ) (visits : List Visit) → moves_ahead (setting_out units) (trace memory visits) ≡ moves_in units visits
moves_are units memory visits = ap (units_if units origin) (sym (moves_of_trace memory visits))

abbrev form_of : (all moves units : Bool) → PictureForm
form_of all moves units = record { all = all; moves = moves; units = units }

-- of a run whose instructions are recorded
traced : (form : PictureForm) (memory : ℕ → Option ℕ) (visits : List Visit) (end : End) → recorded_text form (trace memory visits) end ≡ picture_text form memory visits end
traced form memory visits end = ap (λ moves. run_text form (trace memory visits) moves end) (moves_are form.units memory visits)

by_flags : (all moves units : Bool) (memory : ℕ → Option ℕ) (visits : List Visit) (end : End)
    → recorded_text (form_of all moves units) (trace_if (traces (form_of all moves units)) memory visits) end ≡ picture_text (form_of all moves units) memory visits end
by_flags true moves units memory visits end = traced (form_of true moves units) memory visits end
by_flags false true units memory visits end = traced (form_of false true units) memory visits end
by_flags false false true memory visits end = traced (form_of false false true) memory visits end
by_flags false false false memory visits (Complete words drew) = refl
by_flags false false false memory visits (Broken address fault) = refl
by_flags false false false memory visits Endless = refl

pub recorded_as : (form : PictureForm) (memory : ℕ → Option ℕ) (visits : List Visit) (end : End)
    → recorded_text form (trace_if (traces form) memory visits) end ≡ picture_text form memory visits end
recorded_as form = by_flags form.all form.moves form.units

-- the lines of the moves ahead: those of the next instruction, and the others
pub next_moves : (lines : Move → List ℕ) (at past : Course) (all : List Ran) (i : ℕ) (ran : Ran) (told : Option Move) → i < length all → ran ≡ get_or all i ran
    → option_to_list told ≡ units_if at.units at.counters (made at.beam ran.address ran.code)
    → past ≡ record { units = at.units; beam = ran.beam; counters = followed_all at.counters (made at.beam ran.address ran.code) }
    → flat_map lines (moves_ahead at (drop i all)) ≡ flat_map lines (option_to_list told) ++ flat_map lines (moves_ahead past (drop (i + 1) all))
next_moves lines at past all i ran told low is told_is past_is =
    let rest = drop (i + 1) all in
    let first = made at.beam ran.address ran.code in
    let later = recorded_moves ran.beam rest in
    let after = units_if at.units (followed_all at.counters first) later in
    ap (λ l. flat_map lines (moves_ahead at l)) (drop_more all i ran low)
    ∙ ap (λ r. flat_map lines (moves_ahead at (r ∷ rest))) (sym is)
    ∙ ap (flat_map lines) (units_more at.units at.counters first later)
    ∙ flat_map-append lines (units_if at.units at.counters first) after
    ∙ ap (λ l. flat_map lines l ++ flat_map lines after) (sym told_is)
    ∙ ap (λ c. flat_map lines (option_to_list told) ++ flat_map lines (moves_ahead c rest)) (sym past_is)

-- the lines of those that are seen are those of their strokes
pub as_strokes : (moves : List Move) → flat_map (moved_text true) moves ≡ flat_map stroke_line (seen moves)
as_strokes [] = refl
as_strokes (move ∷ later) =
    ap (λ l. flat_map stroke_line (seen_by move.z move) ++ l) (as_strokes later)
    ∙ sym (flat_map-append stroke_line (seen_by move.z move) (seen later))

-- where whole units are asked for, these are the strokes' lines
pub in_units_text : (units : Bool) (ran : List Ran) (strokes : List Stroke) → units ≡ true
    → flat_map (moved_text true) (moves_ahead (setting_out true) ran) ≡ flat_map stroke_line (cond units (seen (moves_ahead (setting_out units) ran)) strokes)
in_units_text true ran strokes asked = as_strokes (moves_ahead (setting_out true) ran)
in_units_text false ran strokes asked = cc

-- the lines of instructions, where they are asked for
pub asked_ran : (asked : Bool) (ran lent given : List Ran) → lent ≡ ran → given ≡ cond asked lent [] → flat_map ran_text given ≡ flat_map ran_text (cond asked ran [])
asked_ran asked ran lent given same is = ap (flat_map ran_text) (is ∙ ap (λ l. cond asked l []) same)

-- and those of their moves
moves_of_asked : (asked units : Bool) (ran : List Ran)
    → flat_map (moved_text false) (moves_ahead (setting_out units) (cond asked ran [])) ≡ flat_map move_line (cond asked (moves_ahead (setting_out units) ran) [])
moves_of_asked true units ran = refl
moves_of_asked false true ran = refl
moves_of_asked false false ran = refl

pub asked_moves : (asked units : Bool) (ran lent given : List Ran) → lent ≡ ran → given ≡ cond asked lent []
    → flat_map (moved_text false) (moves_ahead (setting_out units) given) ≡ flat_map move_line (cond asked (moves_ahead (setting_out units) ran) [])
asked_moves asked units ran lent given same is =
    ap (λ l. flat_map (moved_text false) (moves_ahead (setting_out units) l)) (is ∙ ap (λ l. cond asked l []) same) ∙ moves_of_asked asked units ran
