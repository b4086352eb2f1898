-- What `picture` writes.
use Rattle.std.specs.Prelude.{ℕ, List, [], ◌∷◌, ◌++◌, ◌||◌, Option, Bool, true, false, codes, cond, decimal, flat_map}
use Rattle.std.specs.Prelude.{length, option_to_list}
use Rattle.dvg_gen.specs.declared.moving.Move.{Move}
use Rattle.dvg_gen.specs.Moving.{seen, seen_by}
use Rattle.dvg_gen.specs.Run.{Visit}
use Rattle.dvg_print.specs.Lines.{spaced}
use Rattle.dvg_print.specs.RunLines.{broke_line, endless_line, instruction_line, move_line}
use Rattle.dvg_print.specs.Shows.{stroke_line}
use Rattle.dvg_dump.specs.declared.ran.Ran.{Ran}
use Rattle.dvg_dump.specs.Ends.{End, Complete, Broken, Endless}
use Rattle.dvg_dump.specs.Traces.{trace}
use Rattle.dvg_dump.specs.Units.{moves_ahead, moves_in, setting_out}
use Rattle.dvg_job.specs.declared.form.PictureForm.{PictureForm}

-- the line of an instruction that was run, and that of its stroke, if it drew one
abbrev pub ran_text : Ran → List ℕ
ran_text ran = instruction_line ran.address ran.code ran.canonical ran.beam
    ++ flat_map stroke_line (option_to_list ran.stroke)

-- how the run ends: `picture` with the numbers of words and of strokes, and the strokes' lines, with `units` those that
-- are seen of the moves; `broke` with an address and a fault's number; or `endless`; 10 is LF
abbrev pub end_text : (units : Bool) → List Move → End → List ℕ
end_text units moves (Complete words drew) =
    (codes "picture" ++ spaced (decimal words ∷ decimal (length drew) ∷ []) ++ 10 ∷ [])
    ++ flat_map stroke_line (cond units (seen moves) drew)
end_text units moves (Broken address fault) = broke_line address fault
end_text units moves Endless = endless_line

-- the instructions that were run, or their moves, where these are asked for, and then how the run ends
abbrev pub run_text : PictureForm → List Ran → List Move → End → List ℕ
run_text form ran moves end = flat_map ran_text (cond form.all ran [])
    ++ flat_map move_line (cond form.moves moves [])
    ++ end_text form.units moves end

-- what is written of a run over a memory
abbrev pub picture_text : PictureForm → (ℕ → Option ℕ) → List Visit → End → List ℕ
picture_text form memory visits end = run_text form (trace memory visits) (moves_in form.units visits) end

-- instructions have to be recorded for this form (for a private contract)
abbrev pub traces : PictureForm → Bool
traces form = form.all || form.moves || form.units

-- what is written of recorded instructions (for a private contract)
abbrev pub recorded_text : PictureForm → List Ran → End → List ℕ
recorded_text form ran end = run_text form ran (moves_ahead (setting_out form.units) ran) end

-- the line of a move, or with `as_strokes` that of its stroke, if it is seen (for a private contract)
abbrev pub moved_text : (as_strokes : Bool) → Move → List ℕ
moved_text true move = flat_map stroke_line (seen_by move.z move)
moved_text false move = move_line move
