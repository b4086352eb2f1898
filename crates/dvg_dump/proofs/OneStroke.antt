-- The one stroke of an instruction.
use Rattle.std.proofs.Common.{◌≡◌, ℕ, zero, suc, List, [], ◌∷◌, ◌++◌, Option, refl, sym, ap, ◌∙◌, flat_map, append-nil}
use Rattle.std.proofs.lemmas.Grind.{flat_map-append}
use Rattle.std.specs.Prelude.{option_to_list, slice_get}
use Rattle.dvg_code.specs.declared.instr.Instr.{Instr}
use Rattle.dvg_code.specs.declared.instr.Instr.TheVariants.{Vctr, Labs, Halt, Jsrl, Rtsl, Jmpl, Svec}
use Rattle.dvg_gen.specs.declared.beam.Beam.{Beam}
use Rattle.dvg_gen.specs.declared.stroke.Stroke.{Stroke}
use Rattle.dvg_gen.specs.Drawing.{moved, line, drawn}
use Rattle.dvg_gen.specs.Run.{Visit, beam_after}
use Rattle.dvg_gen.specs.Told.{nothing}
use Rattle.dvg_dump.specs.declared.ran.Ran.{Ran}
use Rattle.dvg_dump.specs.Ends.{drawn_by}
use Rattle.dvg_dump.specs.Traces.{ran_of, trace}

one_line : (from to : Beam) (z : ℕ) → option_to_list (slice_get (line from to z) 0) ≡ line from to z
one_line from to zero = refl
one_line from to (suc z) = refl

-- there is one at most
one_drawn : (beam : Beam) (code : Instr) → option_to_list (slice_get (drawn beam code) 0) ≡ drawn beam code
one_drawn beam (Vctr scale dx dy z) = one_line beam (moved beam (Vctr scale dx dy z)) z
one_drawn beam (Labs x y scale) = refl
one_drawn beam Halt = refl
one_drawn beam (Jsrl address) = refl
one_drawn beam Rtsl = refl
one_drawn beam (Jmpl address) = refl
one_drawn beam (Svec scale dx dy z) = one_line beam (moved beam (Svec scale dx dy z)) z

abbrev strokes_recorded : List Ran → List Stroke
strokes_recorded = flat_map (λ ran. option_to_list ran.stroke)

-- the strokes that are recorded are those of the run
pub strokes_of_trace : (memory : ℕ → Option ℕ) (visits : List Visit) → drawn_by visits ≡ strokes_recorded (trace memory visits)
strokes_of_trace memory [] = refl
strokes_of_trace memory (visit ∷ older) =
    let before = beam_after nothing.first older in
    ap (λ l. l ++ drawn before visit.code) (strokes_of_trace memory older)
    ∙ ap (λ l. strokes_recorded (trace memory older) ++ l) (sym (append-nil _ ∙ one_drawn before visit.code))
    ∙ sym (flat_map-append (λ ran. option_to_list ran.stroke) (trace memory older) (ran_of memory before visit ∷ []))
