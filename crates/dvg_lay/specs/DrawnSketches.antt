-- What comes of drawing the sketch of a text.
use Rattle.std.specs.Prelude.{ℕ, List, [], Vec, Result, Ok, Err}
use Rattle.std.specs.List.{AllZip}
use Rattle.dvg_gen.specs.declared.stroke.Stroke.{Stroke}
use Rattle.dvg_io.specs.Serving.{Meaning}
use Rattle.dvg_named.specs.declared.meaning.NamedFrame.{NamedFrame}
use Rattle.dvg_named.specs.declared.meaning.RomName.{RomName}
use Rattle.dvg_job.specs.declared.form.Show.{Show}
use Rattle.dvg_svg.specs.Svg.{strokes_of, svgs_text}
use Rattle.dvg_blame.specs.declared.refusal.Refusal.{Refusal}
use Rattle.dvg_lay.specs.Drawings.{IsDrawnFrame, IsUndrawn}
use Rattle.dvg_lay.specs.Sketches.{Makes}

-- what comes of drawing: the pictures of all frames, or a refusal
abbrev pub SketchPictures : Type 0 → Type 0
SketchPictures A = Result (Vec (Vec Stroke A) A) (Refusal A)

-- what came of it: a refusal tells why a frame isn't drawn
abbrev pub DrawsSketch : {A : Type 0} → (R : List ℕ) → List RomName → List NamedFrame → SketchPictures A → Type 0
DrawsSketch R names frames (Ok pictures) = AllZip (IsDrawnFrame R) frames (strokes_of pictures.items)
DrawsSketch R names frames (Err refusal) = IsUndrawn R names frames refusal

-- the text that is written of it: none of a refusal
abbrev pub shown : {A : Type 0} → Show → SketchPictures A → List ℕ
shown show (Ok pictures) = svgs_text show (strokes_of pictures.items)
shown show (Err refusal) = []

-- what is answered of an input, and what went out
abbrev pub Draws : {A : Type 0} → Show → Meaning (SketchPictures A)
Draws show = Makes DrawsSketch (shown show)
