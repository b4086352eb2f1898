-- What comes of the sketch of a text.
use Rattle.std.specs.Prelude.{ℕ, List, map}
use Rattle.dvg_io.specs.Serving.{Answers, Meaning}
use Rattle.dvg_named.specs.declared.meaning.NamedFrame.{NamedFrame}
use Rattle.dvg_named.specs.declared.meaning.RomName.{RomName}
use Rattle.dvg_named.specs.SketchFaults.{HasSketchFault}
use Rattle.dvg_named.specs.ReadSketches.{IsSketchOf, lent_of}
use Rattle.dvg_job.specs.declared.form.LayForm.{LayForm}
use Rattle.dvg_lay.specs.Forms.{IsLaid, Laid, shown}

-- what may come of frames over a ROM with names
abbrev pub Coming : Type 0 → Type 1
Coming F = (R : List ℕ) → List RomName → List NamedFrame → F → Type 0

-- the text denotes frames over a ROM with names, and this came of these
pub record ComesOf {F : Type 0} (Comes : Coming F) (text : List ℕ) (found : F) : Type 0 where
  pub R : List ℕ
  pub names : List RomName
  pub frames : List NamedFrame
  pub is : IsSketchOf text R names (map lent_of frames)
  pub came : Comes R names frames found

-- what is answered of an input, and what went out, where this may come of its frames
abbrev pub Makes : {F : Type 0} → Coming F → (text : F → List ℕ) → Meaning F
Makes Comes text = Answers (ComesOf Comes) HasSketchFault text

-- the same of frames that are laid out
abbrev pub Lays : {A : Type 0} → LayForm → Meaning (Laid A)
Lays form = Makes (IsLaid form) shown
