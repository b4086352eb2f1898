-- What is laid out of a sketch in each form.
use Rattle.std.specs.Prelude.{◌≡◌, ◌⊎◌, ℕ, List, [], All, Vec, Result, Ok, Err}
use Rattle.dvg_named.specs.declared.meaning.NamedFrame.{NamedFrame}
use Rattle.dvg_named.specs.declared.meaning.RomName.{RomName}
use Rattle.dvg_job.specs.declared.form.LayForm.{LayForm}
use Rattle.dvg_job.specs.declared.form.LayForm.TheVariants.{Bytes, Table, Rom as RomBytes, Equates, Draft}
use Rattle.dvg_blame.specs.declared.refusal.Refusal.{Refusal}
use Rattle.dvg_blame.specs.Refusals.{IsFault, IsGood, IsLow, NamesHighRom}
use Rattle.dvg_lay.specs.Texts.{frames_bytes, name_lines, tables}
use Rattle.dvg_lay.specs.Drafts.{drafts_text}

-- what is laid out over a ROM
abbrev pub form_text : LayForm → (R : List ℕ) → List RomName → List NamedFrame → List ℕ
form_text (Bytes half) R names frames = frames_bytes half frames
form_text Table R names frames = tables 0 frames
form_text RomBytes R names frames = R
form_text Equates R names frames = name_lines names
form_text Draft R names frames = drafts_text R frames

-- of these frames it may be: the check accepts all, and a table can express all; drafts are not checked
abbrev pub MayLay : LayForm → (R : List ℕ) → List NamedFrame → Type 0
MayLay Table R frames = All (IsGood R) frames × All NamesHighRom frames
MayLay Draft R frames = Unit {0}
MayLay _ R frames = All (IsGood R) frames

-- the refusal tells why it may not be
abbrev pub IsRefusal : {A : Type 0} → LayForm → (R : List ℕ) → List RomName → List NamedFrame
    → Refusal A → Type 0
IsRefusal Table R names frames refusal = IsFault R names frames refusal ⊎ IsLow R names frames refusal
IsRefusal Draft R names frames refusal = ⊥
IsRefusal _ R names frames refusal = IsFault R names frames refusal

-- what comes of laying out: the text, or a refusal
abbrev pub Laid : Type 0 → Type 0
Laid A = Result (Vec ℕ A) (Refusal A)

-- what came of it
abbrev pub IsLaid : {A : Type 0} → LayForm → (R : List ℕ) → List RomName → List NamedFrame → Laid A
    → Type 0
IsLaid form R names frames (Ok text) =
    MayLay form R frames × (text.items ≡ form_text form R names frames)
IsLaid form R names frames (Err refusal) = IsRefusal form R names frames refusal

-- the text that is written of it: none of a refusal
abbrev pub shown : {A : Type 0} → Laid A → List ℕ
shown (Ok text) = text.items
shown (Err refusal) = []
