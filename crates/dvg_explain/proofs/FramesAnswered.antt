-- What the check says of the frames of a sketch that was read.
use Rattle.std.proofs.Common.{◌≡◌, All, List, ℕ, map, subst, sym}
use Rattle.dvg_blame.specs.Refusals.{IsFault, IsGood}
use Rattle.dvg_blame.specs.declared.refusal.Refusal.{Refusal}
use Rattle.dvg_named.specs.ReadSketches.{IsReadOf, IsSketchOf, frames_in, lent_of}
use Rattle.dvg_named.specs.declared.meaning.NamedFrame.{NamedFrame}
use Rattle.dvg_named.specs.declared.meaning.RomName.{RomName}
use Rattle.dvg_named.specs.declared.sketch.Sketch.{Sketch}
use Rattle.dvg_explain.specs.Answers.{AcceptsFrames, IsOfFrames, RefusesFrame}

-- the text denotes these frames
of_frames : {A : Type 0} (text : List ℕ) (sketch : Sketch A) (frames : List NamedFrame) → map lent_of frames ≡ frames_in sketch → IsReadOf text sketch → IsOfFrames text
of_frames text sketch frames same is = record {
  R = sketch.rom.items;
  names = sketch.names.items;
  frames = frames;
  is = subst (IsSketchOf text sketch.rom.items sketch.names.items) (sym same) is;
}

pub accepts : {A : Type 0} (text : List ℕ) (sketch : Sketch A) (frames : List NamedFrame) (R : List ℕ) → map lent_of frames ≡ frames_in sketch → R ≡ sketch.rom.items
    → IsReadOf text sketch → All (IsGood R) frames → AcceptsFrames text
unfolding of_frames
accepts text sketch frames R same rom is good =
    (of_frames text sketch frames same is, subst (λ R. All (IsGood R) frames) rom good)

refused_by : {A : Type 0} (text : List ℕ) (sketch : IsOfFrames text) (names : List RomName) (refusal : Refusal A) → IsFault sketch.R names sketch.frames refusal → RefusesFrame text
refused_by text sketch names refusal fault = (
  sketch,
  record {
    before = fault.before;
    item = fault.item;
    after = fault.after;
    cut = fault.cut;
    good = fault.good;
    bad = (fault.bad.0, fault.bad.1);
  },
)

pub refuses : {A : Type 0} (text : List ℕ) (sketch : Sketch A) (frames : List NamedFrame) (R : List ℕ) (names : List RomName) (refusal : Refusal A)
    → map lent_of frames ≡ frames_in sketch → R ≡ sketch.rom.items → IsReadOf text sketch → IsFault R names frames refusal → RefusesFrame text
unfolding of_frames
refuses text sketch frames R names refusal same rom is fault =
    refused_by text (of_frames text sketch frames same is) names refusal (subst (λ R. IsFault R names frames refusal) rom fault)
