-- Which pictures frames have, and why one isn't drawn.
use Rattle.std.specs.Prelude.{◌≡◌, ◌⊎◌, ◌<◌, ◌≤◌, ℕ, List}
use Rattle.dvg_gen.specs.declared.stroke.Stroke.{Stroke}
use Rattle.dvg_frame.specs.Picture.{IsBound, IsPicture}
use Rattle.dvg_frame.specs.declared.place.Place.TheVariants.{InFrame}
use Rattle.dvg_named.specs.declared.meaning.NamedFrame.{NamedFrame}
use Rattle.dvg_named.specs.declared.meaning.RomName.{RomName}
use Rattle.dvg_blame.specs.declared.refusal.Reason.TheVariants.{ManyWords}
use Rattle.dvg_blame.specs.declared.refusal.Refusal.{Refusal}
use Rattle.dvg_blame.specs.Refusals.{Blames, IsFirst, IsGood, TellsFault}
use Rattle.dvg_dump.specs.declared.runs.TheConstants.{MOST_WORDS}

-- the check accepts the frame over a ROM, and its picture has these strokes and at most 65,536 words
pub record IsDrawnFrame (R : List ℕ) (frame : NamedFrame) (strokes : List Stroke) : Type 0 where
  pub good : IsGood R frame
  pub words : ℕ
  pub picture : IsPicture frame.ops.now R strokes words
  pub few : words ≤ MOST_WORDS

-- the frame can be drawn
abbrev pub CanBeDrawn : (R : List ℕ) → NamedFrame → Type 0
CanBeDrawn R frame = (strokes : List Stroke) × IsDrawnFrame R frame strokes

-- the check accepts the frame, and the refusal tells how many words its picture has, more than 65,536
pub record TellsLong {A : Type 0} (R : List ℕ) (names : List RomName)
    (described : Refusal A) (frame : NamedFrame) : Type 0
  where
    pub good : IsGood R frame
    pub words : ℕ
    pub bound : IsBound frame.ops.now R words
    pub many : MOST_WORDS < words
    pub reason : described.reason ≡ ManyWords words
    pub blames : Blames names frame (InFrame 0) described.blamed

-- the refusal tells why a frame isn't drawn: the fault that the check picks, or how long its picture is
abbrev pub TellsUndrawn : {A : Type 0} → (R : List ℕ) → List RomName → Refusal A → NamedFrame → Type 0
TellsUndrawn R names refusal frame = TellsFault R names refusal frame ⊎ TellsLong R names refusal frame

-- it tells of the first frame that can't be drawn
abbrev pub IsUndrawn : {A : Type 0} → (R : List ℕ) → List RomName → List NamedFrame → Refusal A → Type 0
IsUndrawn R names frames refusal = IsFirst (CanBeDrawn R) (TellsUndrawn R names refusal) frames
