-- Laws of the check's answer.
use Rattle.std.specs.Prelude.{◌≡◌, ◌<◌, ◌^◌, ◌↔◌, ℕ, List, Result}
use Rattle.dvg_frame.specs.declared.op.OpKind.{OpKind}
use Rattle.dvg_frame.specs.declared.fault.FrameFault.{FrameFault}
use Rattle.dvg_gen.specs.declared.stroke.Stroke.{Stroke}
use Rattle.dvg_mem.specs.Memory.{IsGrown, IsRom, first_word}
use Rattle.dvg_frame.specs.Steps.{Closed}
use Rattle.dvg_frame.specs.Picture.{IsPicture}
use Rattle.dvg_frame.specs.Loops.{HasLoop, ComesBack}
use Rattle.dvg_frame.specs.Faults.{Refuses, Accepts, FrameState, IsChecked}

-- at most one fault is picked
abbrev pub OneFault : Type 0
OneFault = (F : List OpKind) (R : List ℕ) (one other : FrameFault) → Refuses F R one → Refuses F R other → other ≡ one

-- no fault is picked of a draft that has none and no loop
abbrev pub AcceptedStays : Type 0
AcceptedStays = (F : List OpKind) (R : List ℕ) → Accepts F R → (fault : FrameFault) → ¬ Refuses F R fault

-- exactly one answer holds of each draft over each ROM
abbrev pub OneAnswer : Type 0
OneAnswer = (F : List OpKind) (R : List ℕ) → IsRom R → (answer : Result FrameState FrameFault) × IsChecked F R answer
    × ((other : Result FrameState FrameFault) → IsChecked F R other → other ≡ answer)

-- a draft with no fault and no loop has exactly one picture, of fewer than 2^63 words
abbrev pub OnePicture : Type 0
OnePicture = (F : List OpKind) (R : List ℕ) → IsRom R → Accepts F R
    → (strokes : List Stroke) × (n : ℕ) × IsPicture F R strokes n × (n < 2 ^ 63)
    × ((others : List Stroke) (m : ℕ) → IsPicture F R others m → (others ≡ strokes) × (m ≡ n))

-- a draft without the faults 1 to 8 has a loop exactly where a reached pair comes back to itself
abbrev pub LoopsComeBack : Type 0
LoopsComeBack = (F : List OpKind) (R : List ℕ) → IsRom R → Closed F R → (HasLoop F R ↔ ComesBack F R)

-- a draft without the faults 1 to 8 has none over the ROM that a smaller one grows to, and the same pictures
abbrev pub GrownStays : Type 0
GrownStays = (F : List OpKind) (R grown : List ℕ) → IsGrown R grown → first_word R ≡ 0x800 → Closed F R
    → Closed F grown × ((strokes : List Stroke) (n : ℕ) → IsPicture F grown strokes n ↔ IsPicture F R strokes n)
