-- The law of undisturbed runs.
use Rattle.std.specs.Prelude.{◌≡◌, ◌≢◌, ℕ, suc, ◌+◌, ◌<◌, ◌≤◌, ◌↔◌, List, length, Option, Some, None, slice_index}
use Rattle.dvg_mem.specs.declared.half.Half.{Half}
use Rattle.dvg_mem.specs.Areas.{base}
use Rattle.dvg_mem.specs.Memory.{rom_word, fetched, IsRom}
use Rattle.dvg_gen.specs.declared.beam.Beam.{Beam}
use Rattle.dvg_gen.specs.declared.stroke.Stroke.{Stroke}
use Rattle.dvg_gen.specs.declared.taken.GenFault.{GenFault}
use Rattle.dvg_gen.specs.Run.{Visit, Goes, Finished, Breaks, Runs, fate, wanted, strokes}
use Rattle.dvg_frame.specs.declared.op.OpKind.{OpKind}
use Rattle.dvg_frame.specs.Ops.{IsDraft}
use Rattle.dvg_frame.specs.Layout.{laid}
use Rattle.dvg_frame.specs.Steps.{Closed}
use Rattle.dvg_frame.specs.Picture.{IsPicture}
use Rattle.dvg_log.specs.Held.{HoldsFrame}

-- the memory has the jump to this half in word zero, the laid draft in the half, and the ROM's words
pub record HasFrame (memory : ℕ → Option ℕ) (half : Half) (F : List OpKind) (R : List ℕ) : Type 0 where
  pub zero : memory 0 ≡ Some (0xE000 + base half)
  pub laid : (k : ℕ) → k < length (laid half F) → memory (base half + k) ≡ Some (slice_index (laid half F) k)
  pub shapes : (a word : ℕ) → rom_word R a ≡ Some word → memory a ≡ Some word

-- a run from this beam ends in HALT after n words, with these strokes
pub record Finishes (memory : ℕ → Option ℕ) (beam : Beam) (drew : List Stroke) (n : ℕ) : Type 0 where
  pub visits : List Visit
  pub runs : Runs memory n visits None
  pub finished : fate visits ≡ Finished
  pub strokes : strokes beam visits ≡ drew

-- no run meets a hole, and none makes a call or a return that breaks it
pub record NeverBreaks (memory : ℕ → Option ℕ) : Type 0 where
  pub fault : (n : ℕ) (visits : List Visit) (held : Option ℕ) → Runs memory n visits held → (fault : GenFault)
      → fate visits ≢ Breaks fault
  pub hole : (n : ℕ) (visits : List Visit) (held : Option ℕ) → Runs memory n visits held → fate visits ≡ Goes
      → memory (wanted visits held) ≢ None

-- no run breaks, and from any beam there is one of n words that ends in HALT with these strokes exactly when they are
-- the draft's picture in n words
pub record IsDrawn (F : List OpKind) (R : List ℕ) (memory : ℕ → Option ℕ) : Type 0 where
  pub safe : NeverBreaks memory
  pub exact : (beam : Beam) (drew : List Stroke) (n : ℕ) → Finishes memory beam drew n ↔ IsPicture F R drew n

-- the draft of a checked frame is drawn out of each memory that has it
abbrev pub AnyMemory : Type 0
AnyMemory = (half : Half) (F : List OpKind) (R : List ℕ) (memory : ℕ → Option ℕ) → IsDraft F → IsRom R → Closed F R
    → HasFrame memory half F R → IsDrawn F R memory

-- the same of a RAM beside the ROM
abbrev pub Undisturbed : Type 0
Undisturbed = (half : Half) (F : List OpKind) (ram R : List ℕ) → IsDraft F → IsRom R → Closed F R
    → HoldsFrame ram half F → IsDrawn F R (fetched ram R)

-- no run that goes on wants word zero again
abbrev pub OnlyFirst : Type 0
OnlyFirst = (half : Half) (F : List OpKind) (R : List ℕ) (memory : ℕ → Option ℕ) → IsDraft F → IsRom R → Closed F R
    → HasFrame memory half F R
    → (n : ℕ) (visits : List Visit) (held : Option ℕ) → Runs memory (suc n) visits held → fate visits ≡ Goes
    → wanted visits held ≢ 0

-- where the draft has a picture of n words, no run has more, and each of n ends in HALT with the picture's strokes
abbrev pub EndsInTime : Type 0
EndsInTime = (half : Half) (F : List OpKind) (R : List ℕ) (memory : ℕ → Option ℕ) → IsDraft F → IsRom R → Closed F R
    → HasFrame memory half F R
    → (beam : Beam) (drew : List Stroke) (n : ℕ) → IsPicture F R drew n
    → (m : ℕ) (visits : List Visit) (held : Option ℕ) → Runs memory m visits held
    → (m ≤ n) × (m ≡ n → (held ≡ None) × (fate visits ≡ Finished) × (strokes beam visits ≡ drew))
