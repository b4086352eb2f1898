-- Laws of what is laid out.
use Rattle.std.specs.Prelude.{◌≡◌, ℕ, ◌<◌, ◌^◌, List, [], ◌∷◌, All, Some, length, map, slice_get, take}
use Rattle.dvg_code.specs.Cutting.{Cutting, Placed}
use Rattle.dvg_code.specs.Spelling.{canon}
use Rattle.dvg_code.specs.Words.{words_of}
use Rattle.dvg_mem.specs.Memory.{IsRom}
use Rattle.dvg_mem.specs.declared.half.Half.{Half}
use Rattle.dvg_frame.specs.declared.op.OpKind.{OpKind}
use Rattle.dvg_frame.specs.declared.op.OpKind.TheVariants.{Call, Jump}
use Rattle.dvg_frame.specs.Bytes.{bytes}
use Rattle.dvg_frame.specs.Layout.{laid, op_code, size}
use Rattle.dvg_frame.specs.Ops.{IsDraft}
use Rattle.dvg_named.specs.ReadSketches.{IsSketchOf, lent_of}
use Rattle.dvg_named.specs.declared.meaning.NamedFrame.{NamedFrame}
use Rattle.dvg_named.specs.declared.meaning.RomName.{RomName}
use Rattle.dvg_read.specs.DraftReading.{Gives}
use Rattle.dvg_lay.specs.Drafts.{drafts_text}
use Rattle.dvg_blame.specs.Refusals.{IsLent}

-- an operation of a draft as an instruction at a place, with its canonical words for a half
abbrev pub op_at : Half → List OpKind → ℕ → OpKind → Placed
op_at half F place op =
    record { place = place; instr = op_code half F op; words = canon (op_code half F op) }

-- a cutting has a draft's operations in order, each at the place after the words before it, and no rest
pub record IsOfDraft (half : Half) (F : List OpKind) (cutting : Cutting (laid half F)) : Type 0 where
  pub count : length cutting.items ≡ length F
  pub each : (i : ℕ) (op : OpKind) → slice_get F i ≡ Some op
      → slice_get cutting.items i ≡ Some (op_at half F (size (take i F)) op)
  pub ends : cutting.end ≡ size F
  pub whole : cutting.rest ≡ []

-- the words of each draft have a cutting, and each cutting of them has the draft's operations
abbrev pub ListsAsDraft : Type 0
ListsAsDraft = (half : Half) (F : List OpKind) → IsDraft F
    → Cutting (laid half F) × ((cutting : Cutting (laid half F)) → IsOfDraft half F cutting)

-- the bytes of a layout make its words again
abbrev pub WordsAgain : Type 0
WordsAgain = (half : Half) (F : List OpKind) → words_of (bytes (laid half F)) ≡ laid half F

-- the number of a call or a jump has 16 bits, as each has in memory
abbrev pub IsNumbered : OpKind → Type 0
IsNumbered (Call n) = n < 2 ^ 16
IsNumbered (Jump n) = n < 2 ^ 16
IsNumbered op = Unit {0}

-- what is written of one frame over a ROM is a text of its draft and of this ROM
abbrev pub ReadAsDraft : Type 0
ReadAsDraft = (R : List ℕ) (frame : NamedFrame) → IsRom R → IsDraft frame.ops.now → All IsNumbered frame.ops.now
    → Gives (drafts_text R (frame ∷ [])) frame.ops.now R

-- the frames of a sketch that was read are as they are to be lent
abbrev pub AreLent : Type 0
AreLent = (text R : List ℕ) (names : List RomName) (frames : List NamedFrame)
    → IsSketchOf text R names (map lent_of frames) → All IsLent frames
