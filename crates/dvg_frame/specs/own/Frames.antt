-- What a frame keeps.
use Rattle.std.specs.Prelude.{◌≡◌, ◌<◌, ◌^◌, ℕ, List, Some, slice_get}
use Rattle.dvg_code.specs.Spelling.{canon}
use Rattle.dvg_mem.specs.declared.half.Half.{Half}
use Rattle.dvg_frame.specs.declared.op.OpKind.{OpKind}
use Rattle.dvg_frame.specs.Bytes.{bytes}
use Rattle.dvg_frame.specs.Layout.{size, op_code}
use Rattle.dvg_frame.specs.Ops.{IsDraft}
use Rattle.dvg_frame.specs.Steps.{IsWellFormed}

-- a draft without the faults 1 to 4
pub record IsFrame (F : List OpKind) : Type 0 where
  pub draft : IsDraft F
  pub begins : IsWellFormed F

-- such a draft, its number of words, and a number below 2 to the power of 63
abbrev pub IsMeasured : List OpKind → ℕ → ℕ → Type 0
IsMeasured F words bound = IsFrame F × (words ≡ size F) × (bound < 2 ^ 63)

-- these are the words of operation i
abbrev pub IsSpelling : Half → List OpKind → ℕ → List ℕ → Type 0
IsSpelling half F i words = (op : OpKind) → slice_get F i ≡ Some op → words ≡ canon (op_code half F op)

-- these are the bytes of operation i
abbrev pub AreBytesOf : Half → List OpKind → ℕ → List ℕ → Type 0
AreBytesOf half F i bs = (op : OpKind) → slice_get F i ≡ Some op → bs ≡ bytes (canon (op_code half F op))
