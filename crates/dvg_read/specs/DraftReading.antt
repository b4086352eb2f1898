-- What a reader of texts answers.
use Rattle.std.specs.Prelude.{ℕ, List}
use Rattle.dvg_frame.specs.declared.op.OpKind.{OpKind}
use Rattle.dvg_read.specs.RomTexts.{IsRomOf, RomText}
use Rattle.dvg_read.specs.DraftTexts.{Denotes}

-- the text denotes this draft and a ROM of these bytes
pub record Gives (text : List ℕ) (ops : List OpKind) (R : List ℕ) : Type 0 where
  pub rom : RomText
  pub denotes : Denotes text rom ops
  pub bytes : IsRomOf rom R
