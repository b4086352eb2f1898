-- Operations that run straight to their end.
use Rattle.std.specs.Prelude.{◌≡◌, ℕ, ◌+◌, ◌↔◌, List, [], ◌∷◌, IsTrue}
use Rattle.dvg_code.specs.declared.instr.Instr.{Instr}
use Rattle.dvg_frame.specs.declared.op.OpKind.{OpKind}
use Rattle.dvg_frame.specs.declared.op.OpKind.TheVariants.{Draw, Halt}
use Rattle.dvg_frame.specs.declared.checking.straight.Measure.{Measure}
use Rattle.dvg_frame.specs.Layout.{size}

-- vectors and LABS, and then the only HALT
pub data RunsStraight : List OpKind → Type 0 where
  halts : RunsStraight (Halt ∷ [])
  draws : {instr : Instr} {ops : List OpKind} → RunsStraight ops → RunsStraight (Draw instr ∷ ops)

-- one for a vector or a LABS
abbrev pub draw_of : OpKind → ℕ
draw_of (Draw instr) = 1
draw_of _ = 0

-- how many operations of a list are vectors and LABS
abbrev pub draw_count : List OpKind → ℕ
draw_count [] = 0
draw_count (op ∷ ops) = draw_of op + draw_count ops

-- what a draft measures
pub record IsMeasure (F : List OpKind) (measure : Measure) : Type 0 where
  pub words : measure.words ≡ size F
  pub straight : IsTrue measure.is_straight ↔ RunsStraight F
