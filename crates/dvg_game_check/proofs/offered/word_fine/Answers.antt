use Rattle.std.proofs.Common.{sym, ◌∙◌, arith, inl, inr}
use Rattle.dvg_game_check.proofs.offered.word_fine.Goals as goal

pub returns-then-is_short : goal.returns-then-is_short
returns-then-is_short g c so = inl (sym c.is_short.ensures ∙ c.if-is_short.true)

pub returns : goal.returns
returns g c so = inr (omega arith, omega arith, c.shape_fine.ensures so)
