use Rattle.std.proofs.Common.{ℕ}
use Rattle.dvg_game_words.specs.Checker.{Notes}
use Rattle.dvg_game_check.specs.Least.{AreUnder, IsGame, states_in}
use Rattle.dvg_game_check.specs.Rules.{HasBytes}
use Rattle.dvg_game_check.proofs.maker.find_all.Given as goal

abbrev pub invariant-loop : goal.invariant-loop
invariant-loop g l = (f : ℕ → ℕ) (notes : Notes) → HasBytes l.rom f → IsGame f l.start notes → AreUnder (states_in l.states) notes
