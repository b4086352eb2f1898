use Rattle.std.proofs.Common.{◌≡◌, ◌+◌, ℕ, drop}
use Rattle.dvg_game_words.specs.Checker.{stand_at}
use Rattle.dvg_game_check.specs.Rules.{HasBytes}
use Rattle.dvg_game_check.proofs.program.stands.Given as goal

abbrev pub invariant-loop-i : goal.invariant-loop-i
invariant-loop-i l = (f : ℕ → ℕ) → HasBytes l.rom f → stand_at (drop l.i l.bytes) f (l.at + l.i) ≡ stand_at l.bytes f l.at
