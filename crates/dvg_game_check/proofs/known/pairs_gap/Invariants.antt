use Rattle.std.proofs.Common.{◌≡◌, ℕ, true}
use Rattle.dvg_game_words.specs.Checker.{all_under}
use Rattle.dvg_game_check.specs.Brought.{has_word, known_meant}
use Rattle.dvg_game_check.specs.Rules.{HasBytes}
use Rattle.dvg_game_check.proofs.Knows.{pair_passes}
use Rattle.dvg_game_check.proofs.known.pairs_gap.Given as goal

abbrev pub invariant-loop-y : goal.invariant-loop-y
invariant-loop-y l = (f : ℕ → ℕ) → HasBytes l.rom f
    → all_under l.y (pair_passes (known_meant f l.fact.a) (known_meant f l.fact.x) (has_word l.list)) ≡ true
