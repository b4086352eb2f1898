use Rattle.std.proofs.Common.{◌≡◌, ◌+◌, ℕ, true}
use Rattle.dvg_game_words.specs.Checker.{all_under, first, noted}
use Rattle.dvg_game_words.specs.Brings.{brings_at}
use Rattle.dvg_game_check.specs.Brought.{has, has_word, ways_in}
use Rattle.dvg_game_check.specs.Rules.{HasBytes, notes_in}
use Rattle.dvg_game_check.proofs.known.brings_gap.Given as goal

abbrev pub invariant-loop-i : goal.invariant-loop-i
invariant-loop-i l = (f : ℕ → ℕ) → HasBytes l.rom f → all_under l.i (λ i. brings_at (has l.tables) (has_word l.words) f
    (ways_in l.ways) (first + i) (noted (notes_in l.notes) (first + i))) ≡ true
