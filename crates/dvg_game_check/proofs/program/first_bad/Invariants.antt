use Rattle.std.proofs.Common.{◌≡◌, ◌+◌, ℕ, true}
use Rattle.dvg_game_words.specs.Checker.{all_under, fine_at, first, noted}
use Rattle.dvg_game_check.specs.Rules.{HasBytes, notes_in}
use Rattle.dvg_game_check.proofs.program.first_bad.Given as goal

abbrev pub invariant-loop-i : goal.invariant-loop-i
invariant-loop-i l = (f : ℕ → ℕ) → HasBytes l.rom f
    → all_under l.i (λ i. fine_at (notes_in l.notes) f (first + i) (noted (notes_in l.notes) (first + i))) ≡ true
