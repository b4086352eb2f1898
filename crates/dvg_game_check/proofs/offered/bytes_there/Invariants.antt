use Rattle.std.proofs.Common.{◌≡◌, ℕ, ◌+◌, ◌<◌, get_or}
use Rattle.dvg_game_words.specs.Tables.{table_of}
use Rattle.dvg_game_check.specs.Rules.{HasBytes}
use Rattle.dvg_game_check.proofs.offered.bytes_there.Given as goal

abbrev pub invariant-loop-k : goal.invariant-loop-k
invariant-loop-k l = (f : ℕ → ℕ) → HasBytes l.rom f → (k : ℕ) → k < l.k
    → f (l.at + k) ≡ get_or (table_of l.frame.operations) k 0
