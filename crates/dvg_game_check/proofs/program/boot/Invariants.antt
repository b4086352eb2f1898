use Rattle.std.proofs.Common.{◌≡◌, ◌-◌, ◌<◌, ℕ}
use Rattle.dvg_game_check.specs.Program.{way}
use Rattle.dvg_game_words.specs.Machine.{word_at, reset_vector}
use Rattle.dvg_game_check.specs.Rules.{HasBytes}
use Rattle.dvg_game_check.proofs.program.boot.Given as goal

abbrev pub invariant-loop-k : goal.invariant-loop-k
invariant-loop-k l = (l.at < 100000) × ((f : ℕ → ℕ) (start : ℕ) → HasBytes l.rom f
    → way (32 - l.k) f l.at start ≡ way 32 f (word_at f reset_vector) start)
