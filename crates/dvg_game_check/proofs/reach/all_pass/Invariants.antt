use Rattle.std.proofs.Common.{◌≡◌, ◌+◌, ◌%◌, true}
use Rattle.dvg_game_words.specs.Checker.{all_under}
use Rattle.dvg_game_check.specs.Rules.{test_meant}
use Rattle.dvg_game_check.proofs.reach.all_pass.Given as goal

abbrev pub invariant-loop-k : goal.invariant-loop-k
invariant-loop-k l = all_under l.k (λ k. test_meant l.test ((l.from + k) % 65536)) ≡ true
