use Rattle.std.proofs.Common.{◌≡◌, ◌+◌, ◌%◌, sym, ◌∙◌, arith, false}
use Rattle.dvg_game_check.specs.Rules.{test_meant}
use Rattle.dvg_game_check.proofs.Loops.{all_under_fails, all_under_full}
use Rattle.dvg_game_check.proofs.reach.all_pass.Goals as goal

pub returns-then-not-passes : goal.returns-then-not-passes
returns-then-not-passes c =
    sym (all_under_fails (λ k. test_meant c.args.test ((c.args.from + k) % 65536)) 256 c.loop-k.k (omega arith) (cc))

pub returns : goal.returns
returns c =
    sym (all_under_full (λ k. test_meant c.args.test ((c.args.from + k) % 65536)) c.loop-k.k 256 (omega arith) c.loop-k.invariant)
