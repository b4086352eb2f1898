use Rattle.std.proofs.Common.{◌+◌, ◌∙◌, ap, arith, refl, sym}
use Rattle.dvg_game_words.specs.Processor.{target}
use Rattle.dvg_game_words.specs.Checker.{leads}
use Rattle.dvg_game_check.proofs.Onwards.{on_same}
use Rattle.dvg_game_check.proofs.Suited.{both}
use Rattle.dvg_game_check.proofs.step.branch.Goals as goal

pub returns : goal.returns
returns c m n notes comes fine =
    let two = both (leads notes (target c.args.at c.args.low) n) (leads notes (c.args.at + 2) n) fine in
    record {
      next = on_same m n notes comes (c.args.at + 2) two.1;
      to = on_same m n notes comes c.target.result (ap (λ a. leads notes a n) c.target.ensures ∙ two.0);
      room = omega arith;
      ends = refl;
    }
