use Rattle.std.proofs.Common.{◌≡◌, ◌+◌, ◌&&◌, ◌∙◌, ap, sym, arith}
use Rattle.dvg_game_words.specs.Processor.{target}
use Rattle.dvg_game_words.specs.Checker.{leads}
use Rattle.dvg_game_check.specs.Rules.{level_meant}
use Rattle.dvg_game_check.proofs.Barred.{barred, not_true}
use Rattle.dvg_game_check.proofs.Suited.{both}
use Rattle.dvg_game_check.proofs.forced.branch_forced.Goals as goal

pub returns-then-is_barred : goal.returns-then-is_barred
returns-then-is_barred c is all n under comes =
    not_true (leads all (target c.args.at c.args.low) n && leads all (c.args.at + 2) n) (λ h.
    let two = both (leads all (target c.args.at c.args.low) n) (leads all (c.args.at + 2) n) h in
    barred all c.target.result (level_meant c.args.now.now.level) c.from-depth.result n
    (λ x. c.is_barred.ensures c.if-is_barred.true all x under)
    (ap (λ a. leads all a n) c.target.ensures ∙ two.0) (sym comes.level) (sym comes.depth ∙ sym c.from-depth.ensures))

pub returns : goal.returns
returns c is all n under comes =
    not_true (leads all (target c.args.at c.args.low) n && leads all (c.args.at + 2) n) (λ h.
    let two = both (leads all (target c.args.at c.args.low) n) (leads all (c.args.at + 2) n) h in
    barred all (c.args.at + 2) (level_meant c.args.now.now.level) c.from-depth.result n
    (λ x. c.is_barred-2.ensures is all x under) two.1 (sym comes.level) (sym comes.depth ∙ sym c.from-depth.ensures))
