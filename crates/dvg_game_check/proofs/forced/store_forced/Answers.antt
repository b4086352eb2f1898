use Rattle.std.proofs.Common.{◌≡◌, ◌+◌, ◌&&◌, ◌∙◌, ap, not, sym, arith}
use Rattle.dvg_game_words.specs.Kinds.{size}
use Rattle.dvg_game_words.specs.Machine.{is_own}
use Rattle.dvg_game_words.specs.Checker.{Note, leads, may_write}
use Rattle.dvg_game_check.specs.Meant.{place_meant}
use Rattle.dvg_game_check.specs.Rules.{level_meant, reached_by}
use Rattle.dvg_game_check.proofs.Barred.{barred, not_true}
use Rattle.dvg_game_check.proofs.Suited.{both}
use Rattle.dvg_game_check.proofs.forced.store_forced.Goals as goal

pub returns : goal.returns
returns c is all n under comes =
    let place = place_meant c.args.place in
    let may = reached_by place c.args.low c.args.word (may_write n.level) in
    let new : Note = record n { awake = n.awake && reached_by place c.args.low c.args.word (λ a. not (is_own a)) } in
    not_true (may && leads all (c.args.at + size place) new) (λ h.
    let two = both may (leads all (c.args.at + size place) new) h in
    barred all (c.args.at + c.from.result) (level_meant c.args.now.now.level) c.from-2.result new
    (λ x. c.is_barred.ensures is all x under)
    (ap (λ b. leads all (c.args.at + b) new) (c.from.ensures ∙ c.size.ensures) ∙ two.1)
    (sym comes.level) (sym comes.depth ∙ sym c.from-2.ensures))
