use Rattle.std.proofs.Common.{◌+◌, ◌∙◌, ap, arith, refl}
use Rattle.dvg_game_words.specs.Checker.{interrupts, noted}
use Rattle.dvg_game_check.proofs.Barred.{interrupts_there, starts_there}
use Rattle.dvg_game_check.proofs.forced.is_forced.Goals as goal

pub returns-then-is_barred : goal.returns-then-is_barred
returns-then-is_barred c is f all has game under =
    let there = starts_there (noted all c.args.start) game.begins in
    c.is_barred.ensures c.if-is_barred.true all there.0 under there.1.0 there.1.1.0 there.1.1.1

pub returns-then-is_barred-2 : goal.returns-then-is_barred-2
returns-then-is_barred-2 c is f all has game under =
    let there = interrupts_there (noted all c.from.result)
    (ap (λ a. interrupts (noted all a)) (c.from.ensures ∙ c.word_at.ensures f has) ∙ game.nmi) in
    c.is_barred-2.ensures c.if-is_barred-2.true all there.0 under there.1.0 there.1.1.0 there.1.1.1

pub returns-then-place_forced : goal.returns-then-place_forced
returns-then-place_forced c is f all has game under =
    c.place_forced.ensures c.if-place_forced.true f all has under (game.fine (0x6A87 + c.loop-i.i))
