use Rattle.std.proofs.Common.{◌+◌, sym, ◌∙◌, arith}
use Rattle.dvg_game_words.specs.Checker.{fine_at, first, noted, places}
use Rattle.dvg_game_check.specs.Rules.{notes_in}
use Rattle.dvg_game_check.proofs.Loops.{all_under_more, all_under_full, places_are}
use Rattle.dvg_game_check.proofs.program.first_bad.Goals as goal

pub loop-i-preserved : goal.loop-i-preserved
loop-i-preserved c f h =
    all_under_more (λ i. fine_at (notes_in c.args.notes.now) f (first + i) (noted (notes_in c.args.notes.now) (first + i))) c.loop-i.i
    (c.loop-i.invariant f h) (sym (c.fine_place.ensures f h) ∙ c.if-not-fine_place.false)

pub returns : goal.returns
returns c f h =
    all_under_full (λ i. fine_at (notes_in c.args.notes.now) f (first + i) (noted (notes_in c.args.notes.now) (first + i))) c.loop-i.i
    places (omega (arith, places_are)) (c.loop-i.invariant f h)
