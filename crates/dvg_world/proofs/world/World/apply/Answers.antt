use Rattle.std.proofs.Common.{ap, subst, sym, ◌∙◌}
use Rattle.dvg_world.specs.Standing.{AddsLine, picture_left, shown_in}
use Rattle.dvg_world.specs.Wanting.{TakesMemory}
use Rattle.dvg_world.proofs.EntriesDrew.{left_same, left_shown}
use Rattle.dvg_world.proofs.EventsAddLines.{adds_as, keeps_headline, then_keeps}
use Rattle.dvg_world.proofs.world.World.apply.Goals as goal

pub returns-in-Ok-clause-stands : goal.returns-in-Ok-clause-stands
returns-in-Ok-clause-stands g c =
    let mid = c.happen.new.self in
    let line = subst (λ event. AddsLine c.args.self.now event (shown_in mid c.in-Ok.entry) mid) c.lent.ensures.value
    c.in-Ok.ensures.stands in
    adds_as (sym c.own.ensures.shown) (then_keeps line c.own.ensures.stands)

pub returns-in-Ok-clause-headline : goal.returns-in-Ok-clause-headline
returns-in-Ok-clause-headline g c = keeps_headline _ _ (returns-in-Ok-clause-stands g c)

pub returns-in-Err-clause-room : goal.returns-in-Err-clause-room
returns-in-Err-clause-room g c = λ R image log after.
    subst (TakesMemory R image log) c.lent.ensures.value (c.in-Err.ensures.room R image log after)

pub returns-in-Ok-clause-picture : goal.returns-in-Ok-clause-picture
returns-in-Ok-clause-picture g c =
    let entry = c.in-Ok.entry in
    let mid = c.happen.new.self in
    let before = c.args.self.now.machine.picture in
    c.own.ensures.left ∙ left_same entry before mid.machine.picture c.in-Ok.ensures.picture
    ∙ sym (left_shown entry mid.machine.picture before)
    ∙ ap (λ shown. picture_left shown before) (sym c.own.ensures.shown)
