use Rattle.std.proofs.Common.{not, refl}
use Rattle.dvg_driver.specs.declared.state.Phase.TheVariants as phase
use Rattle.dvg_driver.proofs.Shapes.{rests_whole}
use Rattle.dvg_driver.proofs.DriverAfterLife.{at_phase, begun_draft, begun_frame, not_whole}
use Rattle.dvg_driver.proofs.driver.Driver.offer_checked.Goals as goal

pub returns-in-Resting-clause-accepted : goal.returns-in-Resting-clause-accepted
returns-in-Resting-clause-accepted c peeked life stands =
    let driver = c.self.inside in
    let at = at_phase driver c.args.self.now phase.Resting peeked life c.self.view_is c.in-Resting.is stands in
    (λ ok. rests_whole life (not driver.flipped) at.place, λ whole. refl)

pub returns-in_default-clause-accepted : goal.returns-in_default-clause-accepted
returns-in_default-clause-accepted c peeked life stands =
    let driver = c.self.inside in
    let at = at_phase driver c.args.self.now driver.phase peeked life c.self.view_is refl stands in
    (λ ok. absurd (cc), λ whole. absurd (not_whole driver.phase driver.cursor driver.half driver.flipped life c.in_default.not-Resting at.place whole))

pub invariant_of-self : goal.invariant_of-self
invariant_of-self c =
    begun_frame _ c.args.checked.now.operations c.other.result c.self.inside.half c.other.ensures c.begin.ensures.cursor

pub returns-in-Resting-clause-frame : goal.returns-in-Resting-clause-frame
returns-in-Resting-clause-frame c = begun_draft _ c.args.checked.now.operations c.other.result c.begin.ensures.cursor
