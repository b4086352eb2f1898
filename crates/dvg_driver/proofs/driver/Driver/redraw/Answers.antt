use Rattle.std.proofs.Common.{not, refl}
use Rattle.dvg_driver.specs.declared.state.Phase.TheVariants as phase
use Rattle.dvg_driver.proofs.Shapes.{rests_whole}
use Rattle.dvg_driver.proofs.DriverAfterLife.{at_phase, not_whole}
use Rattle.dvg_driver.proofs.driver.Driver.redraw.Goals as goal

pub returns-in-Resting-clause-accepted : goal.returns-in-Resting-clause-accepted
returns-in-Resting-clause-accepted c peeked life stands =
    let driver = c.self.inside in
    let at = at_phase driver c.args.self.now phase.Resting peeked life c.self.view_is c.in-Resting.is stands in
    let flips = at.flipped in
    (λ ok. (cc, rests_whole life (not driver.flipped) at.place), λ both. refl)

pub returns-in_default-clause-accepted : goal.returns-in_default-clause-accepted
returns-in_default-clause-accepted c peeked life stands =
    let driver = c.self.inside in
    let at = at_phase driver c.args.self.now driver.phase peeked life c.self.view_is refl stands in
    (λ ok. absurd (cc), λ both. absurd (not_whole driver.phase driver.cursor driver.half driver.flipped life c.in_default.not-Resting at.place both.1))
