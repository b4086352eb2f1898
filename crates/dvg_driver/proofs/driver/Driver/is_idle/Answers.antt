use Rattle.std.proofs.Common.{not, refl}
use Rattle.dvg_driver.specs.declared.state.Phase.TheVariants as phase
use Rattle.dvg_driver.proofs.Shapes.{rests_whole}
use Rattle.dvg_driver.proofs.DriverAfterLife.{at_phase, not_whole}
use Rattle.dvg_driver.proofs.driver.Driver.is_idle.Goals as goal

pub returns-in-Resting : goal.returns-in-Resting
returns-in-Resting c peeked life stands =
    let driver = c.self.inside in
    let at = at_phase driver c.args.self.now phase.Resting peeked life c.self.view_is c.in-Resting.is stands in
    (λ idle. rests_whole life (not driver.flipped) at.place, λ whole. refl)

pub returns-in_default : goal.returns-in_default
returns-in_default c peeked life stands =
    let driver = c.self.inside in
    let at = at_phase driver c.args.self.now driver.phase peeked life c.self.view_is refl stands in
    (λ idle. absurd (cc), λ whole. absurd (not_whole driver.phase driver.cursor driver.half driver.flipped life c.in_default.not-Resting at.place whole))
