use Rattle.std.proofs.Common.{◌∙◌, ap, subst, sym}
use Rattle.std.specs.Prelude.{IfSome, IsSomeAnd}
use Rattle.dvg_driver.specs.Phases.{Allows, IsWritten, driving_of}
use Rattle.dvg_driver.specs.Stands.{Driving, WritesNext}
use Rattle.dvg_driver.proofs.DriverAfterLife.{keeps_next, same_frame, takes_next}
use Rattle.dvg_driver.proofs.driver.Driver.next_byte.Goals as goal

pub invariant_of-self : goal.invariant_of-self
invariant_of-self c =
    let driver = c.self.inside in
    let old = subst (λ v. Allows v driver.flipped (IsSomeAnd driver.cursor (IsWritten driver.half))) c.in-Writing.is
    c.self.invariant in
    let new = keeps_next driver.half _ _ _ old c.next_of.ensures.kept c.next_of.ensures.given c.next_of.ensures.ended in
    subst (λ v. Allows v driver.flipped (IsSomeAnd c.next_of.new.cursor (IsWritten driver.half))) (sym c.in-Writing.is) new

pub returns-in-Writing-clause-given : goal.returns-in-Writing-clause-given
returns-in-Writing-clause-given c =
    let next = takes_next c.self.inside c.next_of.new.cursor c.next_of.result c.in-Writing.is c.next_of.ensures.given in
    let new = (driving_of (record c.self.inside { cursor = c.next_of.new.cursor })).stage in
    subst (λ (driver : Driving). IfSome c.next_of.result (WritesNext driver.stage new)) c.self.view_is next

pub returns-in-Writing-clause-frame : goal.returns-in-Writing-clause-frame
returns-in-Writing-clause-frame c =
    same_frame c.self.inside.phase c.self.inside.cursor c.next_of.new.cursor c.next_of.ensures.kept
    ∙ ap (λ (driver : Driving). driver.frame) c.self.view_is
