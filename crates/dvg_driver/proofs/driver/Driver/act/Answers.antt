use Rattle.std.proofs.Common.{◌≡◌, not, subst, sym}
use Rattle.dvg_mem.specs.Areas.{other}
use Rattle.dvg_driver.specs.Place.{Writing}
use Rattle.dvg_driver.specs.Script.{word_zero}
use Rattle.dvg_driver.specs.Stands.{Driving, WritesNoByte}
use Rattle.dvg_driver.proofs.DriverAfterLife.{ends_frame}
use Rattle.dvg_driver.proofs.driver.Driver.act.Goals as goal

pub end_frame-requires : goal.end_frame-requires
end_frame-requires c =
    let none = subst (λ (driver : Driving). WritesNoByte driver.stage) (sym c.self.view_is) c.requires in
    subst (λ (driver : Driving). driver.stage.place
    ≡ Writing (word_zero (other driver.stage.half) (not driver.stage.flipped))) c.self.view_is
    (ends_frame c.self.inside c.in-Writing.is none)
