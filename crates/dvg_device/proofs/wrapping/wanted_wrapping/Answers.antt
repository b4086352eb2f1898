use Rattle.std.proofs.Common.{◌≡◌, subst}
use Rattle.dvg_gen.specs.Told.{wants}
use Rattle.dvg_device.specs.Generators.{OfHistories, wanting}
use Rattle.dvg_device.proofs.wrapping.wanted_wrapping.Goals as goal

pub returns : goal.returns
returns c =
    let reply = c.wanted.result in
    let told = subst (λ machine. OfHistories machine (λ history low run. reply ≡ wanting (wants run) low))
    c.generator.ensures c.wanted.ensures in
    λ history low stands. told stands.told low stands.after
