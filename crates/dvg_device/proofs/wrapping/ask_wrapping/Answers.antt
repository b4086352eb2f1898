use Rattle.std.proofs.Common.{refl, ap}
use Rattle.dvg_gen.specs.Machine.{Machine}
use Rattle.dvg_device.proofs.wrapping.ask_wrapping.Goals as goal

pub returns-in-Strobe : goal.returns-in-Strobe
returns-in-Strobe c =
    let picture = ap (λ (machine : Machine). machine.picture) c.start.ensures.machine in
    rw c.in-Strobe.is (c.start.ensures.stands, picture, refl)

pub returns-in-ResetGenerator : goal.returns-in-ResetGenerator
returns-in-ResetGenerator c =
    let picture = ap (λ (machine : Machine). machine.picture) c.reset.ensures.machine in
    rw c.in-ResetGenerator.is (c.reset.ensures.stands, picture, refl)
