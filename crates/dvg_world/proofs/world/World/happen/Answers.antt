use Rattle.std.proofs.Common.{subst}
use Rattle.dvg_world.specs.Standing.{ChangesNothing}
use Rattle.dvg_world.proofs.world.World.happen.Goals as goal

pub returns-in-ResetGen-clause-same : goal.returns-in-ResetGen-clause-same
returns-in-ResetGen-clause-same g c nothing = absurd (subst ChangesNothing c.reset_generator.ensures.entry nothing)

pub returns-in-ResetCpu-clause-same : goal.returns-in-ResetCpu-clause-same
returns-in-ResetCpu-clause-same g c nothing = absurd (subst ChangesNothing c.reset_processor.ensures.entry nothing)

pub returns-in-ResetAll-clause-same : goal.returns-in-ResetAll-clause-same
returns-in-ResetAll-clause-same g c nothing = absurd (subst ChangesNothing c.reset_all.ensures.entry nothing)
