use Rattle.dvg_game_6502.proofs.OpenCall.{driver_begins, driver_ends, driver_steps, nmi_passes}
use Rattle.dvg_game_6502.proofs.driver_goes_on.Goals as goal

pub returns : goal.returns
returns c = record { begins = driver_begins; steps = driver_steps; passes = nmi_passes; ends = driver_ends }
