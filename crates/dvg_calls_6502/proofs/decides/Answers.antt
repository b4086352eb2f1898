use Rattle.dvg_calls_6502.proofs.BuildStays.{stays_building}
use Rattle.dvg_calls_6502.proofs.Decided.{decides}
use Rattle.dvg_calls_6502.proofs.IdlePhaseStays.{stays_idle}
use Rattle.dvg_calls_6502.proofs.Interrupted.{calls_decide}
use Rattle.dvg_calls_6502.proofs.Refusing.{labs_is_pair}
use Rattle.dvg_calls_6502.proofs.decides.Goals as goal

pub returns : goal.returns
returns c = record { places = decides; calls = calls_decide; idle = stays_idle; building = stays_building; labs = labs_is_pair }
