use Rattle.dvg_game_6502.proofs.Spares.{spares}
use Rattle.dvg_game_6502.proofs.Guarded.{guard_is_spared}
use Rattle.dvg_game_6502.proofs.nmi_is_harmless.Goals as goal

pub returns : goal.returns
returns c = record { spares = spares; guarded = guard_is_spared }
