use Rattle.dvg_game_6502.proofs.BegunFrames.{labs_begins}
use Rattle.dvg_game_6502.proofs.labs_begins.Goals as goal

pub returns : goal.returns
returns c = labs_begins
