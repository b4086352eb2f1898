use Rattle.dvg_game_rules.proofs.Starting.{starts_up}
use Rattle.dvg_game_rules.proofs.starts_up.Goals as goal

pub returns : goal.returns
returns c = starts_up
