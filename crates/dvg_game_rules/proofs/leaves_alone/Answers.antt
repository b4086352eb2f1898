use Rattle.dvg_game_rules.proofs.Between.{leaves_alone}
use Rattle.dvg_game_rules.proofs.leaves_alone.Goals as goal

pub returns : goal.returns
returns c = leaves_alone
