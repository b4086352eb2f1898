use Rattle.dvg_game_rules.proofs.RunsAreSafe.{checked_is_safe}
use Rattle.dvg_game_rules.proofs.checked_safe.Goals as goal

pub returns : goal.returns
returns c = checked_is_safe
