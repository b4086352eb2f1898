use Rattle.std.proofs.Common.{◌∙◌}
use Rattle.dvg_game_check.proofs.Accepted.{driver_is}
use Rattle.dvg_game_check.proofs.program.has_driver.Goals as goal

pub returns : goal.returns
returns c f h = c.stands.ensures f h ∙ driver_is f
