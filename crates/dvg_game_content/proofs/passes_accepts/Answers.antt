use Rattle.dvg_game_content.proofs.Frames.{passes_accepts}
use Rattle.dvg_game_content.proofs.passes_accepts.Goals as goal

pub returns : goal.returns
returns c = passes_accepts
