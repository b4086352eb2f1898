use Rattle.dvg_game_content.proofs.ContentFromBytes.{content_by_bytes}
use Rattle.dvg_game_content.proofs.content_by_bytes.Goals as goal

pub returns : goal.returns
returns c = content_by_bytes
