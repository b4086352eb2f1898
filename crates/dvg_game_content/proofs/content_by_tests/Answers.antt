use Rattle.dvg_game_content.proofs.ContentFromBytes.{content_by_tests}
use Rattle.dvg_game_content.proofs.content_by_tests.Goals as goal

pub returns : goal.returns
returns c = content_by_tests
