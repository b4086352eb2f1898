use Rattle.dvg_closed_board.proofs.TestRomContent.{keeps}
use Rattle.dvg_closed_board.proofs.test_rom_keeps.Goals as goal

pub returns : goal.returns
returns c = keeps c.games_keep.ensures.keeps
