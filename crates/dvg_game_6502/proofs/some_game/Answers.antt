use Rattle.dvg_game_6502.proofs.SomeGame.{is_fine, plays}
use Rattle.dvg_game_6502.proofs.some_game.Goals as goal

pub returns : goal.returns
returns c = record { fine = is_fine; plays = plays }
