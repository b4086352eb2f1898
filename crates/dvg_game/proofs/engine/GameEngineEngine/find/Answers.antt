use Rattle.dvg_game.proofs.JudgedTold.{faulted, told_in}
use Rattle.dvg_game.proofs.engine.GameEngineEngine.find.Goals as goal

pub returns-then-read-ne-GAME_BYTES : goal.returns-then-read-ne-GAME_BYTES
returns-then-read-ne-GAME_BYTES g c input e = faulted c.size_fault.result c.args.read.now input e c.size_fault.ensures

pub returns-in-Ok : goal.returns-in-Ok
returns-in-Ok g c input e = told_in c.in-Ok.told c.args.read.now input e c.if-read-ne-GAME_BYTES.false c.in-Ok.ensures
