use Rattle.dvg_gen.proofs.Words.{completes_one}
use Rattle.dvg_lay.proofs.walk.of_one.Goals as goal

pub returns : goal.returns
returns c = completes_one c.args.word c.decode.result c.in-Ok.read c.in-Ok.is c.decode.ensures.spelled
