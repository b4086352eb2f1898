use Rattle.dvg_explain.proofs.OfInputs.{found_of}
use Rattle.dvg_explain.proofs.engine.ExplainEngineEngine.find.Goals as goal

pub returns-in-Ok : goal.returns-in-Ok
returns-in-Ok g c input e = found_of c.in-Ok.finding c.args.read.now input e c.in-Ok.ensures
