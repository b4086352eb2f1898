use Rattle.dvg_explain.proofs.engine.is_good.Goals as goal

pub returns-in-Log : goal.returns-in-Log
returns-in-Log g c text answers cut = rw c.in-Log.is (c.is_untorn.ensures text answers.judged)
