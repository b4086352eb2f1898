use Rattle.std.proofs.Common.{◌∷◌, subst, sym}
use Rattle.dvg_read.specs.Texts.{lines}
use Rattle.dvg_logs.specs.LogReading.{HasJudged}
use Rattle.dvg_logs.specs.MomentLines.{StandsSo}
use Rattle.dvg_logs.specs.MomentLogs.{AreDecided}
use Rattle.dvg_logs.proofs.Tellings.{count_fits, tear_of, told_more}
use Rattle.dvg_logs.proofs.tears_all.Telling.end_lines.Goals as goal

pub returns-in-Err-clause-told : goal.returns-in-Err-clause-told
returns-in-Err-clause-told g c = λ none base old text told.
    let tear = tear_of c.in-Err.stop _ _ (c.tell.ensures.tear none) c.in-Err.ensures.on in
    let fine = subst (λ reading. HasJudged base StandsSo (AreDecided (tear.one ∷ told.tears)) reading.judged (lines text)) (sym c.tell.ensures.reading) (tear.holds base told.tears text told.holds) in
    told_more c.args.self.now.torn _ tear.one old _ _ told tear.tear tear.wrote fine (count_fits base (tear.one ∷ told.tears) _ (lines text) fine) (c.tell.ensures.torn none)
