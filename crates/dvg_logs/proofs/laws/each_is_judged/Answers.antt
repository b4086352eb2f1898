use Rattle.std.proofs.Common.{[], append-nil, subst}
use Rattle.dvg_read.specs.Texts.{lines}
use Rattle.dvg_logs.specs.HalfLines.{PassesUntorn}
use Rattle.dvg_logs.specs.LogReading.{StopsAt}
use Rattle.dvg_logs.specs.LogTexts.{FindsTorn}
use Rattle.dvg_logs.proofs.OneVerdict.{judged_at}
use Rattle.dvg_logs.proofs.laws.each_is_judged.Goals as goal

pub returns-in-Err : goal.returns-in-Err
returns-in-Err c =
    judged_at c.args.text.now c.in-Err._stopped.stop
    (subst (λ text. StopsAt c.args.base (PassesUntorn []) FindsTorn c.in-Err._stopped.stop (lines text)) (append-nil c.args.text.now) (c.in-Err.ensures.stop c.args.base [] [] [] (c.new-reading.ensures c.new.ensures tt)))

pub returns-in-Err-finish : goal.returns-in-Err-finish
returns-in-Err-finish c =
    judged_at c.args.text.now c.in-Err-finish._stop
    (c.in-Err-finish.ensures.stop c.args.base [] c.args.text.now (c.in-Ok.ensures.read c.args.base [] [] (c.new-reading.ensures c.new.ensures tt)))
