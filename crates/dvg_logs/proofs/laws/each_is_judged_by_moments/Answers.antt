use Rattle.std.proofs.Common.{[], append-nil, subst}
use Rattle.dvg_read.specs.Texts.{lines}
use Rattle.dvg_logs.specs.MomentLogs.{AreDecided, Decides}
use Rattle.dvg_logs.specs.LogReading.{StopsAt}
use Rattle.dvg_logs.proofs.OneMoment.{moments_judged_at}
use Rattle.dvg_logs.proofs.laws.each_is_judged_by_moments.Goals as goal

pub returns-in-Err : goal.returns-in-Err
returns-in-Err c =
    moments_judged_at c.args.text.now c.in-Err._stopped.stop
    (subst (λ text. StopsAt c.args.base (AreDecided []) Decides c.in-Err._stopped.stop (lines text)) (append-nil c.args.text.now) (c.in-Err.ensures.stop c.args.base [] [] [] (c.new-reading.ensures c.new.ensures tt)))

pub returns-in-Err-finish : goal.returns-in-Err-finish
returns-in-Err-finish c =
    moments_judged_at c.args.text.now c.in-Err-finish._stop
    (c.in-Err-finish.ensures.stop c.args.base [] c.args.text.now (c.in-Ok.ensures.read c.args.base [] [] (c.new-reading.ensures c.new.ensures tt)))
