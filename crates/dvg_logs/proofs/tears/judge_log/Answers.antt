use Rattle.std.proofs.Common.{[], append-nil, subst}
use Rattle.dvg_log.specs.Log.{Throughout}
use Rattle.dvg_log.specs.Torn.{IsUntorn}
use Rattle.dvg_read.specs.Texts.{lines}
use Rattle.dvg_logs.specs.LogReading.{StopsAt}
use Rattle.dvg_logs.specs.LogTexts.{FindsTorn}
use Rattle.dvg_logs.proofs.tears.judge_log.Goals as goal

pub returns-in-Err : goal.returns-in-Err
returns-in-Err c =
    let read = c.new-reading.ensures c.new.ensures tt in
    c.said.ensures c.args.base c.args.text.now
    (subst (λ text. StopsAt c.args.base (Throughout IsUntorn) FindsTorn c.in-Err.stopped.stop (lines text)) (append-nil c.args.text.now)
    (c.in-Err.ensures.stop c.args.base [] [] [] read))

pub returns-in-Err-finish : goal.returns-in-Err-finish
returns-in-Err-finish c =
    let read = c.new-reading.ensures c.new.ensures tt in
    c.said-in-Err-finish.ensures c.args.base c.args.text.now
    (c.in-Err-finish.ensures.stop c.args.base [] c.args.text.now (c.in-Ok.ensures.read c.args.base [] [] read))
