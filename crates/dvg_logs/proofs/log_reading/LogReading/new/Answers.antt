use Rattle.std.proofs.Common.{refl, sym, subst, []}
use Rattle.dvg_logs.specs.declared.log_reading.JudgedLines.{JudgedLines}
use Rattle.dvg_logs.specs.LogReading.{IsRead}
use Rattle.dvg_logs.proofs.LogReads.{begun, nothing_read}
use Rattle.dvg_logs.proofs.log_reading.LogReading.new.Goals as goal

pub returns : goal.returns
returns g c = λ stands passes.
    let none : JudgedLines _ = record { judge = c.args.judge; base = c.args.base; count = 0 } in
    let judged = begun none stands passes refl refl in
    subst (λ items. IsRead c.args.base g.J.LineJudge.Stands (g.J.LineJudge.Passes []) none items []) (sym c.new.ensures) (nothing_read none judged)
