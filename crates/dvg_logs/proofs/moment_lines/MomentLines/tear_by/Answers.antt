use Rattle.std.proofs.Common.{◌∙◌, sym, true≢false}
use Rattle.dvg_logs.proofs.MomentLines.{reading_on, torn_by}
use Rattle.dvg_logs.proofs.moment_lines.MomentLines.tear_by.Goals as goal

pub returns-in-Some : goal.returns-in-Some
returns-in-Some c = λ judged stands at tears. reading_on c.args.reading judged c.in-Some.tear (rw c.in-Some.is at tears)

pub returns-then-is_torn : goal.returns-then-is_torn
returns-then-is_torn c = λ judged stands at tears.
    torn_by c.args.reading judged c.args.line (rw c.in-None.is at tears) ((c.is_torn.ensures _ stands).0 c.if-is_torn.true) at

pub returns-else-is_torn : goal.returns-else-is_torn
returns-else-is_torn c = λ judged stands at tears torn. true≢false (sym ((c.is_torn.ensures _ stands).1 torn) ∙ c.if-is_torn.false)
