use Rattle.std.proofs.Common.{◌≡◌, ◌+◌, ◌%◌, ◌^◌, ◌∷◌, ◌∙◌, ap, arith, sym}
use Rattle.dvg_print.specs.declared.log_verdict.LogCounts.{LogCounts}
use Rattle.dvg_logs.specs.LogCounts.{drew_of}
use Rattle.dvg_logs.specs.LogLineTells.{line_of}
use Rattle.dvg_logs.proofs.DrawnCounts.{drew_few, drew_more, drew_same, other_counts}
use Rattle.dvg_logs.proofs.half_lines.count.Goals as goal
use Rattle.dvg_logs.proofs.half_lines.count.Goals.{then-draws, else-draws}

pub returns-in_default : goal.returns-in_default
returns-in_default c = λ log counts few draws.
    let line = line_of c.args.logged in
    let so_far : c.args.counts.now.drew ≡ drew_of log = ap (λ (k : LogCounts). k.drew) counts in
    let no = c.in_default in
    elim c.if-draws.branch [
      | then-draws w ↦
          let one = drew_more line log (sym draws ∙ w.if-draws.true) in
          let is : (c.args.counts.now.drew + 1) % 2 ^ 64 ≡ drew_of (line ∷ log) = omega (arith, drew_few log, one, so_far, few) in
          w.counts-is ∙ other_counts c.args.logged log c.args.counts.now _ no.not-Started no.not-Halted no.not-Wrote counts is
      | else-draws w ↦
          let none = drew_same line log (sym draws ∙ w.if-draws.false) in
          w.counts-is ∙ other_counts c.args.logged log c.args.counts.now _ no.not-Started no.not-Halted no.not-Wrote counts (so_far ∙ sym none)
    ]
