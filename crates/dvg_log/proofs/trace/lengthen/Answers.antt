use Rattle.std.proofs.Common.{rules, ◌≡◌, ◌+◌, ◌-◌, ◌∷◌, ◌++◌, [], length, take, ap, ◌∙◌, arith}
use Rattle.dvg_log.specs.declared.runs.Run.{Run}
use Rattle.dvg_log.proofs.Traces.{last_of}
use Rattle.dvg_log.proofs.trace.lengthen.Goals as goal

pub returns-clause-longer : goal.returns-clause-longer
returns-clause-longer g c = λ yes.
    let runs = c.args.runs.now.items in
    let n = c.len-count.result - 1 in
    let last = c.index-last.result.now in
    let run : Run = record { step = c.args.step; times = last.times + c.args.times } in
    let count : c.len-count.result ≡ length runs = search rules in
    let size : length runs ≡ n + 1 = (let some = c.if-count-eq0.false in omega (arith, count, some)) in
    let same = c.joins.ensures c.if-not-joins.false in
    let split = last_of runs n last run last size c.index-last.ensures in
    record {
      front = take n runs;
      before = last.times;
      was = split.0 ∙ ap (λ step. take n runs ++ record { step = step; times = last.times } ∷ []) same;
      is = split.1;
    }
