use Rattle.std.proofs.Common.{length, replicate, ap, ◌∙◌, arith, length-append}
use Rattle.std.proofs.lemmas.List.{length-replicate}
use Rattle.dvg_log.specs.Traces.{seen_as}
use Rattle.dvg_world.proofs.KeptSoFar.{happened_all, happened_part, keeps_none, keeps_run}
use Rattle.dvg_world.proofs.keeping.happen_all.Goals as goal

pub loop-run-init : goal.loop-run-init
loop-run-init g c =
    let all = c.into_iter-run-iterator.ensures.into_iter_gives ∙ c.runs-run-items.ensures in
    let room = c.requires.room in
    let same = ap length all in
    record {
      so_far = λ R image after kept. keeps_none after kept all;
      all = omega (arith, same);
      room = omega (arith, room, same);
    }

pub loop-run-preserved : goal.loop-run-preserved
loop-run-preserved g c =
    let run = c.in-Some.run' in
    let event = seen_as run.0 in
    let steps = c.in-Some.ensures.steps in
    let rest = c.next.new.self in
    let longer = ap length steps.2 in
    let sum = length-append (replicate run.1 event) rest in
    let times = length-replicate run.1 event in
    let all = c.loop-run.invariant.all in
    let room = c.loop-run.invariant.room in
    let left = c.happen_run.ensures.left in
    record {
      so_far = λ R image after kept. keeps_run event run.1 (c.loop-run.invariant.so_far R image after kept) steps.2
          (λ log after kept count. c.in-Ok.ensures.kept R image log after kept count);
      all = omega (arith, all, longer, sum, times);
      room = omega (arith, room, longer, sum, times, left);
    }

pub returns-in-Err : goal.returns-in-Err
returns-in-Err g c = λ R image after kept.
    let run = c.in-Some.run' in
    happened_part (seen_as run.0) run.1 c.next.new.self (c.loop-run.invariant.so_far R image after kept)
    c.in-Some.ensures.steps.2 (λ log after kept count. c.in-Err.ensures.stops R image log after kept count)

pub returns : goal.returns
returns g c = λ R image after kept. happened_all (c.loop-run.invariant.so_far R image after kept) c.in-None.ensures.steps.0
