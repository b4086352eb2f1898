use Rattle.std.proofs.Common.{◌∙◌, ◌+◌, arith, drop, subst, sym, take}
use Rattle.std.proofs.lemmas.List.{take_all}
use Rattle.dvg_steps.proofs.Places.{count_front, count_more, count_same, cut_at, NoneNames, no_name, none_more, none_numbered}
use Rattle.dvg_steps.proofs.drafts.number_of.Goals as goal
use Rattle.dvg_steps.proofs.drafts.number_of.Goals.{then-is_operation, else-is_operation}

pub returns-then-names : goal.returns-then-names
returns-then-names c =
    let i = c.loop-step.step-index in
    record {
      before = take i c.args.steps.now;
      step = c.step-item.result;
      after = drop (i + 1) c.args.steps.now;
      cut = cut_at c.args.steps.now i c.step-item.result c.loop-step-test.true c.step-item.is;
      names = c.names.ensures.0 c.if-names.true;
      count = c.loop-step.invariant.count;
    }

pub overflow_add-number : goal.overflow_add-number
overflow_add-number c = omega (arith, count_front c.args.steps.now c.loop-step.step-index, c.loop-step.invariant.count, c.requires)

pub loop-step-preserved : goal.loop-step-preserved
loop-step-preserved c =
    let i = c.loop-step.step-index in
    let steps = c.args.steps.now in
    let step = c.step-item.result in
    let low = c.loop-step-test.true in
    let is = c.step-item.is in
    record {
      count = elim c.if-is_operation.branch [
        | then-is_operation w ↦ w.number-is ∙ count_more steps i c.loop-step.number step low is c.loop-step.invariant.count (sym c.is_operation.ensures ∙ w.if-is_operation.true)
        | else-is_operation w ↦ w.number-is ∙ count_same steps i c.loop-step.number step low is c.loop-step.invariant.count (sym c.is_operation.ensures ∙ w.if-is_operation.false)
      ];
      none = none_more c.args.name.now steps i step low is c.loop-step.invariant.none (no_name c.names.result c.if-names.false c.names.ensures.1);
    }

pub returns : goal.returns
returns c n =
    let all = take_all c.loop-step.step-index c.args.steps.now c.loop-step-test.false in
    none_numbered c.args.name.now c.args.steps.now n (subst (NoneNames c.args.name.now) all c.loop-step.invariant.none)
