use Rattle.std.proofs.Common.{◌≡◌, ◌∙◌, ap, refl, rules, arith}
use Rattle.dvg_code.specs.Listing.{place_of, words_left}
use Rattle.dvg_tool.specs.Lists.{address_from}
use Rattle.dvg_tool.proofs.Progress.{advance, begin, broke_off, finish, stands_first, stands_next, stop, within}
use Rattle.dvg_tool.proofs.lists.list_words.Goals as goal

pub write_item-requires : goal.write_item-requires
write_item-requires g c =
    let h = within _ _ _ c.loop-item.invariant.stands in
    let step = rw c.in-At.is at c.in-Some.ensures.steps in
    omega (arith, h, step.0)

pub loop-item-init : goal.loop-item-init
loop-item-init g c =
    let start = c.into_iter-item-iterator.result in
    let left : words_left start ≡ c.args.words.now = search rules in
    let place : place_of start ≡ 0 = search rules in
    record { next = tt; ends = tt; counted = refl; stands = stands_first _ start left place; progress = λ cutting. begin c.args.at _ start _ cutting left place }

pub returns-clause-lists : goal.returns-clause-lists
returns-clause-lists g c = λ cutting. finish c.args.at _ c.loop-item.item-iterator c.next.new.self _ _ cutting (c.loop-item.invariant.progress cutting) c.in-None.ensures.steps

pub returns-in-Cut-clause-lists : goal.returns-in-Cut-clause-lists
returns-in-Cut-clause-lists g c = λ cutting.
    let step = rw c.in-Cut.is at c.in-Some.ensures.steps in
    let found = stop c.args.at _ c.loop-item.item-iterator c.next.new.self _ _ _ cutting (c.loop-item.invariant.progress cutting) step in
    (found.0, c.address_from.ensures ∙ ap (address_from c.args.at) found.1, found.2)

pub returns-then-is_err-clause-lists : goal.returns-then-is_err-clause-lists
returns-then-is_err-clause-lists g c = λ cutting.
    let step = rw c.in-At.is at c.in-Some.ensures.steps in
    broke_off c.args.at _ c.loop-item.item-iterator c.next.new.self _ _ _ _ _ cutting c.loop-item.invariant.stands (c.loop-item.invariant.progress cutting) step (search rules)

pub loop-item-preserved : goal.loop-item-preserved
loop-item-preserved g c =
    let step = rw c.in-At.is at c.in-Some.ensures.steps in
    record {
      next = tt;
      ends = tt;
      counted = search rules;
      stands = stands_next _ _ _ step.1.0 _ _ c.loop-item.invariant.stands step.1.2 step.1.3;
      progress = λ cutting. advance c.args.at _ c.loop-item.item-iterator c.next.new.self _ _ _ _ _ cutting c.loop-item.invariant.stands (c.loop-item.invariant.progress cutting) step (search rules);
    }
