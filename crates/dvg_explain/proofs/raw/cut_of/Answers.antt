use Rattle.std.proofs.Common.{◌≡◌, rules}
use Rattle.dvg_code.specs.Listing.{place_of, words_left}
use Rattle.dvg_explain.proofs.CutWords.{cuts_first, cuts_next, cuts_to_end, is_cut}
use Rattle.dvg_explain.proofs.raw.cut_of.Goals as goal

pub loop-item-init : goal.loop-item-init
loop-item-init c =
    let start = c.into_iter-item-iterator.result in
    let left : words_left start ≡ c.args.words.now = search rules in
    let place : place_of start ≡ 0 = search rules in
    record { next = tt; ends = tt; cuts = cuts_first c.args.words.now start left place }

pub loop-item-preserved : goal.loop-item-preserved
loop-item-preserved c =
    let step = rw c.in-At.is at c.in-Some.ensures.steps in
    record { next = tt; ends = tt; cuts = cuts_next c.args.words.now c.loop-item.item-iterator c.next.new.self _ _ c.loop-item.invariant.cuts step }

pub returns-in-Cut : goal.returns-in-Cut
returns-in-Cut c =
    let step = rw c.in-Cut.is at c.in-Some.ensures.steps in
    is_cut c.args.words.now c.loop-item.item-iterator c.next.new.self _ c.loop-item.invariant.cuts step

pub returns : goal.returns
returns c = cuts_to_end c.args.words.now c.loop-item.item-iterator c.next.new.self c.loop-item.invariant.cuts c.in-None.ensures.steps
