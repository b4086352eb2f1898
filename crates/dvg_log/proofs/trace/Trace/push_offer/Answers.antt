use Rattle.std.proofs.Common.{rules, ◌≡◌, ◌+◌, ◌≤◌, ◌∷◌, ◌++◌, [], length, map, replicate, ap, ◌∙◌, arith}
use Rattle.dvg_log.specs.declared.trace.TheConstants.{MOST_EVENTS}
use Rattle.dvg_log.specs.declared.event.Event.TheVariants.{Offer}
use Rattle.dvg_log.specs.Traces.{all_events, ops_in}
use Rattle.dvg_log.proofs.Traces.{count_of, keeps_offer, one_offer_more}
use Rattle.dvg_log.proofs.trace.Trace.push_offer.Goals as goal

pub overflow_cast-number : goal.overflow_cast-number
overflow_cast-number g c =
    let trace = c.self.invariant in
    let count = count_of trace c.args.self.now c.self.view_is in
    let number : c.len-number.result ≡ length c.self.inside.offers.items = search rules in
    let offered = trace.offered in
    let some = trace.some in
    omega (arith, number, offered, some, count, c.requires)

pub invariant_of-self-2 : goal.invariant_of-self-2
invariant_of-self-2 g c =
    let kept = c.self.inside in
    let count = count_of c.self.invariant c.args.self.now c.self.view_is in
    let room : kept.count + 1 ≤ MOST_EVENTS = omega (arith, count, c.requires) in
    let first : c.len-first.result ≡ length kept.ops.items = search rules in
    let number : c.len-number.result ≡ length kept.offers.items = search rules in
    let draft = c.len-count.ensures.draft in
    let runs_now : c.push_reserved-2.new.self.items ≡ kept.runs.items ++ record { step = Offer c.len-number.result; times = 1 } ∷ [] = search rules in
    let offers_now : c.push_reserved.new.self.items ≡ kept.offers.items ++ (c.len-first.result, c.len-count.result) ∷ [] = search rules in
    let ops_now : c.extend_from_slice.new.self.items ≡ kept.ops.items ++ c.args.draft.now = search rules in
    rw (runs_now, offers_now, ops_now) (keeps_offer c.args.draft.now c.len-first.result c.len-count.result c.len-number.result 1 c.self.invariant (omega arith) room first c.len-count.ensures.value draft number)

pub returns-clause-pushed : goal.returns-clause-pushed
returns-clause-pushed g c =
    let kept = c.self.inside in
    let runs = kept.runs.items in
    let ops = kept.ops.items in
    let offers = kept.offers.items in
    let images = kept.images.items in
    let first : c.len-first.result ≡ length ops = search rules in
    let number : c.len-number.result ≡ length offers = search rules in
    let more = one_offer_more runs ops c.args.draft.now offers images c.len-first.result c.len-count.result c.len-number.result 1 c.self.invariant.are first c.len-count.ensures.value number in
    let runs_now : c.push_reserved-2.new.self.items ≡ runs ++ record { step = Offer c.len-number.result; times = 1 } ∷ [] = search rules in
    let offers_now : c.push_reserved.new.self.items ≡ offers ++ (c.len-first.result, c.len-count.result) ∷ [] = search rules in
    let ops_now : c.extend_from_slice.new.self.items ≡ ops ++ c.args.draft.now = search rules in
    ap (λ runs. all_events runs (map (ops_in c.extend_from_slice.new.self.items) c.push_reserved.new.self.items) images) runs_now
    ∙ ap (λ ops. all_events (runs ++ record { step = Offer c.len-number.result; times = 1 } ∷ []) (map (ops_in ops) c.push_reserved.new.self.items) images) ops_now
    ∙ ap (λ offers. all_events (runs ++ record { step = Offer c.len-number.result; times = 1 } ∷ []) (map (ops_in (ops ++ c.args.draft.now)) offers) images) offers_now
    ∙ more
    ∙ ap (λ events. events ++ replicate 1 (Offer c.args.draft.now)) c.self.view_is
