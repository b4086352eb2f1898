use Rattle.std.proofs.Common.{rules, ◌≡◌, ◌+◌, ◌<◌, ◌≤◌, ◌∷◌, ◌++◌, [], length, map, replicate, get_or, All, Some, None, ap, sym, ◌∙◌, subst, arith}
use Rattle.dvg_mem.specs.declared.TheConstants.{MEMORY_BYTES}
use Rattle.std.proofs.lemmas.List.{length-map}
use Rattle.dvg_log.specs.declared.trace.TheConstants.{MOST_EVENTS}
use Rattle.dvg_log.specs.declared.event.Event.TheVariants.{ResetAll}
use Rattle.dvg_log.specs.Traces.{all_events, ops_in}
use Rattle.dvg_log.specs.own.Kept.{IsRunIn}
use Rattle.dvg_log.proofs.Traces.{count_of, filled_more, filled_within, keeps_filled, keeps_run, one_reset_more}
use Rattle.dvg_log.proofs.trace.Trace.push_filled.Goals as goal

pub invariant_of-self-in-Some : goal.invariant_of-self-in-Some
invariant_of-self-in-Some g c =
    let kept = c.self.inside in
    let count = count_of c.self.invariant c.args.self.now c.self.view_is in
    let room : kept.count + c.args.times ≤ MOST_EVENTS = omega (arith, count, c.requires.room) in
    let at : get_or kept.filled c.args.byte None ≡ Some c.in-Some.number = rw c.from.ensures at c.in-Some.is in
    let pushed : c.push.new.self.items ≡ kept.runs.items ++ record { step = ResetAll c.in-Some.number; times = c.args.times } ∷ [] = search rules in
    rw (pushed, c.from-in-Some.ensures) (keeps_run (ResetAll c.in-Some.number) c.args.times c.self.invariant c.requires.some room (filled_within kept.images.items kept.filled c.args.byte c.in-Some.number c.self.invariant.filled at))

pub returns-in-Some-clause-pushed : goal.returns-in-Some-clause-pushed
returns-in-Some-clause-pushed g c =
    let kept = c.self.inside in
    let offers = map (ops_in kept.ops.items) kept.offers.items in
    let at : get_or kept.filled c.args.byte None ≡ Some c.in-Some.number = rw c.from.ensures at c.in-Some.is in
    let pushed : c.push.new.self.items ≡ kept.runs.items ++ record { step = ResetAll c.in-Some.number; times = c.args.times } ∷ [] = search rules in
    ap (λ runs. all_events runs offers kept.images.items) pushed
    ∙ filled_more kept.runs.items offers kept.images.items kept.filled c.args.byte c.in-Some.number c.args.times c.self.invariant.filled at
    ∙ ap (λ events. events ++ replicate c.args.times (ResetAll (replicate MEMORY_BYTES c.args.byte))) c.self.view_is

pub add_image-requires : goal.add_image-requires
add_image-requires g c =
    let trace = c.self.invariant in
    let count = count_of trace c.args.self.now c.self.view_is in
    let reset = trace.reset in
    let some = trace.some in
    omega (arith, reset, some, count, c.requires.room, c.requires.some)

pub invariant_of-self-2 : goal.invariant_of-self-2
invariant_of-self-2 g c =
    let kept = c.self.inside in
    let number = c.in_ok-number.number in
    let count = count_of c.self.invariant c.args.self.now c.self.view_is in
    let room : kept.count + c.args.times ≤ MOST_EVENTS = omega (arith, count, c.requires.room) in
    let low : c.args.byte < length kept.filled = search rules in
    let images_now : c.add_image.new.images.items ≡ kept.images.items ++ replicate MEMORY_BYTES c.args.byte ∷ [] = c.in_ok-number.ensures.images ∙ ap (λ bytes. kept.images.items ++ bytes ∷ []) c.in-Ok.ensures.bytes in
    rw (c.in_ok-number.ensures.runs, images_now, c.from-2.ensures, c.from-3.ensures) (keeps_filled c.args.byte number c.args.times c.self.invariant c.requires.some room c.in_ok-number.ensures.number low)

pub returns-clause-pushed : goal.returns-clause-pushed
returns-clause-pushed g c =
    let kept = c.self.inside in
    let number = c.in_ok-number.number in
    let offers = map (ops_in kept.ops.items) kept.offers.items in
    let within = subst (λ n. All (IsRunIn n (length kept.images.items)) kept.runs.items) (sym (length-map kept.offers.items (ops_in kept.ops.items))) c.self.invariant.are.within in
    ap (λ runs. all_events runs offers c.add_image.new.images.items) c.in_ok-number.ensures.runs
    ∙ ap (λ images. all_events (kept.runs.items ++ record { step = ResetAll number; times = c.args.times } ∷ []) offers images) c.in_ok-number.ensures.images
    ∙ one_reset_more kept.runs.items offers kept.images.items c.in-Ok.image number c.args.times within c.in_ok-number.ensures.number
    ∙ ap (λ bytes. all_events kept.runs.items offers kept.images.items ++ replicate c.args.times (ResetAll bytes)) c.in-Ok.ensures.bytes
    ∙ ap (λ events. events ++ replicate c.args.times (ResetAll (replicate MEMORY_BYTES c.args.byte))) c.self.view_is
