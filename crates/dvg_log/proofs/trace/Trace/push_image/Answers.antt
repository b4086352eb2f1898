use Rattle.std.proofs.Common.{◌+◌, ◌≤◌, ◌∷◌, ◌++◌, [], length, map, replicate, All, ap, sym, ◌∙◌, subst, arith}
use Rattle.std.proofs.lemmas.List.{length-map}
use Rattle.dvg_log.specs.declared.trace.TheConstants.{MOST_EVENTS}
use Rattle.dvg_log.specs.declared.event.Event.TheVariants.{ResetAll}
use Rattle.dvg_log.specs.Traces.{all_events, ops_in}
use Rattle.dvg_log.specs.own.Kept.{IsRunIn}
use Rattle.dvg_log.proofs.Traces.{count_of, keeps_image, one_reset_more}
use Rattle.dvg_log.proofs.trace.Trace.push_image.Goals as goal

pub add_image-requires : goal.add_image-requires
add_image-requires g c =
    let trace = c.self.invariant in
    let count = count_of trace c.args.self.now c.self.view_is in
    let reset = trace.reset in
    let some = trace.some in
    omega (arith, reset, some, count, c.requires)

pub invariant_of-self-2 : goal.invariant_of-self-2
invariant_of-self-2 g c =
    let kept = c.self.inside in
    let number = c.in_ok-add_image.field-0 in
    let count = count_of c.self.invariant c.args.self.now c.self.view_is in
    let room : kept.count + 1 ≤ MOST_EVENTS = omega (arith, count, c.requires) in
    rw (c.in_ok-add_image.ensures.runs, c.in_ok-add_image.ensures.images) (keeps_image c.args.image number 1 c.self.invariant (omega arith) room c.in_ok-add_image.ensures.number)

pub returns-clause-pushed : goal.returns-clause-pushed
returns-clause-pushed g c =
    let kept = c.self.inside in
    let number = c.in_ok-add_image.field-0 in
    let offers = map (ops_in kept.ops.items) kept.offers.items in
    let within = subst (λ n. All (IsRunIn n (length kept.images.items)) kept.runs.items) (sym (length-map kept.offers.items (ops_in kept.ops.items))) c.self.invariant.are.within in
    ap (λ runs. all_events runs offers c.add_image.new.images.items) c.in_ok-add_image.ensures.runs
    ∙ ap (λ images. all_events (kept.runs.items ++ record { step = ResetAll number; times = 1 } ∷ []) offers images) c.in_ok-add_image.ensures.images
    ∙ one_reset_more kept.runs.items offers kept.images.items c.args.image number 1 within c.in_ok-add_image.ensures.number
    ∙ ap (λ events. events ++ replicate 1 (ResetAll c.args.image)) c.self.view_is
