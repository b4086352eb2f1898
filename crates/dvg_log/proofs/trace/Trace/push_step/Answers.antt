use Rattle.std.proofs.Common.{rules, ◌≡◌, ◌+◌, ◌≤◌, ◌∷◌, ◌++◌, [], length, map, replicate, ap, ◌∙◌, arith}
use Rattle.dvg_log.specs.declared.trace.TheConstants.{MOST_EVENTS}
use Rattle.dvg_log.specs.declared.runs.Run.{Run}
use Rattle.dvg_log.specs.Traces.{all_events, ops_in, step_event}
use Rattle.dvg_log.proofs.Traces.{any_within, count_of, keeps_longer, keeps_run, longer_more, simple_more}
use Rattle.dvg_log.proofs.trace.Trace.push_step.Goals as goal

pub invariant_of-self : goal.invariant_of-self
invariant_of-self g c =
    let kept = c.self.inside in
    let count = count_of c.self.invariant c.args.self.now c.self.view_is in
    let room : kept.count + c.args.times ≤ MOST_EVENTS = omega (arith, count, c.requires.room) in
    rw c.from.ensures (keeps_longer kept.runs.items c.lengthen.new.runs.items c.args.step c.args.times c.self.invariant room (c.lengthen.ensures.longer c.if-lengthen.true))

pub returns-then-lengthen-clause-pushed : goal.returns-then-lengthen-clause-pushed
returns-then-lengthen-clause-pushed g c =
    let kept = c.self.inside in
    let offers = map (ops_in kept.ops.items) kept.offers.items in
    longer_more kept.runs.items c.lengthen.new.runs.items c.args.step c.args.times offers kept.images.items (c.lengthen.ensures.longer c.if-lengthen.true) c.requires.simple
    ∙ ap (λ events. events ++ replicate c.args.times (step_event [] [] c.args.step)) c.self.view_is

pub invariant_of-self-2 : goal.invariant_of-self-2
invariant_of-self-2 g c =
    let kept = c.self.inside in
    let run : Run = record { step = c.args.step; times = c.args.times } in
    let count = count_of c.self.invariant c.args.self.now c.self.view_is in
    let room : kept.count + c.args.times ≤ MOST_EVENTS = omega (arith, count, c.requires.room) in
    let same = c.lengthen.ensures.same c.if-lengthen.false in
    let last : c.push.new.self.items ≡ c.lengthen.new.runs.items ++ run ∷ [] = search rules in
    let pushed = last ∙ ap (λ runs. runs ++ run ∷ []) same in
    let within = any_within (length kept.offers.items) (length kept.images.items) c.args.step c.requires.simple in
    rw (pushed, c.from-2.ensures) (keeps_run c.args.step c.args.times c.self.invariant c.requires.some room within)

pub returns-clause-pushed : goal.returns-clause-pushed
returns-clause-pushed g c =
    let kept = c.self.inside in
    let run : Run = record { step = c.args.step; times = c.args.times } in
    let offers = map (ops_in kept.ops.items) kept.offers.items in
    let same = c.lengthen.ensures.same c.if-lengthen.false in
    let last : c.push.new.self.items ≡ c.lengthen.new.runs.items ++ run ∷ [] = search rules in
    ap (λ runs. all_events runs offers kept.images.items) (last ∙ ap (λ runs. runs ++ run ∷ []) same)
    ∙ simple_more kept.runs.items offers kept.images.items c.args.step c.args.times c.requires.simple
    ∙ ap (λ events. events ++ replicate c.args.times (step_event [] [] c.args.step)) c.self.view_is
