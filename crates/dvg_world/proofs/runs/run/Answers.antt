use Rattle.std.proofs.Common.{Some, map, ap, sym, ◌∙◌}
use Rattle.std.proofs.lemmas.List.{length-map}
use Rattle.dvg_log.specs.Events.{happening_of}
use Rattle.dvg_theorem.proofs.Headline.{headline}
use Rattle.dvg_world.proofs.WholeRuns.{begins_so_far, legal_none, mapped_at, one_more, stops_at}
use Rattle.dvg_world.proofs.runs.run.Goals as goal

pub returns-in_default-clause-legal : goal.returns-in_default-clause-legal
returns-in_default-clause-legal g c = legal_none c.args.rom c.args.image.now (map happening_of c.args.events.now) c.unstarted.result.entries c.unstarted.ensures.entries c.new.ensures.legal

pub returns-in_default-clause-headline : goal.returns-in_default-clause-headline
returns-in_default-clause-headline g c = headline c.args.rom c.args.image.now _ (returns-in_default-clause-legal g c)

pub returns-in_default-with_capacity-clause-legal : goal.returns-in_default-with_capacity-clause-legal
returns-in_default-with_capacity-clause-legal g c =
    let made = c.unstarted-in_default-with_capacity in
    legal_none c.args.rom c.args.image.now (map happening_of c.args.events.now) made.result.entries made.ensures.entries c.new.ensures.legal

pub returns-in_default-with_capacity-clause-headline : goal.returns-in_default-with_capacity-clause-headline
returns-in_default-with_capacity-clause-headline g c = headline c.args.rom c.args.image.now _ (returns-in_default-with_capacity-clause-legal g c)

pub loop-number-init : goal.loop-number-init
loop-number-init g c =
    let made = c.in-Ok-with_capacity.ensures in
    begins_so_far c.in-Ok.ensures.stands made.items made.len (made.exact ∙ sym (length-map c.args.events.now happening_of))

pub loop-number-preserved : goal.loop-number-preserved
loop-number-preserved g c =
    let at = mapped_at happening_of c.args.events.now c.loop-number.number c.index-events-number.result c.loop-number-test.true ∙ ap (λ event. Some (happening_of event)) (sym c.index-events-number.is) in
    let pushed = c.push_reserved.ensures in
    one_more {entries' = c.push_reserved.new.self} _ c.in-Ok-apply.entry c.loop-number.invariant at c.in-Ok-apply.ensures.stands pushed.items pushed.len pushed.capacity

pub returns-in-Err-clause-headline : goal.returns-in-Err-clause-headline
returns-in-Err-clause-headline g c = headline c.args.rom c.args.image.now _ c.loop-number.invariant.after.legal

pub returns-in-Err-clause-early : goal.returns-in-Err-clause-early
returns-in-Err-clause-early g c =
    let at = mapped_at happening_of c.args.events.now c.loop-number.number c.index-events-number.result c.loop-number-test.true ∙ ap (λ event. Some (happening_of event)) (sym c.index-events-number.is) in
    stops_at _ c.loop-number.invariant at c.in-Err.ensures.room

pub returns-clause-headline : goal.returns-clause-headline
returns-clause-headline g c = headline c.args.rom c.args.image.now _ c.loop-number.invariant.after.legal
