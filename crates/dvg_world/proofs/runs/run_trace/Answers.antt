use Rattle.std.proofs.Common.{rules, ap, map}
use Rattle.dvg_log.specs.Entries.{shown_of}
use Rattle.dvg_theorem.proofs.Headline.{headline}
use Rattle.dvg_world.proofs.OwnEntries.{owned_legal, owned_stop, owned_whole}
use Rattle.dvg_world.proofs.WholeRuns.{legal_none}
use Rattle.dvg_world.proofs.runs.run_trace.Goals as goal

pub returns-in_default-clause-legal : goal.returns-in_default-clause-legal
returns-in_default-clause-legal g c = legal_none c.args.rom c.args.image.now c.args.trace.now c.unstarted.result.entries c.unstarted.ensures.entries c.new.ensures.legal

pub returns-in_default-clause-headline : goal.returns-in_default-clause-headline
returns-in_default-clause-headline g c = headline c.args.rom c.args.image.now _ (returns-in_default-clause-legal g c)

pub returns-in_default-with_capacity-clause-legal : goal.returns-in_default-with_capacity-clause-legal
returns-in_default-with_capacity-clause-legal g c =
    let made = c.unstarted-in_default-with_capacity in
    legal_none c.args.rom c.args.image.now c.args.trace.now made.result.entries made.ensures.entries c.new.ensures.legal

pub returns-in_default-with_capacity-clause-headline : goal.returns-in_default-with_capacity-clause-headline
returns-in_default-with_capacity-clause-headline g c = headline c.args.rom c.args.image.now _ (returns-in_default-with_capacity-clause-legal g c)

pub returns-then-happen_all-clause-legal : goal.returns-then-happen_all-clause-legal
returns-then-happen_all-clause-legal g c =
    owned_legal c.happen_all.new.keeper.entries.items
    (c.happen_all.ensures c.args.rom c.args.image.now c.in-Ok.ensures.stands
    (ap (map shown_of) c.in-Ok-with_capacity.ensures.items))

pub returns-then-happen_all-clause-headline : goal.returns-then-happen_all-clause-headline
returns-then-happen_all-clause-headline g c =
    headline c.args.rom c.args.image.now _ (returns-then-happen_all-clause-legal g c)

pub returns-then-happen_all-clause-whole : goal.returns-then-happen_all-clause-whole
returns-then-happen_all-clause-whole g c =
    owned_whole c.happen_all.new.keeper.entries.items c.if-happen_all.true
    (c.happen_all.ensures c.args.rom c.args.image.now c.in-Ok.ensures.stands
    (ap (map shown_of) c.in-Ok-with_capacity.ensures.items))

pub returns-clause-legal : goal.returns-clause-legal
returns-clause-legal g c =
    owned_legal c.happen_all.new.keeper.entries.items
    (c.happen_all.ensures c.args.rom c.args.image.now c.in-Ok.ensures.stands
    (ap (map shown_of) c.in-Ok-with_capacity.ensures.items))

pub returns-clause-headline : goal.returns-clause-headline
returns-clause-headline g c = headline c.args.rom c.args.image.now _ (returns-clause-legal g c)

pub returns-clause-early : goal.returns-clause-early
returns-clause-early g c =
    owned_stop c.happen_all.new.keeper.entries _ (search rules) c.if-happen_all.false
    (c.happen_all.ensures c.args.rom c.args.image.now c.in-Ok.ensures.stands
    (ap (map shown_of) c.in-Ok-with_capacity.ensures.items))
