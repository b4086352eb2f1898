use Rattle.std.proofs.Common.{rules, map, ◌<◌, ◌∙◌, sym, subst, true≢false}
use Rattle.dvg_log.specs.Events.{happening_of}
use Rattle.dvg_world.proofs.Judging.{all_judged, before, judged_more, legal_is_untorn, none_judged, torn_here}
use Rattle.dvg_world.proofs.judge.first_torn.Goals as goal

pub loop-number-init : goal.loop-number-init
loop-number-init g c = none_judged (map happening_of c.args.events.now) c.args.entries.now c.new-judge.result c.new-judge.ensures

pub returns-then-take-clause-torn : goal.returns-then-take-clause-torn
returns-then-take-clause-torn g c =
    let event = c.index-events-number.result in
    let entry = c.index-entries-number.result in
    let number = c.loop-number.number in
    let inside = subst (λ end. number < end) c.min-number-end.ensures c.loop-number-test.true in
    let log = before c.args.events.now c.args.entries.now number event entry inside c.index-events-number.is c.index-entries-number.is in
    torn_here c.args.events.now c.args.entries.now number event entry inside c.index-events-number.is c.index-entries-number.is c.loop-number.judge c.loop-number.invariant
    ((c.take.ensures.torn log c.loop-number.invariant.stands).0 c.if-take.true)

pub returns-then-take-clause-legal : goal.returns-then-take-clause-legal
returns-then-take-clause-legal g c = λ R image legal. absurd (legal_is_untorn R image _ legal (returns-then-take-clause-torn g c))

pub loop-number-preserved : goal.loop-number-preserved
loop-number-preserved g c =
    let event = c.index-events-number.result in
    let entry = c.index-entries-number.result in
    let number = c.loop-number.number in
    let inside = subst (λ end. number < end) c.min-number-end.ensures c.loop-number-test.true in
    let log = before c.args.events.now c.args.entries.now number event entry inside c.index-events-number.is c.index-entries-number.is in
    let stands = c.loop-number.invariant.stands in
    judged_more c.args.events.now c.args.entries.now number event entry inside c.index-events-number.is c.index-entries-number.is c.loop-number.judge c.take.new.self
    c.loop-number.invariant (c.take.ensures.stands log stands) (λ torn. true≢false (sym ((c.take.ensures.torn log stands).1 torn) ∙ c.if-take.false))

pub returns-clause-untorn : goal.returns-clause-untorn
returns-clause-untorn g c = λ e. all_judged c.args.events.now c.args.entries.now (search rules) c.loop-number.invariant
