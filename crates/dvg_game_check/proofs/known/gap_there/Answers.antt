use Rattle.std.proofs.Common.{◌+◌, sym, ◌∙◌, ap}
use Rattle.dvg_game_words.specs.Kinds.{kind_of}
use Rattle.dvg_game_words.specs.Machine.{word_at}
use Rattle.dvg_game_words.specs.Brings.{brought_by, is_leap}
use Rattle.dvg_game_check.specs.Brought.{Tells, fact_meant, has, has_word, known, ways_in}
use Rattle.dvg_game_check.specs.Meant.{kind_meant}
use Rattle.dvg_game_check.proofs.Knows.{brings_alone, brings_so, flows_by, no_flow}
use Rattle.dvg_game_check.proofs.known.gap_there.Goals as goal
use Rattle.std.proofs.Common.{subst}

pub returns-then-not-flows : goal.returns-then-not-flows
returns-then-not-flows c f h =
    let k = c.kind_of-kind.ensures ∙ ap kind_of (c.byte_at.ensures f h) in
    no_flow c.args.tables.now c.args.words.now f (ways_in c.args.ways.now) c.args.at
    (sym (flows_by (kind_meant c.kind_of-kind.result) (kind_of (f c.args.at)) (ways_in c.args.ways.now) f c.args.at
    c.byte_at-low.result c.word_at-word.result k (c.byte_at-low.ensures f h) (c.word_at-word.ensures f h))
    ∙ (sym c.flows.ensures ∙ c.if-not-flows.true))

pub returns-then-not-is_leap : goal.returns-then-not-is_leap
returns-then-not-is_leap c f h =
    let k = c.kind_of-kind.ensures ∙ ap kind_of (c.byte_at.ensures f h) in
    brings_alone c.args.tables.now c.args.words.now f (ways_in c.args.ways.now) c.args.at
    (sym (flows_by (kind_meant c.kind_of-kind.result) (kind_of (f c.args.at)) (ways_in c.args.ways.now) f c.args.at
    c.byte_at-low.result c.word_at-word.result k (c.byte_at-low.ensures f h) (c.word_at-word.ensures f h))
    ∙ (sym c.flows.ensures ∙ c.if-not-flows.false))
    (ap is_leap (sym k) ∙ (sym c.is_leap.ensures ∙ c.if-not-is_leap.true))

pub returns : goal.returns
returns c f h =
    let k = c.kind_of-kind.ensures ∙ ap kind_of (c.byte_at.ensures f h) in
    brings_so c.args.tables.now c.args.words.now f (ways_in c.args.ways.now) c.args.at c.brought_gap.result
    (sym (flows_by (kind_meant c.kind_of-kind.result) (kind_of (f c.args.at)) (ways_in c.args.ways.now) f c.args.at
    c.byte_at-low.result c.word_at-word.result k (c.byte_at-low.ensures f h) (c.word_at-word.ensures f h))
    ∙ (sym c.flows.ensures ∙ c.if-not-flows.false))
    (ap is_leap (sym k) ∙ (sym c.is_leap.ensures ∙ c.if-not-is_leap.false))
    (subst (λ x. Tells c.args.tables.now c.args.words.now c.brought_gap.result x (word_at f (c.args.at + 1)))
    (c.known_at-fact.ensures f h)
    (subst (λ x. Tells c.args.tables.now c.args.words.now c.brought_gap.result (fact_meant f c.known_at-fact.result) x)
    (c.word_at-word.ensures f h) (c.brought_gap.ensures f h)))
