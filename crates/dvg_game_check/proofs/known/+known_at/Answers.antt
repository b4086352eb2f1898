use Rattle.std.proofs.Common.{◌-◌, sym, ◌∙◌, ap, arith}
use Rattle.dvg_game_check.specs.Brought.{fact_meant, known, ways_in}
use Rattle.dvg_game_check.specs.Meant.{kind_meant}
use Rattle.dvg_game_check.proofs.Knows.{known_free, known_none, known_on, next_same}
use Rattle.dvg_game_check.proofs.known.+known_at.Goals as goal

pub returns-then-count-eq0 : goal.returns-then-count-eq0
returns-then-count-eq0 t c f h = known_none (ways_in c.args.ways.now) f c.args.count c.args.at c.if-count-eq0.true

pub returns-then-bytes-eq0 : goal.returns-then-bytes-eq0
returns-then-bytes-eq0 t c f h =
    known_free (ways_in c.args.ways.now) f c.args.count c.args.at (sym c.way_at-bytes.ensures.value ∙ c.if-bytes-eq0.true)

pub returns : goal.returns
returns t c f h =
    c.next.ensures f
    ∙ (next_same f (c.args.at - c.from.result) c.byte_at-op.result c.byte_at-low.result c.word_at-word.result
    (kind_meant c.kind_of.result) (fact_meant f c.known_at-old.result)
    (known (ways_in c.args.ways.now) f (c.args.count - 1) (c.args.at - c.from.result)) (c.byte_at-op.ensures f h)
    (c.byte_at-low.ensures f h) (c.word_at-word.ensures f h) c.kind_of.ensures (c.known_at-old.ensures f h)
    ∙ known_on (ways_in c.args.ways.now) f c.args.count (c.args.count - 1) c.args.at c.from.result (omega arith)
    (sym c.way_at-bytes.ensures.value ∙ sym c.from.ensures) (omega arith))
