use Rattle.std.proofs.Common.{◌≡◌, ◌+◌, ◌∙◌, sym, ap, Some, length, arith}
use Rattle.std.proofs.lemmas.Bool.{eqb-true}
use Rattle.dvg_frame.specs.own.Straight.{draw_count}
use Rattle.dvg_frame.proofs.Counts.{size_bound}
use Rattle.dvg_frame.proofs.Measured.{draws_item, draws_all, draws_le, draws-take_le, straight_by, count_straight, last_halts}
use Rattle.dvg_frame.proofs.Sizes.{read_op, size_item, size-take_le, size-take_all}
use Rattle.dvg_frame.proofs.checking.straight.measured.Goals as goal

pub overflow_add-words : goal.overflow_add-words
overflow_add-words c =
    let few = c.requires.few in
    let bound = size_bound c.args.draft.now in
    let words = c.loop-op.invariant.words in
    omega (arith, size-take_le c.args.draft.now c.loop-op.op-index, c.words_of.ensures.bound)

pub loop-op-preserved : goal.loop-op-preserved
loop-op-preserved c = record {
  words = size_item c.args.draft.now _ _ _ _ _ c.loop-op.invariant.words c.loop-op-test.true c.op-item.is c.kind-kind.ensures.value c.words_of.ensures.value;
  draws = draws_item c.args.draft.now _ _ _ _ _ c.loop-op.invariant.draws c.loop-op-test.true c.op-item.is c.kind-kind.ensures.value c.draws_of.ensures;
}

pub overflow_add-draws : goal.overflow_add-draws
overflow_add-draws c =
    let few = c.requires.few in
    let bound = draws_le c.args.draft.now in
    let after = draws_item c.args.draft.now _ _ _ _ _ c.loop-op.invariant.draws c.loop-op-test.true c.op-item.is c.kind-kind.ensures.value c.draws_of.ensures in
    omega (arith, draws-take_le c.args.draft.now (c.loop-op.op-index + 1))

pub returns-then-from-before : goal.returns-then-from-before
returns-then-from-before c =
    let all : c.loop-op.op-index ≡ length c.args.draft.now = omega (arith, c.loop-op-test.false, c.loop-op.auto.op-index-end) in
    let count : draw_count c.args.draft.now + 1 ≡ length c.args.draft.now =
    let one = c.loop-op.invariant.draws ∙ draws_all c.args.draft.now c.loop-op.op-index all in
    omega (arith, c.from.ensures, c.if-from-before.true, c.requires.some) in
    let last = read_op c.args.draft.now _ _ (omega (arith, c.requires.some)) c.index-draft-before.is in
    record {
      words = c.loop-op.invariant.words ∙ size-take_all c.args.draft.now c.loop-op.op-index all;
      straight = (
        λ yes. straight_by c.args.draft.now _ (last ∙ ap Some (sym c.kind.ensures.value ∙ c.is_halt.ensures.0 yes)) (omega (arith, c.requires.some)) count,
        λ runs. c.is_halt.ensures.1 (c.kind.ensures.value ∙ last_halts c.args.draft.now _ _ last (omega (arith, c.requires.some)) runs),
      );
    }

pub returns-else-from-before : goal.returns-else-from-before
returns-else-from-before c =
    let all : c.loop-op.op-index ≡ length c.args.draft.now = omega (arith, c.loop-op-test.false, c.loop-op.auto.op-index-end) in
    let other : ¬ (draw_count c.args.draft.now + 1 ≡ length c.args.draft.now) = λ count.
    let one = c.loop-op.invariant.draws ∙ draws_all c.args.draft.now c.loop-op.op-index all in
    omega (arith, c.from.ensures, c.if-from-before.false, c.requires.some) in
    record {
      words = c.loop-op.invariant.words ∙ size-take_all c.args.draft.now c.loop-op.op-index all;
      straight = (
        λ yes. let same = eqb-true _ _ yes in absurd (omega (arith, c.if-from-before.false)),
        λ runs. absurd (other (count_straight c.args.draft.now runs)),
      );
    }
