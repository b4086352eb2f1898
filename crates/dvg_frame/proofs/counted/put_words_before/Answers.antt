use Rattle.std.proofs.Common.{arith}
use Rattle.dvg_frame.proofs.Counts.{counted_all, counts_item, counts-length_take, size_bound}
use Rattle.dvg_frame.proofs.Sizes.{size_item, size-take_le}
use Rattle.dvg_frame.proofs.counted.put_words_before.Goals as goal

pub push-requires-in-loop-op : goal.push-requires-in-loop-op
push-requires-in-loop-op c =
    let count = counts-length_take c.args.ops.now c.loop-op.op-index c.loop-op.words_before.items c.loop-op.invariant.0 in
    let few = c.requires.count in
    omega (arith, c.loop-op-test.true)

pub overflow_add-words : goal.overflow_add-words
overflow_add-words c =
    let few = c.requires.count in
    let bound = size_bound c.args.ops.now in
    let words = c.loop-op.invariant.1 in
    omega (arith, size-take_le c.args.ops.now c.loop-op.op-index, c.words_of-words.ensures.bound)

pub loop-op-preserved : goal.loop-op-preserved
loop-op-preserved c =
    let within = c.loop-op-test.true in
    let item = c.op-item.is in
    let words = size_item c.args.ops.now _ _ _ _ _ c.loop-op.invariant.1 within item c.kind.ensures.value
    c.words_of-words.ensures.value in (
      counts_item c.args.ops.now _ _ _ _ _ within item c.loop-op.invariant.0 words c.push-in-loop-op.ensures.items,
      words,
    )

pub returns : goal.returns
returns c =
    counted_all c.args.ops.now c.loop-op.op-index c.loop-op.words_before.items c.requires
    (omega (arith, c.loop-op-test.false, c.loop-op.auto.op-index-end)) c.loop-op.invariant.0
