use Rattle.std.proofs.Common.{◌∙◌, ap, arith, length}
use Rattle.dvg_frame.specs.Layout.{op_words}
use Rattle.dvg_frame.proofs.Sizes.{size-take_more, laid_word, spelling_length}
use Rattle.dvg_frame.proofs.frame.word_at.Goals as goal

pub bounds-deref-from : goal.bounds-deref-from
bounds-deref-from c =
    let count = spelling_length _ _ _ _ _ _ c.op.ensures c.spelling.ensures (c.words_of-count.ensures.value ∙ ap op_words c.kind.ensures.value) in
    let same = ap length c.deref.ensures.0 in
    omega arith

pub returns-then-n-before : goal.returns-then-n-before
returns-then-n-before c =
    laid_word _ _ _ _ _ _ _ _ _ c.op.ensures c.loop-i.invariant.0 c.loop-i.invariant.1 (c.words_of-count.ensures.value ∙ ap op_words c.kind.ensures.value) c.if-n-before.true
    (c.deref.ensures.0 ∙ c.spelling.ensures _ c.op.ensures) c.from.ensures

pub loop-i-preserved : goal.loop-i-preserved
loop-i-preserved c = (size-take_more _ _ _ _ _ _ c.loop-i.invariant.0 c.op.ensures c.kind.ensures.value c.words_of-count.ensures.value, omega arith)
