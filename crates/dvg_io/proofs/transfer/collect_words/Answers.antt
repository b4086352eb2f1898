use Rattle.std.proofs.Common.{◌<◌, ◌∷◌, [], ◌++◌, length, take, sym, ap, ◌∙◌, arith}
use Rattle.std.proofs.lemmas.List.{take_all, take_more}
use Rattle.dvg_code.specs.Words.{words_of}
use Rattle.dvg_code.proofs.BytesOfWords.{word_k}
use Rattle.dvg_io.proofs.Inputs.{length-words_of}
use Rattle.dvg_io.proofs.transfer.collect_words.Goals as goal

pub loop-k-init : goal.loop-k-init
loop-k-init g c = record { so_far = c.new-words.ensures.items }

pub loop-k-preserved : goal.loop-k-preserved
loop-k-preserved g c =
    let words = words_of c.args.bytes.now in
    let k = c.loop-k.k in
    let low : k < length words = omega (arith, length-words_of c.args.bytes.now c.requires) in
    let same = c.word_at.ensures ∙ sym (word_k c.args.bytes.now k (omega arith)) in
    record { so_far = c.in_ok-push.ensures.items ∙ (ap (λ front. front ++ c.word_at.result ∷ []) c.loop-k.invariant.so_far ∙ (ap (λ word. take k words ++ word ∷ []) same ∙ sym (take_more words k 0 low))) }

pub returns : goal.returns
returns g c = c.loop-k.invariant.so_far ∙ take_all c.loop-k.k (words_of c.args.bytes.now) (omega (arith, length-words_of c.args.bytes.now c.requires))
