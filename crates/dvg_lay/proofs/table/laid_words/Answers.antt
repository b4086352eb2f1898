use Rattle.std.proofs.Common.{◌∙◌, ◌++◌, ap}
use Rattle.std.proofs.lemmas.Result.{IfOk-weaker}
use Rattle.dvg_code.specs.Words.{words_of}
use Rattle.dvg_mem.specs.declared.half.Half.TheVariants.{H0}
use Rattle.dvg_frame.specs.Bytes.{bytes}
use Rattle.dvg_frame.specs.Layout.{laid}
use Rattle.dvg_lay.proofs.LaidBytes.{even_bytes, words_again}
use Rattle.dvg_lay.proofs.table.laid_words.Goals as goal

pub collect_words-requires : goal.collect_words-requires
collect_words-requires g c =
    let words = laid H0 c.args.frame.now.operations in
    even_bytes words c.as_slice.result.now
    (c.as_slice.ensures.value ∙ c.in_ok-put_laid.ensures ∙ ap (λ front. front ++ bytes words) c.new-bytes.ensures.items)

pub returns : goal.returns
returns g c =
    let words = laid H0 c.args.frame.now.operations in
    let is = c.as_slice.ensures.value ∙ c.in_ok-put_laid.ensures ∙ ap (λ front. front ++ bytes words) c.new-bytes.ensures.items in
    IfOk-weaker c.collect_words.result _ _ (λ found e. e ∙ ap words_of is ∙ words_again words) c.collect_words.ensures
