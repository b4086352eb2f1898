use Rattle.std.proofs.Common.{◌<◌, ◌+◌, ◌*◌, ◌∙◌, ◌++◌, ap, arith, get_or, length}
use Rattle.std.specs.Prelude.{slice_set}
use Rattle.dvg_frame.proofs.Bytes.{bytes-length}
use Rattle.dvg_frame.specs.Bytes.{bytes}
use Rattle.dvg_frame.specs.Layout.{laid}
use Rattle.dvg_lay.proofs.RamLaid.{all_laid, byte_at, more_laid}
use Rattle.dvg_lay.proofs.memory.laid_ram.Goals as goal

pub bounds-laid-from : goal.bounds-laid-from
bounds-laid-from g c =
    let words = laid c.args.half c.args.frame.now.operations in
    let is = c.as_slice-laid.ensures.value ∙ c.in_ok-put_laid.ensures ∙ ap (λ l. l ++ bytes words) c.new-bytes.ensures.items in
    omega (arith, ap length is, bytes-length words, c.len_words-count.ensures.laid c.args.half)

pub loop-k-preserved : goal.loop-k-preserved
loop-k-preserved g c =
    let F = c.args.frame.now.operations in
    let words = laid c.args.half F in
    let is = c.as_slice-laid.ensures.value ∙ c.in_ok-put_laid.ensures ∙ ap (λ l. l ++ bytes words) c.new-bytes.ensures.items in
    let few : c.loop-k.k < 1022 = omega (arith, c.len_words-count.ensures.bound) in
    let low : c.loop-k.k < length (bytes words) = omega (arith, bytes-length words, c.len_words-count.ensures.laid c.args.half) in
    let at = ap (λ b. 2 * b + c.loop-k.k) c.base-first.ensures in
    let write = c.write-in-loop-k.ensures in
    more_laid c.loop-k.store c.write-in-loop-k.new.self c.args.half F c.loop-k.k _ _
    c.loop-k.invariant few write.image.count at (byte_at (bytes words) c.as_slice-laid.result.now c.loop-k.k 0 is low)
    (write.content ∙ ap (λ i. slice_set c.loop-k.store (2 * c.base-first.result + c.loop-k.k) (get_or c.as_slice-laid.result.now i 0)) c.from.ensures)

pub returns : goal.returns
returns g c =
    all_laid c.loop-k.store c.args.half c.args.frame.now.operations c.loop-k.k c.len_words-count.result
    c.loop-k.invariant c.loop-k-test.false (c.len_words-count.ensures.laid c.args.half)
