use Rattle.std.proofs.Common.{◌<◌, ◌+◌, ◌*◌, ap, arith}
use Rattle.dvg_lay.proofs.RamLaid.{all_laid, more_laid}
use Rattle.test_facts.proofs.undisturbed.laid.Goals as goal

pub loop-k-preserved : goal.loop-k-preserved
loop-k-preserved c =
    let F = c.args.frame.now.operations in
    let few : c.loop-k.k < 1022 = omega (arith, c.len_words-k-end.ensures.bound) in
    let at = ap (λ b. 2 * b + c.loop-k.k) c.base-first.ensures in
    let write = c.write-in-loop-k.ensures in
    more_laid c.loop-k.store c.write-in-loop-k.new.self c.args.half F c.loop-k.k _ c.byte.result
    c.loop-k.invariant few write.image.count at c.byte.ensures write.content

pub returns : goal.returns
returns c =
    let F = c.args.frame.now.operations in
    all_laid c.loop-k.store c.args.half F c.loop-k.k c.len_words-k-end.result
    c.loop-k.invariant c.loop-k-test.false (c.len_words-k-end.ensures.laid c.args.half)
