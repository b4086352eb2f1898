use Rattle.std.proofs.Common.{◌∙◌, ap, arith}
use Rattle.dvg_mem.specs.declared.half.Half.TheVariants.{H0}
use Rattle.dvg_frame.specs.Cursors.{laid_ops}
use Rattle.dvg_blame.proofs.Lists.{next_at}
use Rattle.dvg_lay.proofs.TableLines.{cut_words, line_added}
use Rattle.dvg_lay.proofs.table.put_op_lines.Goals as goal

pub loop-i-preserved : goal.loop-i-preserved
loop-i-preserved g c =
    let F = c.args.frame.now.ops.now in
    let i = c.loop-i.i in
    let op = c.op-item.result in
    let next = next_at F i op c.loop-i-test.true c.op-item.is in
    let cut = cut_words F _ op c.loop-i.rest.now c.op_words.result (c.loop-i.invariant.rest ∙ ap (laid_ops H0 F) next) c.op_words.ensures in
    record {
      rest = c.split_at.ensures.back ∙ cut.others;
      text = line_added F F c.args.frame.now.sources.now i op _ c.split_at.result.0.now c.loop-i.text.items c.put_op_line.new.text.items _
          c.loop-i-test.true c.op-item.is (omega (arith, c.requires.lines, c.loop-i-test.true)) (c.split_at.ensures.front ∙ cut.these)
          c.in_ok-put_op_line.ensures c.loop-i.invariant.text;
    }
