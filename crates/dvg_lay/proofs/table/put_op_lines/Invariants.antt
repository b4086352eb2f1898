use Rattle.std.proofs.Common.{◌≡◌, ◌++◌, drop}
use Rattle.dvg_mem.specs.declared.half.Half.TheVariants.{H0}
use Rattle.dvg_frame.specs.Cursors.{laid_ops}
use Rattle.dvg_lay.specs.Texts.{op_lines}
use Rattle.dvg_lay.proofs.table.put_op_lines.Given as goal

abbrev pub invariant-loop-i : goal.invariant-loop-i
invariant-loop-i g l = record {
  rest : l.rest ≡ laid_ops H0 l.frame.ops.now (drop l.i l.frame.ops.now);
  text : l.text.items ++ op_lines l.frame.ops.now (drop l.i l.frame.ops.now) (drop l.i l.frame.sources.now)
      ≡ l.fn.text.items ++ op_lines l.frame.ops.now l.frame.ops.now l.frame.sources.now;
}
