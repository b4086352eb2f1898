use Rattle.std.proofs.Common.{◌+◌, refl, arith}
use Rattle.dvg_read.specs.TraceEvents.{name_bytes}
use Rattle.dvg_read.specs.Texts.{lines}
use Rattle.dvg_read.proofs.EventHeads.{name_event, one_more}
use Rattle.dvg_read.proofs.text_lines.TextLines.take_names.Goals as goal

pub loop-after-preserved : goal.loop-after-preserved
loop-after-preserved c = record {
  few = omega arith;
  taken = λ event h. one_more (lines c.args.self.now.rest.now) (lines c.loop-after.rest.now) (lines c.in-Some.after.now) event c.loop-after.count (c.loop-after.count + 1) (c.loop-after.invariant.taken event h) (name_event c.loop-after.rest.now (name_bytes c.args.name) c.in-Some.after.now event h c.in-Some.ensures) refl;
}
