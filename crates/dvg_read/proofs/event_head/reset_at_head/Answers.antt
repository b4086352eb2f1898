use Rattle.std.proofs.Common.{rules}
use Rattle.dvg_read.proofs.EventHeads.{reset_event}
use Rattle.dvg_read.proofs.event_head.reset_at_head.Goals as goal

pub returns : goal.returns
returns c = reset_event c.args.text.now c.in_ok-after_name.field-0.now c.digit_of-high.result c.digit_of-low.result c.in_ok-after_name.ensures c.in-32.len_at_least (search rules) (search rules) c.digit_of-high.ensures c.digit_of-low.ensures c.if-high-gt15.false c.if-low-gt15.false
