use Rattle.std.proofs.Common.{◌*◌, ap, ◌∙◌}
use Rattle.dvg_frame.specs.Bytes.{addressed}
use Rattle.dvg_mem.specs.Areas.{base}
use Rattle.test_facts.proofs.Jumping.{bytes_are}
use Rattle.test_facts.proofs.frames.bytes_of_a_jump.Goals as goal

pub returns : goal.returns
returns c = c.new.ensures.items ∙ ap (addressed (2 * base c.args.half)) (bytes_are c.args.half c.args.frame.operations c.requires)
