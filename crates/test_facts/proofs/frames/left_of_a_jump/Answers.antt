use Rattle.std.proofs.Common.{◌≡◌, ◌*◌, length, refl, ap, ◌∙◌}
use Rattle.dvg_frame.specs.Bytes.{addressed}
use Rattle.dvg_mem.specs.declared.half.Half.{Half}
use Rattle.dvg_mem.specs.declared.half.Half.TheVariants.{H0, H1}
use Rattle.dvg_mem.specs.Areas.{base}
use Rattle.test_facts.specs.Facts.{jump_bytes}
use Rattle.test_facts.proofs.Jumping.{bytes_are}
use Rattle.test_facts.proofs.frames.left_of_a_jump.Goals as goal

eight : (half : Half) → length (addressed (2 * base half) (jump_bytes half)) ≡ 8
eight H0 = refl
eight H1 = refl

pub returns : goal.returns
returns c =
    let half = c.args.half in
    c.left.ensures.items ∙ ap length (c.of.ensures.items ∙ ap (addressed (2 * base half)) (bytes_are half c.args.frame.now.operations c.requires)) ∙ eight half
