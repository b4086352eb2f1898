use Rattle.std.proofs.Common.{◌∙◌, ap, rules}
use Rattle.dvg_frame.specs.declared.op.OpKind.TheVariants.{Draw}
use Rattle.dvg_read.proofs.Heads.{labs_head}
use Rattle.dvg_read.proofs.op_head.labs.Goals as goal

pub returns : goal.returns
returns c =
    labs_head c.args.text.now _ _ c.in_ok-scale.rest.now c.in_ok-new.field-0 c.in_ok-x.x c.in_ok-y.y c.in_ok-scale.scale (c.in_ok-new.ensures.value ∙ ap Draw c.within-code.ensures) (search rules)
    c.in_ok-x.ensures.spelled c.in_ok-y.ensures.spelled c.in_ok-scale.ensures.spelled
