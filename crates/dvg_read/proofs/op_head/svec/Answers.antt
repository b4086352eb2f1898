use Rattle.std.proofs.Common.{◌∙◌, ap, rules}
use Rattle.std.proofs.lemmas.Int.{to_z-of_z}
use mir.Val.{SFits}
use mir.Syntax.{w8}
use Rattle.dvg_frame.specs.declared.op.OpKind.TheVariants.{Draw}
use Rattle.dvg_read.proofs.Heads.{svec_head}
use Rattle.dvg_read.proofs.op_head.svec.Goals as goal

pub returns : goal.returns
returns c =
    let fx : SFits w8 c.in_ok-dx.dx = search rules in
    let fy : SFits w8 c.in_ok-dy.dy = search rules in
    let code = simp to_z-of_z at c.within-code.ensures in
    svec_head c.args.text.now _ _ _ c.in_ok-z.rest.now c.in_ok-new.field-0 c.in_ok-scale.scale c.in_ok-dx.dx c.in_ok-dy.dy c.in_ok-z.z (c.in_ok-new.ensures.value ∙ ap Draw code) (search rules)
    c.in_ok-scale.ensures.spelled c.in_ok-dx.ensures.spelled c.in_ok-dy.ensures.spelled c.in_ok-z.ensures.spelled
