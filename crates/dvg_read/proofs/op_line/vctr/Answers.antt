use Rattle.std.proofs.lemmas.Int.{to_z-of_z}
use Rattle.std.proofs.Common.{rules}
use mir.Val.{SFits}
use mir.Syntax.{w16}
use Rattle.dvg_read.proofs.OpRows.{vctr_made}
use Rattle.dvg_read.proofs.op_line.vctr.Goals as goal

pub returns-clause-found : goal.returns-clause-found
returns-clause-found c =
    let fx : SFits w16 c.in_ok-dx.dx = search rules in
    let fy : SFits w16 c.in_ok-dy.dy = search rules in
    let drawn = simp to_z-of_z at c.draw.ensures.found in
    vctr_made c.draw.result _ _ _ _ c.in_ok-scale.scale c.in_ok-dx.dx c.in_ok-dy.dy c.in_ok-z.z drawn c.in_ok-scale.ensures.found c.in_ok-dx.ensures.found c.in_ok-dy.ensures.found c.in_ok-z.ensures.found
