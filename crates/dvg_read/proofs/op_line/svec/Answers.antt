use Rattle.std.proofs.Common.{arith, rules}
use Rattle.std.proofs.lemmas.Int.{to_z-of_z}
use mir.Val.{SFits}
use mir.Syntax.{w8}
use Rattle.dvg_read.proofs.OpRows.{svec_drawn, svec_made, svec_row}
use Rattle.dvg_read.proofs.op_line.svec.Goals as goal

pub returns-clause-found : goal.returns-clause-found
returns-clause-found c =
    let fx : SFits w8 c.in_ok-dx.dx = search rules in
    let fy : SFits w8 c.in_ok-dy.dy = search rules in
    let drawn = simp to_z-of_z at c.draw.ensures.found in
    svec_made c.draw.result _ _ _ _ c.in_ok-scale.scale c.in_ok-dx.dx c.in_ok-dy.dy c.in_ok-z.z drawn c.in_ok-scale.ensures.found c.in_ok-dx.ensures.found c.in_ok-dy.ensures.found c.in_ok-z.ensures.found

pub returns-clause-only : goal.returns-clause-only
returns-clause-only c op h =
    let fx : SFits w8 c.in_ok-dx.dx = search rules in
    let fy : SFits w8 c.in_ok-dy.dy = search rules in
    let r = svec_row h in
    let fits = r.fits in
    let s = c.in_ok-scale.ensures.only r.scale (omega arith) r.s_is in
    let x = c.in_ok-dx.ensures.only r.dx (omega arith) r.x_is in
    let y = c.in_ok-dy.ensures.only r.dy (omega arith) r.y_is in
    let z = c.in_ok-z.ensures.only r.intensity (omega arith) r.z_is in
    let drawn = simp to_z-of_z at c.draw.ensures.only in
    svec_drawn c.draw.result op _ _ _ _ r.scale r.dx r.dy r.intensity s x y z r.is r.fits drawn
