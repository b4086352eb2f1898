use Rattle.std.proofs.Common.{◌<◌, arith, rules, subst, sym}
use Rattle.std.proofs.lemmas.Int.{to_z-of_z}
use mir.Val.{SFits}
use mir.Syntax.{w16, w8}
use Rattle.dvg_code.proofs.FieldsSpell.{svec_read, short_fits}
use Rattle.dvg_code.proofs.decoding.read_short.Goals as goal

pub returns : goal.returns
returns c =
    let fx : SFits w16 c.signed-dx.result = search rules in
    let fy : SFits w16 c.signed-dy.result = search rules in
    let x_size : c.bits-4.result < 4 = omega arith in
    let y_size : c.bits-2.result < 4 = omega arith in
    let gx : SFits w8 c.signed-dx.result = subst (SFits w8) (sym c.signed-dx.ensures) (short_fits _ _ x_size) in
    let gy : SFits w8 c.signed-dy.result = subst (SFits w8) (sym c.signed-dy.ensures) (short_fits _ _ y_size) in
    let is = simp to_z-of_z at c.within.ensures in
    svec_read _ c.args.word _ _ _ _ _ _ _ _ _ c.requires (omega arith) c.bits-6.ensures c.bits.ensures c.bits-2.ensures c.bits-7.ensures c.bits-5.ensures c.bits-3.ensures c.bits-4.ensures c.signed-dy.ensures c.signed-dx.ensures is
