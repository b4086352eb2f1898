use Rattle.std.proofs.Common.{arith, rules}
use Rattle.std.proofs.lemmas.Int.{to_z-of_z}
use mir.Val.{SFits}
use mir.Syntax.{w16}
use Rattle.dvg_code.proofs.FieldsSpell.{vctr_read}
use Rattle.dvg_code.proofs.decoding.read_vctr.Goals as goal

pub returns : goal.returns
returns c =
    let fx : SFits w16 c.signed-dx.result = search rules in
    let fy : SFits w16 c.signed-dy.result = search rules in
    let is = simp to_z-of_z at c.within.ensures in
    vctr_read _ c.args.first c.args.second _ _ _ _ _ _ _ _ c.requires (omega arith) c.bits-5.ensures c.bits.ensures c.bits-2.ensures c.bits-3.ensures c.bits-4.ensures c.bits-6.ensures c.signed-dy.ensures c.signed-dx.ensures is
