use Rattle.std.proofs.Common.{arith}
use Rattle.dvg_code.proofs.FieldsSpell.{labs_read}
use Rattle.dvg_code.proofs.decoding.read_labs.Goals as goal

pub returns : goal.returns
returns c =
    labs_read _ c.args.first c.args.second _ _ _ c.requires.low c.requires.high (omega arith) c.bits.ensures c.bits-2.ensures c.bits-3.ensures c.within.ensures
