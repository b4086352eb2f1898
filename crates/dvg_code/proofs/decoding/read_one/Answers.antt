use Rattle.std.proofs.Common.{arith}
use Rattle.dvg_code.proofs.FieldsSpell.{halt_read, jsrl_read, rtsl_read, jmpl_read}
use Rattle.dvg_code.proofs.decoding.read_one.Goals as goal

pub returns-in-11 : goal.returns-in-11
returns-in-11 c = halt_read _ c.args.word _ (omega arith) c.bits.ensures c.in-11.is c.within.ensures

pub returns-in-12 : goal.returns-in-12
returns-in-12 c = jsrl_read _ c.args.word _ _ (omega arith) c.bits.ensures c.in-12.is c.bits-in-12.ensures c.within-in-12.ensures

pub returns-in-13 : goal.returns-in-13
returns-in-13 c = rtsl_read _ c.args.word _ (omega arith) c.bits.ensures c.in-13.is c.within-in-13.ensures

pub returns-in-14 : goal.returns-in-14
returns-in-14 c = jmpl_read _ c.args.word _ _ (omega arith) c.bits.ensures c.in-14.is c.bits-in-14.ensures c.within-in-14.ensures
