use Rattle.std.proofs.Common.{arith, length}
use Rattle.dvg_code.specs.Cutting.{Fronts}
use Rattle.dvg_code.specs.Spelling.{canon}
use Rattle.dvg_code.proofs.Unique.{front_of_canon, front_of_one, front_of_two, same_fronts}
use Rattle.dvg_code.proofs.decoding.decode.Goals as goal

pub returns-in-len1-up-clause-found : goal.returns-in-len1-up-clause-found
returns-in-len1-up-clause-found c = λ instr count other.
    let read : Fronts c.args.words.now c.read_one.result 1 = front_of_one c.args.words.now c.read_one.result (omega arith) c.read_one.ensures in
    let same = same_fronts c.args.words.now c.read_one.result instr 1 count read other in
    cc (same.0, same.1)

pub returns-in-len1-up-clause-encoded : goal.returns-in-len1-up-clause-encoded
returns-in-len1-up-clause-encoded c = λ instr after r parts.
    returns-in-len1-up-clause-found c instr (length (canon instr)) (front_of_canon c.args.words.now after instr r parts)

pub returns-in-len2-up-clause-found : goal.returns-in-len2-up-clause-found
returns-in-len2-up-clause-found c = λ instr count other.
    let read : Fronts c.args.words.now c.read_two.result 2 = front_of_two c.args.words.now c.read_two.result (omega arith) c.read_two.ensures in
    let same = same_fronts c.args.words.now c.read_two.result instr 2 count read other in
    cc (same.0, same.1)

pub returns-in-len2-up-clause-encoded : goal.returns-in-len2-up-clause-encoded
returns-in-len2-up-clause-encoded c = λ instr after r parts.
    returns-in-len2-up-clause-found c instr (length (canon instr)) (front_of_canon c.args.words.now after instr r parts)
