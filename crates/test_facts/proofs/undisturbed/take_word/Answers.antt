use Rattle.std.proofs.Common.{◌≡◌, ◌%◌, ◌/◌, None, arith, get_or, rules}
use Rattle.dvg_gen.specs.Machine.{answer_of}
use Rattle.dvg_dump.proofs.OneWordMore.{takes_both, takes_hole}
use Rattle.test_facts.proofs.Alone.{was_low}
use Rattle.test_facts.proofs.undisturbed.take_word.Goals as goal

pub returns-in_default : goal.returns-in_default
returns-in_default c =
    takes_hole answer_of c.take_byte.result _ _ _ c.in_default.is c.take_byte.ensures.answers

pub unreachable-requires : goal.unreachable-requires
unreachable-requires c =
    let stands = c.requires.stands in
    c.in_default-2.not-Low
    (was_low c.in_ok-take_byte.field-0 (c.in_ok-take_byte.ensures.answers stands.0 None stands.1).1)

pub returns : goal.returns
returns c =
    let word = c.in-Some.word in
    let low : get_or c.to_le_bytes.result 0 0 ≡ word % 256 = search rules in
    let high : get_or c.to_le_bytes.result 1 0 ≡ word / 256 = search rules in
    takes_both answer_of c.take_byte-3.result (answer_of c.in_ok-take_byte.field-0) _ c.take_byte-2.new.self _ _ word _ _
    c.in-Some.is (omega arith) c.in_ok-take_byte.ensures.answers c.take_byte-3.ensures.answers
