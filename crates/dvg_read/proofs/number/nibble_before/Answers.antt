use Rattle.std.proofs.Common.{◌≡◌, get_or, rules}
use Rattle.dvg_read.proofs.Heads.{first_byte, teen_before}
use Rattle.dvg_read.proofs.number.nibble_before.Goals as goal

pub returns-then-ones-le5-clause-spelled : goal.returns-then-ones-le5-clause-spelled
returns-then-ones-le5-clause-spelled c =
    let text = c.args.text.now in
    let ten : get_or text 0 0 ≡ 49 = search rules in
    teen_before text _ c.in_ok-ones.rest.now c.in_ok-ones.ones c.args.end c.if-ones-le5.true (first_byte text 49 c.in-49.len_at_least ten) c.in_ok-ones.ensures.spelled
