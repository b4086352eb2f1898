use Rattle.std.proofs.Common.{◌≡◌, get_or, rules}
use Rattle.dvg_read.proofs.Heads.{digit_alone, two_bytes}
use Rattle.dvg_read.proofs.number.digit_before.Goals as goal

pub returns-in-len2-up-clause-spelled : goal.returns-in-len2-up-clause-spelled
returns-in-len2-up-clause-spelled c =
    let text = c.args.text.now in
    let digit = c.in_ok-decimal_digit.ensures in
    let then : get_or text 1 0 ≡ c.args.end = search rules in
    digit_alone text _ c.in_ok-decimal_digit.field-0 c.args.end digit.1 (two_bytes text _ c.args.end c.in-len2-up.len_at_least digit.0 then)
