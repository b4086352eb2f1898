use Rattle.std.proofs.Common.{◌+◌, ◌/◌, ◌^◌, get_or, refl, ap, ◌∙◌, arith}
use lib.Count.{count_leading_zeros}
use Rattle.std.proofs.lemmas.Nat.{leading_le}
use Rattle.dvg_print.specs.declared.eight_digits.TheConstants.{COUNTS}
use Rattle.dvg_print.proofs.DigitCounts.{counted, entry_low}
use Rattle.dvg_print.proofs.eight_digits.digit_count.Goals as goal

pub overflow_add-result : goal.overflow_add-result
overflow_add-result c =
    let zeros = count_leading_zeros 32 c.args.number in
    let low = entry_low zeros (omega (arith, leading_le 32 c.args.number)) in
    omega (arith, low, c.from.ensures)

pub returns : goal.returns
returns c =
    let zeros = count_leading_zeros 32 c.args.number in
    ap (λ n. (n + get_or COUNTS zeros 0) / 2 ^ 32) c.from.ensures ∙ counted c.args.number zeros c.requires refl
