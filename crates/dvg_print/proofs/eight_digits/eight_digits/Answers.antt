use Rattle.dvg_print.proofs.EightDigits.{in_turn, tens_of, text_of}
use Rattle.std.proofs.Common.{◌/◌, ◌%◌}
use Rattle.dvg_print.proofs.eight_digits.eight_digits.Goals as goal

pub overflow_sub-result : goal.overflow_sub-result
overflow_sub-result c =
    let n = c.args.number in
    let quarters = c.quarters-quarters in
    let tens = tens_of n quarters.result c.requires quarters.ensures in
    (in_turn (n / 1000000) (n / 10000 % 100) (n / 100 % 100) (n % 100) quarters.result _ quarters.ensures tens).0

pub returns : goal.returns
returns c =
    let n = c.args.number in
    let quarters = c.quarters-quarters in
    let tens = tens_of n quarters.result c.requires quarters.ensures in
    text_of n quarters.result _ c.requires quarters.ensures tens
