use Rattle.std.proofs.Common.{arith}
use Rattle.std.specs.Str.Parse.{without_leading_plus}
use Rattle.dvg_args.proofs.Numbers.{decimal_none, decimal_read}
use Rattle.dvg_args.proofs.options.number_in.Goals as goal

pub returns-in_default : goal.returns-in_default
returns-in_default c =
    decimal_none _ _ (without_leading_plus c.args.text.now) (λ numeral low high. c.in_default.ensures.value.0 (numeral, omega arith))

pub returns : goal.returns
returns c =
    let read = c.in-Ok.ensures.value.0 in
    decimal_read _ _ _ (without_leading_plus c.args.text.now) read.0.0 read.1 (omega arith) (omega arith)
