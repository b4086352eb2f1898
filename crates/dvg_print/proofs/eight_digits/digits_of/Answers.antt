use Rattle.std.proofs.Common.{◌-◌, ◌≤◌, length, drop, decimal, ap, ◌∙◌, arith}
use Rattle.std.proofs.lemmas.Fmt.{length-decimal-le}
use Rattle.std.specs.Int.{to_le_bytes, w64}
use Rattle.dvg_print.proofs.EightDigits.{padded_text}
use Rattle.dvg_print.proofs.eight_digits.digits_of.Goals as goal

pub invariant_of-result : goal.invariant_of-result
invariant_of-result c =
    let n = c.args.number in
    let few : length (decimal n) ≤ 8 = length-decimal-le 8 n (omega arith) (omega arith) (omega arith) in
    record {
      few = omega (arith, few, c.digit_count.ensures);
      text = ap (λ count. drop (8 - count) (to_le_bytes w64 c.eight_digits.result)) c.digit_count.ensures
          ∙ ap (drop (8 - length (decimal n))) c.eight_digits.ensures ∙ padded_text 8 n (omega arith) few;
    }
