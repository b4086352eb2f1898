use Rattle.std.proofs.Common.{◌≡◌, ◌-◌, ◌++◌, drop, ap, ◌∙◌, arith, rules}
use Rattle.dvg_print.proofs.StrokeTexts.{last_put}
use Rattle.dvg_print.proofs.eight_digits.put_digits.Goals as goal

pub returns-clause-text : goal.returns-clause-text
returns-clause-text c =
    let digits = c.args.digits.now in
    let span : c.args.end - (c.args.end - 8) ≡ 8 = omega (arith, c.requires.room) in
    let put = last_put c.args.bytes.now c.to_le_bytes.result c.args.end digits.count 8 (search rules) digits.few
    c.requires.room (search rules) in
    rw (c.copy_from_slice.ensures.after, span) (
    put ∙ ap (λ text. drop (8 - digits.count) text ++ drop c.args.end c.args.bytes.now) c.to_le_bytes.ensures
    ∙ ap (λ text. text ++ drop c.args.end c.args.bytes.now) digits.text
    )
