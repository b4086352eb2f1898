use Rattle.std.proofs.Common.{◌-◌, drop, ap, ◌∙◌, sym, arith}
use Rattle.itoa.proofs.Decimal.{length_one, length_two}
use Rattle.dvg_print.proofs.PutDigits.{tiny_put}
use Rattle.dvg_print.proofs.digits.put_tiny.Goals as goal

pub returns-then-number-lt10-clause-start : goal.returns-then-number-lt10-clause-start
returns-then-number-lt10-clause-start c = omega (arith, length_one c.args.number c.if-number-lt10.true)

pub returns-then-number-lt10-clause-text : goal.returns-then-number-lt10-clause-text
returns-then-number-lt10-clause-text c =
    sym (ap (λ count. drop (c.args.end - count) c.put_pair.new.bytes) (length_one c.args.number c.if-number-lt10.true))
    ∙ tiny_put c.args.number c.args.end c.put_pair.new.bytes (drop c.args.end c.args.bytes.now) c.requires.number c.requires.room c.put_pair.ensures

pub returns-else-number-lt10-clause-start : goal.returns-else-number-lt10-clause-start
returns-else-number-lt10-clause-start c =
    omega (arith, length_two c.args.number c.if-number-lt10.false c.requires.number)

pub returns-else-number-lt10-clause-text : goal.returns-else-number-lt10-clause-text
returns-else-number-lt10-clause-text c =
    sym (ap (λ count. drop (c.args.end - count) c.put_pair.new.bytes)
    (length_two c.args.number c.if-number-lt10.false c.requires.number))
    ∙ tiny_put c.args.number c.args.end c.put_pair.new.bytes (drop c.args.end c.args.bytes.now) c.requires.number c.requires.room c.put_pair.ensures
