use Rattle.std.proofs.Common.{arith}
use Rattle.std.proofs.lemmas.Grind.{common_steps}
use Rattle.dvg_read.proofs.Decimals.{minus_read, signed_some}
use Rattle.dvg_read.proofs.number.integer.Goals as goal

pub returns-in_err-first-clause-only : goal.returns-in_err-first-clause-only
returns-in_err-first-clause-only c n h e = let some = signed_some n h in grind (arith, common_steps, some)

pub returns-in_err-natural-2-clause-only : goal.returns-in_err-natural-2-clause-only
returns-in_err-natural-2-clause-only c n h e =
    let read = minus_read c.in_ok-first.digits.now n c.natural-2.result h (grind (arith, common_steps)) c.natural-2.ensures.only in grind (arith, common_steps, read)

pub returns-in_err-size-clause-only : goal.returns-in_err-size-clause-only
returns-in_err-size-clause-only c n h e =
    let read = minus_read c.in_ok-first.digits.now n c.natural-2.result h (grind (arith, common_steps)) c.natural-2.ensures.only in grind (arith, common_steps, read)

pub returns-then-size-gt0-clause-only : goal.returns-then-size-gt0-clause-only
returns-then-size-gt0-clause-only c n h e =
    let read = minus_read c.in_ok-first.digits.now n c.natural-2.result h (grind (arith, common_steps)) c.natural-2.ensures.only in grind (arith, common_steps, read)

pub returns-else-size-gt0-clause-only : goal.returns-else-size-gt0-clause-only
returns-else-size-gt0-clause-only c n h e =
    let read = minus_read c.in_ok-first.digits.now n c.natural-2.result h (grind (arith, common_steps)) c.natural-2.ensures.only in grind (arith, common_steps, read)
