use Rattle.std.proofs.Common.{arith}
use Rattle.std.proofs.lemmas.Grind.{common_steps}
use Rattle.dvg_read.proofs.Decimals.{shaped, respelled}
use Rattle.dvg_read.proofs.number.natural.Goals as goal

pub returns-in_err-first-clause-only : goal.returns-in_err-first-clause-only
returns-in_err-first-clause-only c n h e = let s = shaped n _ h e in grind (arith, common_steps, s.some)

pub returns-then-part-gt-MAX_DIGITS-clause-only : goal.returns-then-part-gt-MAX_DIGITS-clause-only
returns-then-part-gt-MAX_DIGITS-clause-only c n h e = let s = shaped n _ h e in grind (arith, common_steps, s.short, s.lead)

pub returns-in_err-value_of-clause-only : goal.returns-in_err-value_of-clause-only
returns-in_err-value_of-clause-only c n h e = let s = shaped n _ h e in let only = c.value_of.ensures.only s.digits in grind (arith, common_steps, only)

pub returns-clause-found : goal.returns-clause-found
returns-clause-found c =
    let found = c.in_ok-value_of.ensures.found in
    let spelled = respelled c.args.part.now c.in_ok-value_of.field-0 found.0 (grind (arith, common_steps)) (grind (arith, common_steps)) found.1 in
    grind (arith, common_steps, spelled)

pub returns-clause-only : goal.returns-clause-only
returns-clause-only c n h e = let s = shaped n _ h e in let only = c.value_of.ensures.only s.digits in grind (arith, common_steps, only, s.value)
