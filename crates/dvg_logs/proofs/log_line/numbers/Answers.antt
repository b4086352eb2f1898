use Rattle.dvg_logs.proofs.LogRows.{back_hex, front_hex, same_numbers}
use Rattle.dvg_logs.proofs.log_line.numbers.Goals as goal

pub returns-in_err-address-clause-only : goal.returns-in_err-address-clause-only
returns-in_err-address-clause-only c a n numbers = let answered = c.in_err-address.ensures.only a (front_hex numbers) in absurd (cc)

pub returns-in_err-number-clause-only : goal.returns-in_err-number-clause-only
returns-in_err-number-clause-only c a n numbers = let answered = c.in_err-number.ensures.only n (back_hex numbers) in absurd (cc)

pub returns-clause-only : goal.returns-clause-only
returns-clause-only c a n numbers =
    same_numbers c.in_ok-address.address c.in_ok-number.number a n (c.in_ok-address.ensures.only a (front_hex numbers)) (c.in_ok-number.ensures.only n (back_hex numbers))
