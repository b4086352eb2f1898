use Rattle.std.proofs.Common.{◌≡◌, ◌+◌, ℕ, Option, Some, ap, subst}
use Rattle.std.specs.Prelude.{unwrap_or}
use Rattle.dvg_logs.specs.LogLineTells.{AreNumbers}
use Rattle.dvg_logs.proofs.LogRows.{same_numbers}
use Rattle.dvg_logs.proofs.log_line.based.Goals as goal

pub returns-in_err-address-clause-only : goal.returns-in_err-address-clause-only
returns-in_err-address-clause-only c a n numbers = let answered = c.in_err-address.ensures.only (c.args.base + a) n numbers in absurd (cc)

-- the two numbers of an answer
first_of : (x y p q : ℕ) → ◌≡◌ {A = Option (ℕ × ℕ)} (Some (x, y)) (Some (p, q)) → x ≡ p
first_of x y p q e = ap (λ (o : Option (ℕ × ℕ)). (unwrap_or o (x, y)).0) e

second_of : (x y p q : ℕ) → ◌≡◌ {A = Option (ℕ × ℕ)} (Some (x, y)) (Some (p, q)) → y ≡ q
second_of x y p q e = ap (λ (o : Option (ℕ × ℕ)). (unwrap_or o (x, y)).1) e

pub returns-in_err-within-clause-only : goal.returns-in_err-within-clause-only
returns-in_err-within-clause-only c a n numbers =
    let same = first_of c.in_ok-address.address c.in_ok-address.byte (c.args.base + a) n (c.in_ok-address.ensures.only (c.args.base + a) n numbers) in
    let answered = c.in_err-within.ensures.only a same in absurd (cc)

pub returns-clause-found : goal.returns-clause-found
returns-clause-found c = subst (λ p. AreNumbers 4 2 p c.in_ok-address.byte c.args.bytes.now) c.in_ok-within.ensures.some c.in_ok-address.ensures.found

pub returns-clause-only : goal.returns-clause-only
returns-clause-only c a n numbers =
    let answered = c.in_ok-address.ensures.only (c.args.base + a) n numbers in
    let same = first_of c.in_ok-address.address c.in_ok-address.byte (c.args.base + a) n answered in
    let byte = second_of c.in_ok-address.address c.in_ok-address.byte (c.args.base + a) n answered in
    same_numbers c.in_ok-within.within c.in_ok-address.byte a n (c.in_ok-within.ensures.only a same) (ap (λ k. Some k) byte)
