use Rattle.std.proofs.Common.{◌≡◌, ◌<◌, ◌∙◌, ℕ, Option, Some, ap, arith}
use Rattle.std.specs.Prelude.{unwrap_or}
use Rattle.dvg_read.proofs.EventRows.{byte_fits}
use Rattle.dvg_logs.proofs.LogRows.{based, unbased}
use Rattle.dvg_logs.proofs.log_line.written.Goals as goal

pub returns-in_err-address-in-Some-clause-only : goal.returns-in_err-address-in-Some-clause-only
returns-in_err-address-in-Some-clause-only c a n w = let answered = c.in_err-address-in-Some.ensures.only a n (based c.in-Some.is w) in absurd (cc)

pub returns-in_err-address-in-None-clause-only : goal.returns-in_err-address-in-None-clause-only
returns-in_err-address-in-None-clause-only c a n w = let answered = c.in_err-address-in-None.ensures.only a n (unbased c.in-None.is w) in absurd (cc)

pub in_ram-requires : goal.in_ram-requires
in_ram-requires c = let small : c.in_ok-address-in-Some.byte < 256 = byte_fits c.in_ok-address-in-Some.ensures.found.number in small

pub in_ram-requires-in-None : goal.in_ram-requires-in-None
in_ram-requires-in-None c = let small : c.in_ok-address-in-None.byte < 256 = byte_fits c.in_ok-address-in-None.ensures.found.number in small

-- an address of the RAM is answered
answers : (x y a n : ℕ) (result : Option (ℕ × ℕ)) → ◌≡◌ {A = Option (ℕ × ℕ)} (Some (x, y)) (Some (a, n)) → a < 0x800 → (x < 0x800 → result ≡ Some (x, y)) → result ≡ Some (a, n)
answers x y a n result e ram is =
    let same : x ≡ a = ap (λ (o : Option (ℕ × ℕ)). (unwrap_or o (x, y)).0) e in
    is (omega (arith, same, ram)) ∙ e

pub returns-in_ok-address-in-Some-clause-only : goal.returns-in_ok-address-in-Some-clause-only
returns-in_ok-address-in-Some-clause-only c a n w =
    answers c.in_ok-address-in-Some.address c.in_ok-address-in-Some.byte a n c.in_ram.result (c.in_ok-address-in-Some.ensures.only a n (based c.in-Some.is w)) w.ram c.in_ram.ensures.only

pub returns-in_ok-address-in-None-clause-only : goal.returns-in_ok-address-in-None-clause-only
returns-in_ok-address-in-None-clause-only c a n w =
    answers c.in_ok-address-in-None.address c.in_ok-address-in-None.byte a n c.in_ram-in-None.result (c.in_ok-address-in-None.ensures.only a n (unbased c.in-None.is w)) w.ram c.in_ram-in-None.ensures.only
