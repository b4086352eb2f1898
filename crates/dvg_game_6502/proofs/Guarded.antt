-- What is guarded amid a call of the driver is spared by an NMI.
use Rattle.std.proofs.Common.{◌≡◌, ℕ, ◌+◌, ◌<◌, ◌≤◌, ◌⊎◌, inl, inr, suc, Bool, true, false, refl, sym}
use Rattle.std.proofs.Common.{ap, ◌∙◌, arith, eqb-true, eq-eqb, leb-true}
use Rattle.std.specs.Prelude.{◌&&◌, ◌||◌, not, nat_eq, nat_le, nat_lt}
use Rattle.dvg_calls_6502.specs.Processor.{stack_place}
use Rattle.dvg_calls_6502.specs.Amid.{is_code, is_kept, is_work}
use Rattle.dvg_calls_6502.specs.Board.{is_own, is_ram, is_readable}
use Rattle.dvg_game_rules.specs.Checker.{is_free, is_output}
use Rattle.dvg_game_rules.proofs.Facts.{both_true}
use Rattle.dvg_game_rules.proofs.Memory.{between, either, output_place}
use Rattle.dvg_game_6502.specs.Interrupt.{GuardIsSpared, IsSpared}

abbrev pub Free : ℕ → Type 0
Free b = (b < 0x10) ⊎ (((0x21 ≤ b) × (b < 0x100)) ⊎ (((0x200 ≤ b) × (b < 0x400)) ⊎ ((0x3200 ≤ b) × (b < 0x4000))))

pub free : (b : ℕ) → is_free b ≡ true → Free b
free b is = one (either (nat_lt b 0x10) _ is)
  where
    three : (((nat_le 0x200 b && nat_lt b 0x400) ≡ true) ⊎ (is_output b ≡ true)) → Free b
    three (inl ram) = inr (inr (inl (between 0x200 0x400 b ram)))
    three (inr out) = inr (inr (inr (output_place b out)))

    next : (((nat_le 0x21 b && nat_lt b 0x100) ≡ true) ⊎ (((nat_le 0x200 b && nat_lt b 0x400) || is_output b) ≡ true))
        → Free b
    next (inl page) = inr (inl (between 0x21 0x100 b page))
    next (inr more) = three (either (nat_le 0x200 b && nat_lt b 0x400) _ more)

    one : ((nat_lt b 0x10 ≡ true) ⊎ (((nat_le 0x21 b && nat_lt b 0x100)
        || ((nat_le 0x200 b && nat_lt b 0x400) || is_output b)) ≡ true)) → Free b
    one (inl less) = inl (leb-true (suc b) 0x10 less)
    one (inr more) = next (either (nat_le 0x21 b && nat_lt b 0x100) _ more)

-- where a call of the driver wants a byte kept
abbrev Kept : ℕ → Type 0
Kept b = ((0x10 ≤ b) × (b < 0x21)) ⊎ ((b ≡ 0x2002) ⊎ (0x4000 ≤ b))

pub bound : (b : ℕ) → (Free b → ⊥) → is_free b ≡ false
bound b never_free = by (is_free b) refl
  where
    by : (t : Bool) → is_free b ≡ t → t ≡ false
    by true is = absurd (never_free (free b is))
    by false is = refl

never : (b : ℕ) → Kept b → Free b → ⊥
never b (inl page) (inl less) = let low = page.0 in omega (arith, low, less)
never b (inl page) (inr (inl two)) = let high = page.1 in let low = two.0 in omega (arith, high, low)
never b (inl page) (inr (inr (inl two))) = let high = page.1 in let low = two.0 in omega (arith, high, low)
never b (inl page) (inr (inr (inr two))) = let high = page.1 in let low = two.0 in omega (arith, high, low)
never b (inr (inl flag)) (inl less) = omega (arith, flag, less)
never b (inr (inl flag)) (inr (inl two)) = let high = two.1 in omega (arith, flag, high)
never b (inr (inl flag)) (inr (inr (inl two))) = let high = two.1 in omega (arith, flag, high)
never b (inr (inl flag)) (inr (inr (inr two))) = let low = two.0 in omega (arith, flag, low)
never b (inr (inr far)) (inl less) = omega (arith, far, less)
never b (inr (inr far)) (inr (inl two)) = let high = two.1 in omega (arith, far, high)
never b (inr (inr far)) (inr (inr (inl two))) = let high = two.1 in omega (arith, far, high)
never b (inr (inr far)) (inr (inr (inr two))) = let high = two.1 in omega (arith, far, high)

above : (s b : ℕ) → s ≤ 255 → Kept b → (b < 0x100) ⊎ (0x100 + s < b)
above s b low (inl page) = let high = page.1 in inl (omega (arith, high))
above s b low (inr (inl flag)) = inr (omega (arith, low, flag))
above s b low (inr (inr far)) = inr (omega (arith, low, far))

kept : (tables : ℕ → Bool) → ((b : ℕ) → tables b ≡ true → 0x4800 ≤ b) → (b : ℕ) → is_kept tables b ≡ true → Kept b
kept tables rom b is = one (either (is_own b) _ is)
  where
    five : ((is_ram b ≡ true) ⊎ (nat_eq b 0x2002 ≡ true)) → Kept b
    five (inl ram) = inr (inr (between 0x4000 0x4800 b ram).0)
    five (inr flag) = inr (inl (eqb-true b 0x2002 flag))

    four : ((is_readable b ≡ true) ⊎ (tables b ≡ true)) → Kept b
    four (inl readable) = five (either (is_ram b) _ readable)
    four (inr table) = let high = rom b table in inr (inr (omega (arith, high)))

    three : ((is_code b ≡ true) ⊎ ((is_readable b || tables b) ≡ true)) → Kept b
    three (inl code) = let low = (between 0x6800 0x6A87 b code).0 in inr (inr (omega (arith, low)))
    three (inr more) = four (either (is_readable b) _ more)

    two : ((is_work b ≡ true) ⊎ ((is_code b || (is_readable b || tables b)) ≡ true)) → Kept b
    two (inl work) = let page = between 0x1B 0x21 b work in let low = page.0 in inl (omega (arith, low), page.1)
    two (inr more) = three (either (is_code b) _ more)

    one : ((is_own b ≡ true) ⊎ ((is_work b || (is_code b || (is_readable b || tables b))) ≡ true)) → Kept b
    one (inl own) = let page = between 0x10 0x1B b own in let high = page.1 in inl (page.0, omega (arith, high))
    one (inr more) = two (either (is_work b) _ more)

-- a byte of the stack above it is
pub stack_spared : (now b k : ℕ) → now < k → k ≤ 255 → b ≡ 0x100 + k → IsSpared now b
stack_spared now b k more few same = record { bound = bound b apart; above = inr (omega (arith, more, few, same)) }
  where
    apart : Free b → ⊥
    apart (inl less) = omega (arith, less, same)
    apart (inr (inl two)) = let up = two.1 in omega (arith, up, same)
    apart (inr (inr (inl two))) = let low = two.0 in omega (arith, low, same, few)
    apart (inr (inr (inr two))) = let low = two.0 in omega (arith, low, same, few)

-- and so is what is kept
pub kept_spared : (now b : ℕ) → now ≤ 255 → Kept b → IsSpared now b
kept_spared now b small k = record { bound = bound b (never b k); above = above now b small k }

pub guard_is_spared : GuardIsSpared
guard_is_spared tables rom s now most level b is = one (either (is_kept tables b) _ is)
  where
    small : now ≤ 255
    small = by level
      where
        by : (now ≡ s) ⊎ (now + 2 ≡ s) → now ≤ 255
        by (inl same) = omega (arith, same, most)
        by (inr less) = omega (arith, less, most)

    high : not (nat_eq now s) ≡ true → now + 2 ≤ 255
    high apart = by level
      where
        by : (now ≡ s) ⊎ (now + 2 ≡ s) → now + 2 ≤ 255
        by (inl same) = absurd (let e = ap not (eq-eqb now s same) in let f = sym e ∙ apart in cc)
        by (inr less) = omega (arith, less, most)

    two : now + 2 ≤ 255 → ((nat_eq b (stack_place (now + 1)) ≡ true) ⊎ (nat_eq b (stack_place (now + 2)) ≡ true))
        → IsSpared now b
    two high (inl first) = let at = eqb-true b (stack_place (now + 1)) first in
        stack_spared now b (now + 1) (omega arith) (omega (arith, high)) (omega (arith, at, high))
    two high (inr second) = let at = eqb-true b (stack_place (now + 2)) second in
        stack_spared now b (now + 2) (omega arith) (omega (arith, high)) (omega (arith, at, high))

    one : ((is_kept tables b ≡ true) ⊎ ((not (nat_eq now s)
        && (nat_eq b (stack_place (now + 1)) || nat_eq b (stack_place (now + 2)))) ≡ true)) → IsSpared now b
    one (inl is) = kept_spared now b small (kept tables rom b is)
    one (inr more) = let parts = both_true (not (nat_eq now s)) _ more in
        two (high parts.0) (either (nat_eq b (stack_place (now + 1))) _ parts.1)
