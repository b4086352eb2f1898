-- What masks leave of a byte, tried for each byte.
use Rattle.std.proofs.Common.{◌≡◌, ℕ, zero, suc, ◌+◌, ◌-◌, ◌*◌, ◌/◌, ◌%◌, ◌<◌, Bool, true, false, refl, subst, sym, arith}
use Rattle.std.proofs.Common.{eqb-true}
use Rattle.std.proofs.lemmas.Bool.{eqb-false}
use Rattle.std.specs.Prelude.{nat_eq, ◌&&◌, bit_and, bit_or, bit_xor}
use Rattle.dvg_calls_6502.specs.Processor.{bit_of}
use Rattle.dvg_calls_6502.proofs.Memory.{both_true}

abbrev all_under : ℕ → (ℕ → Bool) → Bool
all_under zero p = true
all_under (suc n) p = p n && all_under n p

less_than : (i n : ℕ) → i < suc n → nat_eq i n ≡ false → i < n
less_than i n less other = let apart = eqb-false i n other in omega (arith, less, apart)

under : (n : ℕ) (p : ℕ → Bool) → all_under n p ≡ true → (i : ℕ) → i < n → p i ≡ true
under zero p all i less = absurd (omega (arith, less))
under (suc n) p all i less = by (nat_eq i n) refl (λ fewer. under n p two.1 i fewer)
  where
    two : (p n ≡ true) × (all_under n p ≡ true)
    two = both_true (p n) (all_under n p) all

    by : (t : Bool) → nat_eq i n ≡ t → (i < n → p i ≡ true) → p i ≡ true
    by true is older = subst (λ j. p j ≡ true) (sym (eqb-true i n is)) two.0
    by false other older = older (less_than i n less other)

-- the high four bits of one byte with the low four of another one
mixes : ℕ → ℕ → Bool
mixes a x = nat_eq (bit_xor (bit_and (bit_xor a x) 0xF0) x) (16 * (a / 16) + x % 16)

all_mix : all_under 256 (λ a. all_under 256 (mixes a)) ≡ true
unfolding mixes
all_mix = refl

pub mixed : (a x : ℕ) → a < 256 → x < 256 → bit_xor (bit_and (bit_xor a x) 0xF0) x ≡ 16 * (a / 16) + x % 16
unfolding mixes
mixed a x a_small x_small = eqb-true (bit_xor (bit_and (bit_xor a x) 0xF0) x) (16 * (a / 16) + x % 16)
    (under 256 (mixes a) (under 256 (λ a. all_under 256 (mixes a)) all_mix a a_small) x x_small)

-- the opcode A with the low four bits of a byte
opens : ℕ → Bool
opens y = nat_eq (bit_or (bit_and y 0x0F) 0xA0) (0xA0 + y % 16)

pub opened : (y : ℕ) → y < 256 → bit_or (bit_and y 0x0F) 0xA0 ≡ 0xA0 + y % 16
unfolding opens
opened y small = eqb-true (bit_or (bit_and y 0x0F) 0xA0) (0xA0 + y % 16) (under 256 opens refl y small)

-- each bit the other way
turns : ℕ → Bool
turns b = nat_eq (bit_xor b 0xFF) (255 - b)

pub turned : (b : ℕ) → b < 256 → bit_xor b 0xFF ≡ 255 - b
unfolding turns
turned b small = eqb-true (bit_xor b 0xFF) (255 - b) (under 256 turns refl b small)

-- the sign beside two bits
signs : ℕ → Bool
signs b = nat_eq (bit_or b 4) (4 + b)

pub signed : (b : ℕ) → b < 4 → bit_or b 4 ≡ 4 + b
unfolding signs
signed b small = eqb-true (bit_or b 4) (4 + b) (under 4 signs refl b small)

-- a sum of two bytes is zero where both are
either : ℕ → ℕ → Bool
either y x = nat_eq (bit_of (nat_eq (bit_or y x) 0)) (bit_of (nat_eq y 0 && nat_eq x 0))

all_either : all_under 256 (λ y. all_under 256 (either y)) ≡ true
unfolding either
all_either = refl

same_bits : (t u : Bool) → bit_of t ≡ bit_of u → t ≡ u
same_bits true true is = refl
same_bits false false is = refl
same_bits true false is = absurd (cc)
same_bits false true is = absurd (cc)

pub both_zero : (y x : ℕ) → y < 256 → x < 256 → nat_eq (bit_or y x) 0 ≡ (nat_eq y 0 && nat_eq x 0)
unfolding either
both_zero y x y_small x_small = same_bits _ _ (eqb-true (bit_of (nat_eq (bit_or y x) 0)) (bit_of (nat_eq y 0 && nat_eq x 0))
    (under 256 (either y) (under 256 (λ y. all_under 256 (either y)) all_either y y_small) x x_small))

-- the bytes of a vector's words, by the scale and the intensity of a byte, and the sign and the two bits beside them
tops : ℕ → ℕ → Bool
tops b h = nat_eq (bit_or (bit_and b 0xF0) h) (16 * (b / 16) + h)

pub topped : (b h : ℕ) → b < 256 → h < 8 → bit_or (bit_and b 0xF0) h ≡ 16 * (b / 16) + h
unfolding tops
topped b h b_small h_small = eqb-true (bit_or (bit_and b 0xF0) h) (16 * (b / 16) + h)
    (under 8 (tops b) (under 256 (λ b. all_under 8 (tops b)) refl b b_small) h h_small)

lows : ℕ → ℕ → Bool
lows k h = nat_eq (bit_or (16 * k) h) (16 * k + h)

pub lowered : (k h : ℕ) → k < 16 → h < 8 → bit_or (16 * k) h ≡ 16 * k + h
unfolding lows
lowered k h k_small h_small = eqb-true (bit_or (16 * k) h) (16 * k + h)
    (under 8 (lows k) (under 16 (λ k. all_under 8 (lows k)) refl k k_small) h h_small)

eights : ℕ → ℕ → Bool
eights k h = nat_eq (bit_or (16 * k + h) 8) (16 * k + 8 + h)

pub eighted : (k h : ℕ) → k < 16 → h < 8 → bit_or (16 * k + h) 8 ≡ 16 * k + 8 + h
unfolding eights
eighted k h k_small h_small = eqb-true (bit_or (16 * k + h) 8) (16 * k + 8 + h)
    (under 8 (eights k) (under 16 (λ k. all_under 8 (eights k)) refl k k_small) h h_small)

shorts : ℕ → ℕ → Bool
shorts b h = nat_eq (bit_or (bit_or (bit_and b 0x10 / 2) h) 0xF0) (0xF0 + 8 * (b / 16 % 2) + h)

pub shortened : (b h : ℕ) → b < 256 → h < 8
    → bit_or (bit_or (bit_and b 0x10 / 2) h) 0xF0 ≡ 0xF0 + 8 * (b / 16 % 2) + h
unfolding shorts
shortened b h b_small h_small = eqb-true (bit_or (bit_or (bit_and b 0x10 / 2) h) 0xF0) (0xF0 + 8 * (b / 16 % 2) + h)
    (under 8 (shorts b) (under 256 (λ b. all_under 8 (shorts b)) refl b b_small) h h_small)
