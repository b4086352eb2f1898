-- What a read finds, and what a write leaves: RAM, inputs, switches and ROM.
use Rattle.std.proofs.Common.{◌≡◌, ℕ, zero, suc, ◌+◌, ◌-◌, ◌*◌, ◌/◌, ◌%◌, ◌^◌, ◌<◌, ◌≤◌, Bool, true, false, refl, ap, ◌∙◌}
use Rattle.std.proofs.Common.{arith, inl, inr, le-leb, lit<}
use Rattle.std.specs.Prelude.{nat_eq, bit_xor, ◌||◌, ◌⊎◌, if◌then◌else◌}
use Rattle.std.proofs.lemmas.Bool.{cases_lt, lt-leb, ne_eqb, eq-eqb}
use Rattle.std.proofs.lemmas.Nat.{mod_below}
use Rattle.dvg_cells_core.specs.Cells.{bit, either, eq, mux, part, joined}
use Rattle.dvg_game_circuit.specs.Around.{banked, byte_of, code_at, input_at, on_board}
use Rattle.dvg_game_circuit.proofs.Projection.{byte_of_input, setting_at}
use Rattle.dvg_game_circuit.proofs.Projection as cells
use Rattle.dvg_game_circuit.proofs.Bits.{either_bit}
use Rattle.dvg_game_circuit.proofs.OwnMemoryReads.{code_place}
use Rattle.dvg_game_circuit.proofs.WorkRam.{place}

-- the place of the RAM
xor_is : (n m : ℕ) → n < 2 → m < 2 → bit_xor n m ≡ (if nat_eq m 0 then n else 1 - n)
xor_is zero zero p q = refl
xor_is zero (suc zero) p q = refl
xor_is (suc zero) zero p q = refl
xor_is (suc zero) (suc zero) p q = refl
xor_is (suc (suc n)) m p q = absurd (omega arith)
xor_is n (suc (suc m)) p q = absurd (omega arith)

pub place_is : (a bank : ℕ) → a < 0x400 → bank < 2 → place a bank ≡ banked bank a
place_is a zero less few =
    let all = xor_is (part 8 1 a) 0 (mod_below (a / 256) 2 (lit< tt)) (lit< tt) in by (nat_eq (part 9 1 a) 0) all
  where
    by : (t : Bool) → bit_xor (part 8 1 a) 0 ≡ part 8 1 a
        → joined 8 (part 0 8 a) (joined 1 (bit_xor (part 8 1 a) (if t then 0 else 0)) (part 9 1 a)) ≡ a
    by true same = rw same (omega arith)
    by false same = rw same (omega arith)
place_is a (suc zero) less few = by (cases_lt a 0x200) (cases_lt a 0x300)
  where
    by : (a < 0x200) ⊎ (0x200 ≤ a) → (a < 0x300) ⊎ (0x300 ≤ a) → place a 1 ≡ banked 1 a
    by (inl low) any =
        let page : part 9 1 a ≡ 0 = omega arith in
        let same = xor_is (part 8 1 a) 0 (mod_below (a / 256) 2 (lit< tt)) (lit< tt) in
        rw page (rw same (rw (lt-leb 0x200 a low) (omega arith)))
    by (inr high) (inl third) =
        let page : part 9 1 a ≡ 1 = omega arith in
        let bit8 : part 8 1 a ≡ 0 = omega arith in
        rw page (rw bit8 (rw (le-leb 0x200 a high) (rw (le-leb (suc a) 0x300 third) (omega arith))))
    by (inr high) (inr fourth) =
        let page : part 9 1 a ≡ 1 = omega arith in
        let bit8 : part 8 1 a ≡ 1 = omega arith in
        rw page (rw bit8 (rw (le-leb 0x200 a high) (rw (lt-leb (suc a) 0x300 (omega arith)) (omega arith))))
place_is a (suc (suc n)) less few = absurd (omega arith)

-- that of the ROM
pub code_is : (a : ℕ) → a < 65536 → code_place a ≡ code_at a
code_is a small = by (part 14 1 a) (part 13 1 a) (mod_below (a / 16384) 2 (lit< tt)) (mod_below (a / 8192) 2 (lit< tt)) refl refl
  where
    by : (x y : ℕ) → x < 2 → y < 2 → part 14 1 a ≡ x → part 13 1 a ≡ y → code_place a ≡ code_at a
    by zero zero p q e f = rw e (rw (ne_eqb (a / 0x2000 % 4) 3 (λ is. absurd (omega arith))) (omega arith))
    by zero (suc zero) p q e f = rw e (rw (ne_eqb (a / 0x2000 % 4) 3 (λ is. absurd (omega arith))) (omega arith))
    by (suc zero) zero p q e f = rw e (rw f (rw (ne_eqb (a / 0x2000 % 4) 3 (λ is. absurd (omega arith))) (omega arith)))
    by (suc zero) (suc zero) p q e f = rw e (rw f (rw (eq-eqb (a / 0x2000 % 4) 3 (omega arith)) (omega arith)))
    by (suc (suc n)) y p q e f = absurd (omega arith)
    by x (suc (suc n)) p q e f = absurd (omega arith)

-- the board's places
pub board_is : (a : ℕ) → a < 65536
    → either (either (eq (part 11 5 a) 8) (eq a 8194)) (eq a 12288) ≡ bit (on_board a)
board_is a small =
    ap (λ n. either n (eq a 12288)) (either_bit (nat_eq (part 11 5 a) 8) (nat_eq a 8194))
    ∙ either_bit (nat_eq (part 11 5 a) 8 || nat_eq a 8194) (nat_eq a 12288)
    ∙ ap bit (regroup (nat_eq (part 11 5 a) 8) (nat_eq a 8194) (nat_eq a 12288)
    ∙ ap (λ n. nat_eq n 8 || (nat_eq a 0x2002 || nat_eq a 0x3000)) (let same : part 11 5 a ≡ a / 0x800 = omega arith in same))
  where
    regroup : (t u v : Bool) → ((t || u) || v) ≡ (t || (u || v))
    regroup true u v = refl
    regroup false u v = refl

-- which input it is, by the four bits that say so
abbrev closed_of : (held beat n : ℕ) → ℕ
closed_of held beat n = if nat_eq n 1 then beat / 256 % 2 else if nat_eq n 2 then 0 else held / 2 ^ n % 2

four_bits : (x u v w held beat : ℕ) → x < 2 → u < 2 → v < 2 → w < 2
    → let eight = mux x (part 8 8 held) (joined 1 (part 0 1 held) (joined 1 (part 8 1 beat) (joined 1 0 (part 3 5 held)))) in
    let four = mux u (part 4 4 eight) (part 0 4 eight) in
    let two = mux v (part 2 2 four) (part 0 2 four) in
    mux w (part 1 1 two) (part 0 1 two) ≡ closed_of held beat (w + 2 * (v + 2 * (u + 2 * x)))
four_bits zero zero zero zero held beat p q r s = omega arith
four_bits zero zero zero (suc zero) held beat p q r s = omega arith
four_bits zero zero (suc zero) zero held beat p q r s = omega arith
four_bits zero zero (suc zero) (suc zero) held beat p q r s = omega arith
four_bits zero (suc zero) zero zero held beat p q r s = omega arith
four_bits zero (suc zero) zero (suc zero) held beat p q r s = omega arith
four_bits zero (suc zero) (suc zero) zero held beat p q r s = omega arith
four_bits zero (suc zero) (suc zero) (suc zero) held beat p q r s = omega arith
four_bits (suc zero) zero zero zero held beat p q r s = omega arith
four_bits (suc zero) zero zero (suc zero) held beat p q r s = omega arith
four_bits (suc zero) zero (suc zero) zero held beat p q r s = omega arith
four_bits (suc zero) zero (suc zero) (suc zero) held beat p q r s = omega arith
four_bits (suc zero) (suc zero) zero zero held beat p q r s = omega arith
four_bits (suc zero) (suc zero) zero (suc zero) held beat p q r s = omega arith
four_bits (suc zero) (suc zero) (suc zero) zero held beat p q r s = omega arith
four_bits (suc zero) (suc zero) (suc zero) (suc zero) held beat p q r s = omega arith
four_bits (suc (suc n)) u v w held beat p q r s = absurd (omega arith)
four_bits x (suc (suc n)) v w held beat p q r s = absurd (omega arith)
four_bits x u (suc (suc n)) w held beat p q r s = absurd (omega arith)
four_bits x u v (suc (suc n)) held beat p q r s = absurd (omega arith)

pub input_is : (a held beat : ℕ) → cells.input_at a held beat ≡ closed_of held beat (input_at a)
input_is a held beat =
    four_bits (part 10 1 a) (part 2 1 a) (part 1 1 a) (part 0 1 a) held beat (mod_below (a / 1024) 2 (lit< tt))
    (mod_below (a / 4) 2 (lit< tt)) (mod_below (a / 2) 2 (lit< tt)) (mod_below (a / 1) 2 (lit< tt))
    ∙ ap (closed_of held beat)
    (let same : part 0 1 a + 2 * (part 1 1 a + 2 * (part 2 1 a + 2 * part 10 1 a)) ≡ input_at a = omega arith in same)

-- a bit is a test, and its byte
pub byte_is : (t : Bool) → byte_of_input (bit t) ≡ byte_of t
byte_is true = refl
byte_is false = refl

-- the switches
two_bits : (v w switches : ℕ) → v < 2 → w < 2
    → let pairs = mux v (part 4 4 switches) (part 0 4 switches) in
    mux w (part 2 2 pairs) (part 0 2 pairs) ≡ switches / 4 ^ (w + 2 * v) % 4
two_bits zero zero switches p q = omega arith
two_bits zero (suc zero) switches p q = omega arith
two_bits (suc zero) zero switches p q = omega arith
two_bits (suc zero) (suc zero) switches p q = omega arith
two_bits (suc (suc n)) w switches p q = absurd (omega arith)
two_bits v (suc (suc n)) switches p q = absurd (omega arith)

pub setting_is : (a switches : ℕ) → joined 2 (setting_at a switches) 63 ≡ 252 + switches / 4 ^ (a % 4) % 4
setting_is a switches =
    let its = two_bits (part 1 1 a) (part 0 1 a) switches (mod_below (a / 2) 2 (lit< tt)) (mod_below (a / 1) 2 (lit< tt))
    ∙ ap (λ n. switches / 4 ^ n % 4) (let same : part 0 1 a + 2 * part 1 1 a ≡ a % 4 = omega arith in same) in
    ap (λ n. joined 2 n 63) its ∙ (let swap : switches / 4 ^ (a % 4) % 4 + 4 * 63 ≡ 252 + switches / 4 ^ (a % 4) % 4 = omega arith in swap)
