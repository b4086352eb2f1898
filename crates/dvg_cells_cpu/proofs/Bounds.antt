-- What each kind of cell gives fits, where what it takes does.
use Rattle.std.proofs.Common.{ℕ, ◌+◌, ◌^◌, ◌%◌, ◌<◌, ◌≤◌, Bool, true, false, arith}
use Rattle.std.specs.Prelude.{nat_eq, bit_and, bit_or, bit_xor, if◌then◌else◌}
use Rattle.std.proofs.lemmas.Nat.{and_le_l, or_of_8, xor_of_8, mod_below, pow-add}
use Rattle.std.proofs.Math.Nat.{mul-le-mul_left}
use Rattle.dvg_cells_core.specs.Cells.{bit, both, either, mux, none, joined}

pub mod_in : (a n : ℕ) → 0 < n → a % n < n
mod_in a n some = mod_below a n some

pub wider : (a m n : ℕ) → a < m → m ≤ n → a < n
wider a m n less most = omega arith

pub mux_in : (s a b n : ℕ) → a < n → b < n → mux s a b < n
mux_in s a b n p q = by (nat_eq s 0)
  where
    by : (t : Bool) → (if t then b else a) < n
    by true = q
    by false = p

pub bit_in : (t : Bool) → bit t < 2
bit_in true = omega arith
bit_in false = omega arith

pub none_in : (a : ℕ) → none a < 2
none_in a = by (nat_eq a 0)
  where
    by : (t : Bool) → (if t then 1 else 0) < 2
    by true = omega arith
    by false = omega arith

pub both_in : (a b : ℕ) → both a b < 2
both_in a b = by (nat_eq a 0) (nat_eq b 0)
  where
    by : (t u : Bool) → (if t then 0 else (if u then 0 else 1)) < 2
    by true u = omega arith
    by false true = omega arith
    by false false = omega arith

pub either_in : (a b : ℕ) → either a b < 2
either_in a b = by (nat_eq a 0) (nat_eq b 0)
  where
    by : (t u : Bool) → (if t then (if u then 0 else 1) else 1) < 2
    by true true = omega arith
    by true false = omega arith
    by false u = omega arith

pub and_in : (a b n : ℕ) → a < n → bit_and a b < n
and_in a b n less = let most = and_le_l a b in omega arith

pub or_in : (a b : ℕ) → a < 256 → b < 256 → bit_or a b < 256
or_in a b p q = or_of_8 a b p q

pub xor_in : (a b : ℕ) → a < 256 → b < 256 → bit_xor a b < 256
xor_in a b p q = xor_of_8 a b p q

pub joined_in : (w m low high : ℕ) → low < 2 ^ w → high < 2 ^ m → joined w low high < 2 ^ (w + m)
joined_in w m low high l h = let most = mul-le-mul_left (2 ^ w) h in let e = pow-add 2 w m in omega (arith, most, e)
