-- The names of the examples.
use Rattle.std.proofs.Common.{◌≡◌, ℕ, List, [], length, refl, sym, true≢false, arith, codes}
use Rattle.dvg_read.specs.Texts.{IsHex}
use Rattle.dvg_rows.specs.Rows.{IsName}

-- what doesn't have three bytes is no address
other_size : (size : ℕ) (name : List ℕ) → length name ≡ size → (3 ≡ size → ⊥) → (a : ℕ) → ¬ IsHex 3 a name
other_size size name is other a h = let three = h.size in other (cc)

pub rock : IsName (codes "rock")
rock = record {
  first = refl;
  bytes = refl;
  most = omega arith;
  no_address = other_size 4 (codes "rock") refl (λ e. omega (arith, e));
}

pub rock_2 : IsName (codes "rock_2")
rock_2 = record {
  first = refl;
  bytes = refl;
  most = omega arith;
  no_address = other_size 6 (codes "rock_2") refl (λ e. omega (arith, e));
}

pub halt : IsName (codes "halt")
halt = record {
  first = refl;
  bytes = refl;
  most = omega arith;
  no_address = other_size 4 (codes "halt") refl (λ e. omega (arith, e));
}

pub title : IsName (codes "title")
title = record {
  first = refl;
  bytes = refl;
  most = omega arith;
  no_address = other_size 5 (codes "title") refl (λ e. omega (arith, e));
}

-- three hexadecimal digits are an address
pub address : IsHex 3 0x8A0 (codes "8a0")
address = record { size = refl; digits = (omega arith, (omega arith, (omega arith, tt))); value = refl }

pub bad : ¬ IsName (codes "bad")
bad h = h.no_address 0xBAD (record {
  size = refl;
  digits = (omega arith, (omega arith, (omega arith, tt)));
  value = refl;
})

pub begins_with_digit : ¬ IsName (codes "2rocks")
begins_with_digit h = true≢false (sym h.first)

pub empty : ¬ IsName []
empty h = h.first

pub too_long : ¬ IsName (codes "a23456789_123456789_123456789_123")
too_long h = let most = h.most in omega (arith, most)

pub a : IsName (codes "a")
a = record {
  first = refl;
  bytes = refl;
  most = omega arith;
  no_address = other_size 1 (codes "a") refl (λ e. omega (arith, e));
}

pub ship : IsName (codes "ship")
ship = record {
  first = refl;
  bytes = refl;
  most = omega arith;
  no_address = other_size 4 (codes "ship") refl (λ e. omega (arith, e));
}
