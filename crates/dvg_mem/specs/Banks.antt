-- The RAM in four parts.
use Rattle.std.specs.Prelude.{◌≡◌, ℕ, ◌*◌, ◌<◌, List, All, length, ◌++◌, take, drop}
use Rattle.dvg_mem.specs.declared.half.Half.{Half}
use Rattle.dvg_mem.specs.Areas.{base}

-- the 1,022 bytes of a half of the RAM, from its first word's low byte on
abbrev pub half_bytes : Half → List ℕ → List ℕ
half_bytes half ram = take 1022 (drop (2 * base half) ram)

-- the bytes of word zero, of half 0, of word 200 and of half 1
pub record AreBanks (zero half_0 unused half_1 : List ℕ) : Type 0 where
  pub of_zero : length zero ≡ 2
  pub of_half_0 : length half_0 ≡ 1022
  pub of_unused : length unused ≡ 2
  pub of_half_1 : length half_1 ≡ 1022
  pub bytes : All (λ byte. byte < 256) (zero ++ (half_0 ++ (unused ++ half_1)))
