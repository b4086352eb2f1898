-- How a ROM grows.
use Rattle.std.specs.Prelude.{◌≡◌, ℕ, ◌*◌, ◌<◌, ◌++◌, List, All, length}
use Rattle.dvg_code.specs.Words.{word_in}

-- the bytes of this many returns, each D000
pub record AreReturns (content : List ℕ) (n : ℕ) : Type 0 where
  pub count : length content ≡ 2 * n
  pub bytes : All (λ byte. byte < 256) content
  pub words : (k : ℕ) → k < n → word_in content k ≡ 0xD000

-- 1,024 returns, and then an old ROM's bytes
pub record ArePushedBack (old new : List ℕ) : Type 0 where
  pub front : List ℕ
  pub returns : AreReturns front 1024
  pub whole : new ≡ front ++ old
