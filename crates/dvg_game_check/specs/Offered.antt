-- What the check of tables and words says.
use Rattle.std.specs.Prelude.{◌≡◌, ◌⊎◌, ℕ, ◌+◌, ◌*◌, ◌%◌, ◌/◌, ◌<◌, ◌≤◌, true, List, length, slice_index, All}
use Rattle.dvg_frame.specs.declared.op.OpKind.{OpKind}
use Rattle.dvg_frame.specs.Faults.{Accepts}
use Rattle.dvg_frame.specs.Ops.{IsDraft}
use Rattle.dvg_game_words.specs.Tables.{NamesRom, calls_one, is_short, shape_of, table_of}
use Rattle.dvg_game_words.specs.Machine.{word_at}
use Rattle.dvg_game_check.specs.Brought.{has}
use Rattle.dvg_game_check.specs.Rules.{HasBytes}

-- not to be looked into
unfoldable pub IsAccepted : List OpKind → List ℕ → Type 0
IsAccepted F R = Accepts F R

-- the word of these two bytes is a short vector, or a call of a shape that the check accepts
abbrev pub IsFineWord : (R : List ℕ) (a x : ℕ) → Type 0
IsFineWord R a x = (is_short a x ≡ true) ⊎ ((0xC0 ≤ x) × (x < 0xD0) × IsAccepted (calls_one (shape_of a x)) R)

-- each of these words is one
abbrev pub WordsFine : (R words : List ℕ) → Type 0
WordsFine R words = (n : ℕ) → has words n ≡ true → IsFineWord R (n % 256) (n / 256)

-- the bytes of a draft's table are there
abbrev pub AreThere : (F : List OpKind) (bytes : List ℕ) (at : ℕ) → Type 0
AreThere F bytes at = (rom : ℕ → ℕ) → HasBytes bytes rom → (k : ℕ) → k < length (table_of F)
    → rom (at + k) ≡ slice_index (table_of F) k

-- a draft that the check accepts, whose table of so many words is at an address
pub record IsLaid (F : List OpKind) (R bytes : List ℕ) (t count : ℕ) : Type 0 where
  pub accepted : IsAccepted F R
  pub draft : IsDraft F
  pub names : All NamesRom F
  pub long : length (table_of F) ≡ 2 * count
  pub there : AreThere F bytes (t + 2)

-- at an address of the program's bytes is the table of such a draft
pub record IsFineTable (R bytes : List ℕ) (t : ℕ) : Type 0 where
  pub draft : List OpKind
  pub count : ℕ
  pub laid : IsLaid draft R bytes t count
  pub head : (rom : ℕ → ℕ) → HasBytes bytes rom → count ≡ word_at rom t
  pub some : 1 ≤ count
  pub most : count ≤ 511
  pub low : 0x6800 ≤ t
  pub ends : t + 2 + 2 * count ≤ 0x8000

-- at each of these is one
abbrev pub TablesFine : (R bytes tables : List ℕ) → Type 0
TablesFine R bytes tables = (n : ℕ) → has tables n ≡ true → IsFineTable R bytes n
