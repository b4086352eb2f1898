-- What a program brings is known of its bytes.
use Rattle.std.specs.Prelude.{◌≡◌, ℕ, ◌+◌, ◌≤◌, ◌<◌, true, Bool, List, [], ◌∷◌, length}
use Rattle.dvg_frame.specs.declared.op.OpKind.{OpKind}
use Rattle.dvg_frame.specs.Faults.{Accepts}
use Rattle.dvg_frame.specs.Ops.{IsDraft, IsOp}
use Rattle.dvg_calls_6502.specs.Build.{IsPut}
use Rattle.dvg_calls_6502.specs.Tables.{HasTable, table_of}
use Rattle.dvg_game_rules.specs.Checker.{Notes, accepts}
use Rattle.dvg_game_6502.specs.Games.{Content}
use Rattle.dvg_game_content.specs.Frames.{passes}
use Rattle.dvg_game_content.specs.Brings.{Ways, brings, brings_by}

-- what passes is accepted by the check
abbrev pub PassesAccepts : Type 0
PassesAccepts = (F : List OpKind) (R : List ℕ) → passes F R ≡ true → Accepts F R

-- two tests of the bytes, and no other premise, say what a game offers and puts
abbrev pub ContentByBytes : Type 0
ContentByBytes = (R : List ℕ) (rom : ℕ → ℕ) (start : ℕ) (notes : Notes) (ways : Ways) (drafts : ℕ → List OpKind)
    → accepts rom start notes ≡ true → brings R rom start notes ways drafts ≡ true → Content R rom start

-- at this address of the ROM is the table of a draft that the check accepts
pub record IsTableAt (R : List ℕ) (rom : ℕ → ℕ) (t : ℕ) : Type 0 where
  pub draft : List OpKind
  pub table : HasTable rom t draft
  pub low : 0x4800 ≤ t
  pub ends : t + 2 + length (table_of draft) ≤ 0x8000
  pub checked : IsDraft draft × Accepts draft R

-- these two bytes are the word of an operation that may be put
pub record IsWordOf (R : List ℕ) (a x : ℕ) : Type 0 where
  pub op : OpKind
  pub word : a ∷ x ∷ [] ≡ table_of (op ∷ [])
  pub put : IsPut R op
  pub is_op : IsOp op

-- the same by any tests, whose yes means this
abbrev pub ContentByTests : Type 0
ContentByTests = (R : List ℕ) (rom : ℕ → ℕ) (start : ℕ) (notes : Notes) (ways : Ways) (offers : ℕ → Bool)
    (puts : ℕ → ℕ → Bool) → accepts rom start notes ≡ true → brings_by offers puts rom start notes ways ≡ true
    → ((t : ℕ) → offers t ≡ true → IsTableAt R rom t) → ((a x : ℕ) → a < 256 → puts a x ≡ true → IsWordOf R a x)
    → Content R rom start
