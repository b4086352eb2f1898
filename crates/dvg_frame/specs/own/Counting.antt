-- What drafts and frames keep beside operations.
use Rattle.std.specs.Prelude.{◌≡◌, ℕ, ◌+◌, List, [], ◌∷◌}
use Rattle.dvg_frame.specs.declared.op.OpKind.{OpKind}
use Rattle.dvg_frame.specs.Layout.{op_words}
use Rattle.dvg_frame.specs.Ops.{IsDraft}

-- how many words stand before each operation, if this many stand before the first, and then how many there are in all
abbrev pub counts_from : ℕ → List OpKind → List ℕ
counts_from n [] = n ∷ []
counts_from n (op ∷ ops) = n ∷ counts_from (n + op_words op) ops

-- a draft, and how many words stand before each operation and in all
pub record IsCounted (F : List OpKind) (words_before : List ℕ) : Type 0 where
  pub draft : IsDraft F
  pub counts : words_before ≡ counts_from 0 F
