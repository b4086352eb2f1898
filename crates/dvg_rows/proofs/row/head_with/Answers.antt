use Rattle.std.proofs.Common.{[], ◌∷◌, Some, codes, arith, rules}
use Rattle.std.specs.Prelude.{IfSome, IsSomeAnd, ◌≡◌}
use Rattle.dvg_read.proofs.OpRows.{named}
use Rattle.dvg_rows.specs.Rows.{Head, HeadParts, at, rom}
use Rattle.dvg_rows.specs.RowValues.{head_of}
use Rattle.dvg_rows.proofs.RowSpelling.{frame_found, frame_only}
use Rattle.dvg_rows.proofs.row.head_with.Goals as goal

pub returns-in_ok-hex-in-46-2-clause-found : goal.returns-in_ok-hex-in-46-2-clause-found
returns-in_ok-hex-in-46-2-clause-found c =
    named (λ begin. HeadParts (rom (Some c.in_ok-hex-in-46-2.field-0)) (begin ∷ c.args.operand.now ∷ [])) _ (codes ".rom")
    (omega arith) (search rules) (at c.in_ok-hex-in-46-2.ensures.found)

pub returns-in-46-clause-found : goal.returns-in-46-clause-found
returns-in-46-clause-found c =
    named (λ begin. IfSome c.frame_named.result (λ head. HeadParts (head_of head) (begin ∷ c.args.operand.now ∷ []))) _
    (codes ".frame") (omega arith) (search rules) (frame_found c.frame_named.result _ c.frame_named.ensures.found)

pub returns-in-46-clause-only : goal.returns-in-46-clause-only
returns-in-46-clause-only c =
    named (λ begin. (head : Head) → HeadParts head (begin ∷ c.args.operand.now ∷ []) → IsSomeAnd c.frame_named.result (λ found. head_of found ≡ head)) _
    (codes ".frame") (omega arith) (search rules) (frame_only c.frame_named.result _ c.frame_named.ensures.only)
