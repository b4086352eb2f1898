use Rattle.std.proofs.Common.{[], ◌∷◌, None, codes, arith, rules}
use Rattle.dvg_read.proofs.OpRows.{named}
use Rattle.dvg_rows.specs.Rows.{HeadParts, anywhere, frame, nameless, rom}
use Rattle.dvg_rows.proofs.row.bare_head.Goals as goal

pub returns-in-46-2-clause-found : goal.returns-in-46-2-clause-found
returns-in-46-2-clause-found c =
    named (λ begin. HeadParts (rom None) (begin ∷ [])) _ (codes ".rom") (omega arith) (search rules) anywhere

pub returns-in-46-clause-found : goal.returns-in-46-clause-found
returns-in-46-clause-found c =
    named (λ begin. HeadParts (frame None) (begin ∷ [])) _ (codes ".frame") (omega arith) (search rules) nameless
