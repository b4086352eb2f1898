use Rattle.std.proofs.Common.{[], ◌∷◌, codes, arith, rules}
use Rattle.dvg_frame.specs.declared.op.OpKind.TheVariants.{Halt, Return}
use Rattle.dvg_read.specs.OpLines.{OpParts, halt, return}
use Rattle.dvg_read.proofs.OpRows.{named}
use Rattle.dvg_read.proofs.op_line.bare.Goals as goal

pub returns-in-return-clause-found : goal.returns-in-return-clause-found
returns-in-return-clause-found c = named (λ name. OpParts Return (name ∷ [])) _ (codes "return") (omega arith) (search rules) return

pub returns-in-halt-clause-found : goal.returns-in-halt-clause-found
returns-in-halt-clause-found c = named (λ name. OpParts Halt (name ∷ [])) _ (codes "halt") (omega arith) (search rules) halt
