use Rattle.std.proofs.Common.{[], ◌∷◌, codes, arith, rules}
use Rattle.dvg_read.proofs.OpRows.{named}
use Rattle.dvg_logs.specs.LogLines.{LogRow, started, halted, reset}
use Rattle.dvg_logs.specs.LogLineTells.{line_of}
use Rattle.dvg_logs.specs.declared.log_line.LogLine.TheVariants.{Started, Halted, Reset}
use Rattle.dvg_logs.proofs.log_line.bare.Goals as goal

pub returns-in-started-clause-found : goal.returns-in-started-clause-found
returns-in-started-clause-found c base = named (λ name. LogRow base (line_of Started) (name ∷ [])) _ (codes "started") (omega arith) (search rules) started

pub returns-in-halted-clause-found : goal.returns-in-halted-clause-found
returns-in-halted-clause-found c base = named (λ name. LogRow base (line_of Halted) (name ∷ [])) _ (codes "halted") (omega arith) (search rules) halted

pub returns-in-reset-clause-found : goal.returns-in-reset-clause-found
returns-in-reset-clause-found c base = named (λ name. LogRow base (line_of Reset) (name ∷ [])) _ (codes "reset") (omega arith) (search rules) reset
