use Rattle.std.proofs.Common.{[], ◌∷◌, codes, arith, rules}
use Rattle.dvg_frame.specs.declared.op.OpKind.TheVariants.{Call, CallRom, Jump, JumpRom}
use Rattle.dvg_read.specs.OpLines.{OpParts, callrom, jumprom}
use Rattle.dvg_read.proofs.OpRows.{named, call_made, jump_made}
use Rattle.dvg_read.proofs.op_line.targeting.Goals as goal

pub returns-in_ok-hex-in-callrom-clause-found : goal.returns-in_ok-hex-in-callrom-clause-found
returns-in_ok-hex-in-callrom-clause-found c = named (λ name. OpParts (CallRom c.in_ok-hex-in-callrom.field-0) (name ∷ c.args.target.now ∷ [])) _ (codes "callrom") (omega arith) (search rules) (callrom c.in_ok-hex-in-callrom.ensures.found)

pub returns-in_ok-hex-in-jumprom-clause-found : goal.returns-in_ok-hex-in-jumprom-clause-found
returns-in_ok-hex-in-jumprom-clause-found c = named (λ name. OpParts (JumpRom c.in_ok-hex-in-jumprom.field-0) (name ∷ c.args.target.now ∷ [])) _ (codes "jumprom") (omega arith) (search rules) (jumprom c.in_ok-hex-in-jumprom.ensures.found)

pub returns-in_ok-natural-in-call-clause-found : goal.returns-in_ok-natural-in-call-clause-found
returns-in_ok-natural-in-call-clause-found c = named (λ name. OpParts (Call c.in_ok-natural-in-call.field-0) (name ∷ c.args.target.now ∷ [])) _ (codes "call") (omega arith) (search rules) (call_made _ _ c.in_ok-natural-in-call.ensures.found (search rules))

pub returns-in_ok-natural-in-jump-clause-found : goal.returns-in_ok-natural-in-jump-clause-found
returns-in_ok-natural-in-jump-clause-found c = named (λ name. OpParts (Jump c.in_ok-natural-in-jump.field-0) (name ∷ c.args.target.now ∷ [])) _ (codes "jump") (omega arith) (search rules) (jump_made _ _ c.in_ok-natural-in-jump.ensures.found (search rules))
