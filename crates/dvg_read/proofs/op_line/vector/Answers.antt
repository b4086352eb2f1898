use Rattle.std.proofs.Common.{◌≡◌, [], ◌∷◌, Some, IfSome, codes, arith, rules}
use Rattle.dvg_frame.specs.declared.op.OpKind.{OpKind}
use Rattle.dvg_read.specs.OpLines.{OpParts}
use Rattle.dvg_read.proofs.OpRows.{named}
use Rattle.dvg_read.proofs.op_line.vector.Goals as goal

pub returns-in-vctr-clause-found : goal.returns-in-vctr-clause-found
returns-in-vctr-clause-found c =
    named (λ name. IfSome c.vctr.result (λ op. OpParts op (name ∷ c.args.scale.now ∷ c.args.dx.now ∷ c.args.dy.now ∷ c.args.z.now ∷ []))) _ (codes "vctr") (omega arith) (search rules) c.vctr.ensures.found

pub returns-in-vctr-clause-only : goal.returns-in-vctr-clause-only
returns-in-vctr-clause-only c =
    named (λ name. (op : OpKind) → OpParts op (name ∷ c.args.scale.now ∷ c.args.dx.now ∷ c.args.dy.now ∷ c.args.z.now ∷ []) → c.vctr.result ≡ Some op) _ (codes "vctr") (omega arith) (search rules) c.vctr.ensures.only

pub returns-in-svec-clause-found : goal.returns-in-svec-clause-found
returns-in-svec-clause-found c =
    named (λ name. IfSome c.svec.result (λ op. OpParts op (name ∷ c.args.scale.now ∷ c.args.dx.now ∷ c.args.dy.now ∷ c.args.z.now ∷ []))) _ (codes "svec") (omega arith) (search rules) c.svec.ensures.found

pub returns-in-svec-clause-only : goal.returns-in-svec-clause-only
returns-in-svec-clause-only c =
    named (λ name. (op : OpKind) → OpParts op (name ∷ c.args.scale.now ∷ c.args.dx.now ∷ c.args.dy.now ∷ c.args.z.now ∷ []) → c.svec.result ≡ Some op) _ (codes "svec") (omega arith) (search rules) c.svec.ensures.only
