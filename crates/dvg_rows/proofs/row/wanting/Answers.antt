use Rattle.std.proofs.Common.{◌≡◌, [], ◌∷◌, codes, arith, rules}
use Rattle.dvg_read.proofs.OpRows.{named}
use Rattle.dvg_rows.specs.Rows.{Doing, DoingParts, call, callrom, calls, calls_rom, jump, jumprom, jumps, jumps_rom}
use Rattle.dvg_rows.proofs.RowSpelling.{no_other, one_call, one_callrom, one_jump, one_jumprom}
use Rattle.dvg_rows.proofs.row.wanting.Goals as goal

pub returns-in-call-clause-found : goal.returns-in-call-clause-found
returns-in-call-clause-found c =
    named (λ command. DoingParts (calls c.args.name.now) (command ∷ c.args.name.now ∷ [])) _ (codes "call") (omega arith)
    (search rules) (call c.requires)

pub returns-in-call-clause-only : goal.returns-in-call-clause-only
returns-in-call-clause-only c =
    named (λ command. (doing : Doing) → DoingParts doing (command ∷ c.args.name.now ∷ []) → calls c.args.name.now ≡ doing) _
    (codes "call") (omega arith) (search rules) (λ doing h. one_call c.requires h)

pub returns-in-jump-clause-found : goal.returns-in-jump-clause-found
returns-in-jump-clause-found c =
    named (λ command. DoingParts (jumps c.args.name.now) (command ∷ c.args.name.now ∷ [])) _ (codes "jump") (omega arith)
    (search rules) (jump c.requires)

pub returns-in-jump-clause-only : goal.returns-in-jump-clause-only
returns-in-jump-clause-only c =
    named (λ command. (doing : Doing) → DoingParts doing (command ∷ c.args.name.now ∷ []) → jumps c.args.name.now ≡ doing) _
    (codes "jump") (omega arith) (search rules) (λ doing h. one_jump c.requires h)

pub returns-in-callrom-clause-found : goal.returns-in-callrom-clause-found
returns-in-callrom-clause-found c =
    named (λ command. DoingParts (calls_rom c.args.name.now) (command ∷ c.args.name.now ∷ [])) _ (codes "callrom") (omega arith)
    (search rules) (callrom c.requires)

pub returns-in-callrom-clause-only : goal.returns-in-callrom-clause-only
returns-in-callrom-clause-only c =
    named (λ command. (doing : Doing) → DoingParts doing (command ∷ c.args.name.now ∷ []) → calls_rom c.args.name.now ≡ doing) _
    (codes "callrom") (omega arith) (search rules) (λ doing h. one_callrom c.requires h)

pub returns-in-jumprom-clause-found : goal.returns-in-jumprom-clause-found
returns-in-jumprom-clause-found c =
    named (λ command. DoingParts (jumps_rom c.args.name.now) (command ∷ c.args.name.now ∷ [])) _ (codes "jumprom") (omega arith)
    (search rules) (jumprom c.requires)

pub returns-in-jumprom-clause-only : goal.returns-in-jumprom-clause-only
returns-in-jumprom-clause-only c =
    named (λ command. (doing : Doing) → DoingParts doing (command ∷ c.args.name.now ∷ []) → jumps_rom c.args.name.now ≡ doing) _
    (codes "jumprom") (omega arith) (search rules) (λ doing h. one_jumprom c.requires h)

pub returns-in_default-clause-only : goal.returns-in_default-clause-only
returns-in_default-clause-only c doing h =
    no_other c.requires (search rules) (search rules) (search rules) (search rules) h
