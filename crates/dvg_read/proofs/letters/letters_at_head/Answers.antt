use Rattle.std.proofs.Common.{arith}
use Rattle.dvg_read.proofs.Heads.{four_bytes}
use Rattle.dvg_read.proofs.letters.letters_at_head.Goals as goal

pub returns : goal.returns
returns c = four_bytes c.args.text.now c.from_le_bytes-letters.result (omega arith)
    (λ i. omega (arith, c.type_inv.text i)) c.from_le_bytes-letters.ensures
