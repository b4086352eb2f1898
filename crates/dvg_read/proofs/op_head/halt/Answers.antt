use Rattle.std.proofs.Common.{◌≡◌, get_or, rules}
use Rattle.dvg_read.proofs.Heads.{first_byte, halt_head}
use Rattle.dvg_read.proofs.op_head.halt.Goals as goal

pub returns-in_ok-new-in-10 : goal.returns-in_ok-new-in-10
returns-in_ok-new-in-10 c =
    let end : get_or c.args.text.now 0 0 ≡ 10 = search rules in
    halt_head c.args.text.now _ c.in_ok-new-in-10.field-0 c.in_ok-new-in-10.ensures.value (first_byte c.args.text.now 10 c.in-10.len_at_least end)
