use Rattle.std.proofs.Common.{◌≡◌, max, rules, arith}
use Rattle.dvg_named.proofs.LaidOrder.{free_more}
use Rattle.dvg_named.proofs.laid.free_with.Goals as goal

pub returns : goal.returns
returns c first given line free end =
    let most : c.max.result ≡ max c.args.free c.args.end = search rules in
    let more = free_more first given line in
    omega (arith, most, more, free, end)
