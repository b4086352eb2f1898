use Rattle.std.proofs.Common.{rules}
use Rattle.dvg_print.proofs.PutDigits.{pair_at, two_put}
use Rattle.dvg_print.proofs.digits.put_pair.Goals as goal

pub returns : goal.returns
returns c =
    let pair = pair_at c.args.pair c.requires.pair in
    rw (pair.0, pair.1) (two_put c.args.bytes.now c.args.end _ _ c.requires.room (search rules))
