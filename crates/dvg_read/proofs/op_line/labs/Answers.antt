use Rattle.std.proofs.Common.{◌≡◌, codes, rules}
use Rattle.dvg_read.proofs.OpRows.{labs_made}
use Rattle.dvg_read.proofs.op_line.labs.Goals as goal

pub returns-clause-found : goal.returns-clause-found
returns-clause-found c =
    let name : c.args.name.now ≡ codes "labs" = search rules in
    labs_made c.draw.result _ _ _ _ c.in_ok-x.x c.in_ok-y.y c.in_ok-scale.scale name c.draw.ensures.found c.in_ok-x.ensures.found c.in_ok-y.ensures.found c.in_ok-scale.ensures.found
