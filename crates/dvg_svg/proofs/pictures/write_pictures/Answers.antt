use Rattle.std.proofs.Common.{subst, rules}
use Rattle.dvg_io.specs.Watching.{Writes}
use Rattle.dvg_svg.proofs.Steps.{several}
use Rattle.dvg_svg.proofs.pictures.write_pictures.Goals as goal

pub returns-else-pictures-eq1 : goal.returns-else-pictures-eq1
returns-else-pictures-eq1 g c =
    subst (λ text. Writes g.W.Write.contents text c.write_groups.result c.args.writer.now c.write_groups.new.writer)
    (several c.args.rate c.args.pictures.now (search rules)) c.write_groups.ensures
