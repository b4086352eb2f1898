use Rattle.std.proofs.Common.{subst}
use Rattle.dvg_game_check.specs.Verdicts.{Means}
use Rattle.dvg_game.proofs.JudgedTold.{told_of}
use Rattle.dvg_game.proofs.engine.find_game.Goals as goal

pub returns : goal.returns
returns g c =
    told_of c.args.rom.now c.args.vectors.now c.in_ok-judged.judged c.tell.result
    (subst (λ R. Means c.args.rom.now R c.in_ok-judged.judged) c.in-Ok.ensures.bytes c.in_ok-judged.ensures.means)
    c.tell.ensures.verdict c.tell.ensures.at c.tell.ensures.form
