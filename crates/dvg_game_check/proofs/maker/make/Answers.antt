use Rattle.std.proofs.Common.{subst, sym}
use Rattle.std.proofs.lemmas.Result.{IfOk-weaker}
use Rattle.dvg_game_check.specs.Least.{AreUnder, states_in}
use Rattle.dvg_game_check.proofs.Games.{game_of}
use Rattle.dvg_game_check.proofs.maker.make.Goals as goal

pub returns : goal.returns
returns g c =
    IfOk-weaker c.find_all.result _ _
    (λ made h. (h.0, λ f notes has accepted. h.1 f notes has (game_of f c.args.start notes accepted))) c.find_all.ensures
