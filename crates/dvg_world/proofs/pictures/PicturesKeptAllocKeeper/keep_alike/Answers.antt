use Rattle.std.proofs.Common.{sym, ◌∙◌}
use Rattle.dvg_world.proofs.EntriesDrew.{undrawn_as}
use Rattle.dvg_world.proofs.PicturesKept.{pictures_alike}
use Rattle.dvg_world.proofs.pictures.PicturesKeptAllocKeeper.keep_alike.Goals as goal

pub returns-clause-kept : goal.returns-clause-kept
returns-clause-kept g c picture event log kept =
    kept ∙ sym (pictures_alike c.args._times event log _ (undrawn_as c.args._entry picture c.requires.undrawn))
