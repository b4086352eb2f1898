use Rattle.dvg_world.proofs.EntriesDrew.{undrawn_as}
use Rattle.dvg_world.proofs.logging.EntriesKeptAllocKeeper.keep_alike.Goals as goal

pub returns-clause-kept : goal.returns-clause-kept
returns-clause-kept g c picture event log kept =
    c.add.ensures.kept picture (undrawn_as c.args.entry picture c.requires.undrawn) event log kept
