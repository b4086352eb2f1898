use Rattle.dvg_world.proofs.logging.EntriesKeptAllocKeeper.keep.Goals as goal

pub returns-clause-kept : goal.returns-clause-kept
returns-clause-kept g c event log kept count =
    c.add.ensures.kept c.args.world.now.machine.picture c.take_drawn.ensures.drawn event log kept
