use Rattle.dvg_explain.proofs.frames.ask_sketch.Goals as goal

pub check_read-requires-clause-read : goal.check_read-requires-clause-read
check_read-requires-clause-read g c = (c.requires.0, c.in-Ok.ensures.read c.requires.0 c.requires.1)
