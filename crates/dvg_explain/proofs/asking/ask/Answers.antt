use Rattle.dvg_explain.proofs.asking.ask.Goals as goal

pub ask_sketch-requires : goal.ask_sketch-requires
ask_sketch-requires g c = (c.args.text.now, c.requires.small)
