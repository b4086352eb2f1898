use Rattle.std.proofs.Common.{◌∙◌, sym}
use Rattle.dvg_explain.proofs.asking.is_sketch.Goals as goal

pub ask_sketch-requires : goal.ask_sketch-requires
ask_sketch-requires g c = (c.args.line.now, sym (c.as_slice.ensures.value ∙ c.in-Ok.ensures.ok))
