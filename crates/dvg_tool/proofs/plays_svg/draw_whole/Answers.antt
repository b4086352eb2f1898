use Rattle.std.proofs.Common.{rules}
use Rattle.dvg_tool.proofs.PicturesPlayed.{drawn_whole}
use Rattle.dvg_tool.proofs.plays_svg.draw_whole.Goals as goal

pub returns-clause-pictures : goal.returns-clause-pictures
returns-clause-pictures g c =
    let trace = c.args.trace.now in
    drawn_whole trace.rom.items trace.events c.draw_text-drawn.result c.collect_strokes.result c.draw_text-drawn.ensures (search rules) c.collect_strokes.ensures.strokes
