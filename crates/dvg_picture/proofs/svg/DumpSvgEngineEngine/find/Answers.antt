use Rattle.dvg_picture.proofs.ShownSvg.{finds}
use Rattle.dvg_picture.proofs.svg.DumpSvgEngineEngine.find.Goals as goal

pub returns : goal.returns
returns g c = finds c.args.read.now c.draw_dump.result c.draw_dump.ensures.drawn c.draw_dump.ensures.fault
