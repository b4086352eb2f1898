use Rattle.std.proofs.Common.{ap, map, subst}
use Rattle.dvg_world.specs.Kept.{Draws, picture_seen}
use Rattle.dvg_world.proofs.KeptSoFar.{happened_none, happened_so}
use Rattle.dvg_tool.specs.Plays.{zeros}
use Rattle.dvg_tool.proofs.ZerosAreImage.{zeros_are_image}
use Rattle.dvg_tool.proofs.plays_pictures.draw_text.Goals as goal

pub returns-in_default : goal.returns-in_default
returns-in_default g c =
    let none = c.unstarted.ensures in
    happened_so none.whole (λ log kept. kept) (happened_none (c.requires, zeros_are_image) (ap (map picture_seen) none.pictures))

pub returns : goal.returns
returns g c =
    let trace = c.args.trace.now in
    let image = subst (λ image. Draws c.in-Some.rom image trace.events c.draw_trace.result) c.in-Some.ensures.image c.draw_trace.ensures in
    subst (λ R. Draws R zeros trace.events c.draw_trace.result) c.in-Some.ensures.rom image
