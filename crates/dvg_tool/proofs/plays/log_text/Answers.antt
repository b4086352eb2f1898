use Rattle.std.proofs.Common.{subst}
use Rattle.dvg_world.specs.Kept.{Logs}
use Rattle.dvg_world.proofs.KeptSoFar.{happened_none, happened_so}
use Rattle.dvg_tool.specs.Plays.{zeros}
use Rattle.dvg_tool.proofs.ZerosAreImage.{zeros_are_image}
use Rattle.dvg_tool.proofs.plays.log_text.Goals as goal

pub returns-in_default : goal.returns-in_default
returns-in_default g c =
    let none = c.unstarted.ensures in
    happened_so none.whole (λ log kept. kept) (happened_none (c.requires, zeros_are_image) none.entries)

pub returns : goal.returns
returns g c =
    let trace = c.args.trace.now in
    let image = subst (λ image. Logs c.in-Some.rom image trace.events c.log_trace.result) c.in-Some.ensures.image c.log_trace.ensures in
    subst (λ R. Logs R zeros trace.events c.log_trace.result) c.in-Some.ensures.rom image
