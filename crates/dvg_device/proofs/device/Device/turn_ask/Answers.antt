use Rattle.std.proofs.Common.{sym, ◌∙◌, subst}
use Rattle.dvg_device.specs.Devices.{Answered, Numbered}
use Rattle.dvg_device.proofs.QuestionsApart.{told_apart}
use Rattle.dvg_device.proofs.device.Device.turn_ask.Goals as goal

pub returns : goal.returns
returns c =
    let old = c.args.self.now in
    let new = c.told.new.self in
    let answer = c.told.result in
    subst (λ request. Numbered (Answered request old new) answer) (sym c.in-Ask.is ∙ c.of.ensures)
    (told_apart c.in-Ask.question old new answer c.told.ensures.same c.told.ensures.told)
