use Rattle.std.proofs.Common.{sym, subst}
use Rattle.dvg_device.specs.Devices.{IsNewWorld}
use Rattle.test_facts.proofs.Peeking.{first_peek}
use Rattle.test_facts.proofs.numbered.peeks_in_a_world.Goals as goal

pub returns-in-Opened : goal.returns-in-Opened
returns-in-Opened c =
    let staged = c.answer.new.self.staged in
    let opened = c.in-Opened.ensures.answered in
    let is = subst (λ device. IsNewWorld staged device.open_part) (sym opened.3) opened.2 in
    first_peek c.answer-2.new.self c.answer-in-Opened.new.self c.answer-in-Opened.result staged is c.answer-in-Opened.ensures.answered
