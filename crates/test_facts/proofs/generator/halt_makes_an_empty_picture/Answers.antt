use Rattle.std.proofs.Common.{◌∷◌, Some, None, ap, ◌∙◌}
use Rattle.dvg_gen.specs.Told.{Start, reply}
use Rattle.dvg_gen.proofs.OneRun.{leaves_same}
use Rattle.test_facts.proofs.Handed.{halt_after, is_empty}
use Rattle.test_facts.proofs.generator.halt_makes_an_empty_picture.Goals as goal

pub returns-in-Ok : goal.returns-in-Ok
returns-in-Ok c = λ history low after.
    let started = c.start.ensures.stands history low after in
    let waits = (c.in-Ok-Low.ensures.answers (Start ∷ history) None started).0 in
    let answers = c.in-Ok.ensures.answers (Start ∷ history) (Some 0) waits in
    let halted = halt_after history after in
    let same = leaves_same answers.0.leaves halted.leaves in
    let replies = ap (reply (Some 0xB000)) same ∙ halted.answered in
    is_empty c.in-Ok.step c.feed-2.new.self.picture (answers.1 ∙ ap Some replies)
