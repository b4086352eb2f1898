use Rattle.std.proofs.Common.{[], ◌∷◌, ap, ◌∙◌, Some, None}
use Rattle.dvg_gen.specs.Told.{Start, reply}
use Rattle.dvg_gen.proofs.Rows.{return_first}
use Rattle.dvg_gen.proofs.OneRun.{leaves_same}
use Rattle.test_facts.proofs.Clients.{stack_under}
use Rattle.test_facts.proofs.generator.return_without_a_call.Goals as goal

pub returns-in-Ok : goal.returns-in-Ok
returns-in-Ok c =
    let waits = (c.in-Ok-Low.ensures.answers (Start ∷ []) None (c.start.ensures.stands [] None c.new-generator.ensures.stands)).0 in
    let answers = c.in-Ok.ensures.answers (Start ∷ []) (Some 0) waits in
    let same = leaves_same answers.0.leaves return_first.leaves in
    stack_under c.in-Ok.taken (answers.1 ∙ ap Some (ap (reply (Some 0xD000)) same ∙ return_first.answered))
