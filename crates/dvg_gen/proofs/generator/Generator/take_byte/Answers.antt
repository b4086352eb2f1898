use Rattle.std.proofs.Common.{subst}
use Rattle.dvg_gen.specs.Bytes.{met}
use Rattle.dvg_gen.specs.Machine.{Answers, answer_by}
use Rattle.dvg_gen.proofs.GeneratorAfterHistory.{handed_out}
use Rattle.dvg_gen.proofs.generator.Generator.take_byte.Goals as goal

pub returns-in-Ok-Done-clause-answers : goal.returns-in-Ok-Done-clause-answers
returns-in-Ok-Done-clause-answers g c = λ history low after.
    let fed = c.feed.new.self in
    let found = met low c.args.byte in
    let answers =
    subst (λ step. Answers history found fed (answer_by step fed.picture)) c.in-Ok-Done.field-0-is
    (c.in-Ok-Done.ensures.answers history low after) in
    handed_out history found fed c.take_picture.new.self c.take_picture.result.items c.take_picture.ensures.machine
    c.take_picture.ensures.taken answers
