use Rattle.std.proofs.Common.{◌∙◌}
use Rattle.dvg_dump.proofs.TracerTells.{read_as}
use Rattle.dvg_dump.proofs.tracer.read.Goals as goal

pub returns-in-Ok-clause-found : goal.returns-in-Ok-clause-found
returns-in-Ok-clause-found c =
    read_as c.args.words.now c.as_slice.result.now c.in-Ok.found c.eq.result c.in-Ok.ensures.found (c.as_slice.ensures.value ∙ c.encode.ensures.canonical) c.eq.ensures
