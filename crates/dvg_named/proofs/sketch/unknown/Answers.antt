use Rattle.std.proofs.Common.{refl}
use Rattle.dvg_named.proofs.UnknownText.{of_some}
use Rattle.dvg_named.proofs.sketch.unknown.Goals as goal

pub returns-in-Ok-Some : goal.returns-in-Ok-Some
returns-in-Ok-Some g c text read =
    of_some _ c.in-Ok-Some.field-0 c.in-Ok-Some.number c.in-Ok-Some.field-0-is c.in-Ok-Some.ensures.unknown _ text read
    (c.requires.laid read.rom read.reads) refl
