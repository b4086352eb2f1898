use Rattle.std.proofs.Common.{subst, sym}
use Rattle.dvg_named.specs.TextReading.{ReadsText}
use Rattle.dvg_named.proofs.RomFew.{if_ok}
use Rattle.dvg_named.proofs.SketchWhole.{if_err}
use Rattle.dvg_named.proofs.sketch.read_sketch.Goals as goal

pub sketch_of-requires : goal.sketch_of-requires
sketch_of-requires g c = (c.args.small.now, c.in-Ok.ensures.read)

pub returns-clause-read : goal.returns-clause-read
returns-clause-read g c =
    if_ok c.sketch_of.result c.sketch_of.ensures.read (λ sketch read text e.
    read text (subst (λ small. ReadsText small c.in-Ok.reading) (sym e) c.in-Ok.ensures.read))

pub returns-clause-fault : goal.returns-clause-fault
returns-clause-fault g c =
    if_err c.sketch_of.result c.sketch_of.ensures.fault (λ fault stops text e.
    stops text (subst (λ small. ReadsText small c.in-Ok.reading) (sym e) c.in-Ok.ensures.read))
