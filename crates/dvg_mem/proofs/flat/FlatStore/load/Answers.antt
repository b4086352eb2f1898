use Rattle.std.proofs.Common.{sym, subst}
use Rattle.dvg_mem.specs.Memory.{IsImage}
use Rattle.dvg_mem.proofs.OneByteThroughout.{filled_image}
use Rattle.dvg_mem.proofs.flat.FlatStore.load.Goals as goal

pub invariant_of-self : goal.invariant_of-self
invariant_of-self g c =
    let same = filled_image c.args.image.now c.self.inside.bytes.value c.in-Some.byte c.in-Some.ensures.image
    c.in-Some.ensures.byte c.self.invariant.0 in
    (c.self.invariant.0, subst IsImage (sym same) c.in-Some.ensures.image)

pub returns-in-Some-clause-content : goal.returns-in-Some-clause-content
returns-in-Some-clause-content g c =
    filled_image c.args.image.now c.self.inside.bytes.value c.in-Some.byte c.in-Some.ensures.image
    c.in-Some.ensures.byte c.self.invariant.0

pub returns-in-Some-clause-image : goal.returns-in-Some-clause-image
returns-in-Some-clause-image g c =
    let same = filled_image c.args.image.now c.self.inside.bytes.value c.in-Some.byte c.in-Some.ensures.image
    c.in-Some.ensures.byte c.self.invariant.0 in
    subst IsImage (sym same) c.in-Some.ensures.image
