use Rattle.std.proofs.Common.{◌-◌, slice_set, sym, subst}
use Rattle.dvg_mem.specs.Banks.{AreBanks}
use Rattle.dvg_mem.proofs.Banks.{zero_banks, zero_written, half_0_banks, half_0_written, unused_banks, unused_written, half_1_banks, half_1_written, banked_image}
use Rattle.dvg_mem.proofs.banked.BankedStore.write.Goals as goal

-- in zero
pub invariant_of-self : goal.invariant_of-self
invariant_of-self g c = zero_banks c.self.invariant c.from-a.result c.args.b c.ranges.b.fits c.if-a-lt-HALF_0.true

pub returns-then-a-lt-HALF_0-clause-content : goal.returns-then-a-lt-HALF_0-clause-content
returns-then-a-lt-HALF_0-clause-content g c = let written = zero_written c.self.invariant c.from-a.result c.args.b c.if-a-lt-HALF_0.true in cc

pub returns-then-a-lt-HALF_0-clause-image : goal.returns-then-a-lt-HALF_0-clause-image
returns-then-a-lt-HALF_0-clause-image g c = banked_image (invariant_of-self g c)

-- in half_0
pub invariant_of-self-then-a-lt-UNUSED : goal.invariant_of-self-then-a-lt-UNUSED
invariant_of-self-then-a-lt-UNUSED g c =
    subst (λ half. AreBanks c.self.inside.zero (slice_set half (c.from-a.result - 2) c.args.b) c.self.inside.unused c.self.inside.half_1.value) (sym c.deref_mut.ensures.value)
    (half_0_banks c.self.invariant c.from-a.result c.args.b c.ranges.b.fits c.if-a-lt-HALF_0.false c.if-a-lt-UNUSED.true)

pub returns-then-a-lt-UNUSED-clause-content : goal.returns-then-a-lt-UNUSED-clause-content
returns-then-a-lt-UNUSED-clause-content g c = let written = half_0_written c.self.invariant c.from-a.result c.args.b c.if-a-lt-HALF_0.false c.if-a-lt-UNUSED.true in cc

pub returns-then-a-lt-UNUSED-clause-image : goal.returns-then-a-lt-UNUSED-clause-image
returns-then-a-lt-UNUSED-clause-image g c = banked_image (invariant_of-self-then-a-lt-UNUSED g c)

-- in unused
pub invariant_of-self-then-a-lt-HALF_1 : goal.invariant_of-self-then-a-lt-HALF_1
invariant_of-self-then-a-lt-HALF_1 g c = unused_banks c.self.invariant c.from-a.result c.args.b c.ranges.b.fits c.if-a-lt-UNUSED.false c.if-a-lt-HALF_1.true

pub returns-then-a-lt-HALF_1-clause-content : goal.returns-then-a-lt-HALF_1-clause-content
returns-then-a-lt-HALF_1-clause-content g c = let written = unused_written c.self.invariant c.from-a.result c.args.b c.if-a-lt-UNUSED.false c.if-a-lt-HALF_1.true in cc

pub returns-then-a-lt-HALF_1-clause-image : goal.returns-then-a-lt-HALF_1-clause-image
returns-then-a-lt-HALF_1-clause-image g c = banked_image (invariant_of-self-then-a-lt-HALF_1 g c)

-- in half_1
pub invariant_of-self-else-a-lt-HALF_1 : goal.invariant_of-self-else-a-lt-HALF_1
invariant_of-self-else-a-lt-HALF_1 g c =
    subst (λ half. AreBanks c.self.inside.zero c.self.inside.half_0.value c.self.inside.unused (slice_set half (c.from-a.result - 1026) c.args.b)) (sym c.deref_mut-else-a-lt-HALF_1.ensures.value)
    (half_1_banks c.self.invariant c.from-a.result c.args.b c.ranges.b.fits c.if-a-lt-HALF_1.false)

pub returns-else-a-lt-HALF_1-clause-content : goal.returns-else-a-lt-HALF_1-clause-content
returns-else-a-lt-HALF_1-clause-content g c = let written = half_1_written c.self.invariant c.from-a.result c.args.b c.if-a-lt-HALF_1.false in cc

pub returns-else-a-lt-HALF_1-clause-image : goal.returns-else-a-lt-HALF_1-clause-image
returns-else-a-lt-HALF_1-clause-image g c = banked_image (invariant_of-self-else-a-lt-HALF_1 g c)
