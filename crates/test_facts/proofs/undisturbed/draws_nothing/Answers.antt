use Rattle.std.proofs.Common.{[], subst, lit≤}
use Rattle.dvg_mem.specs.Memory.{fetched}
use Rattle.dvg_log.specs.Held.{HoldsFrame}
use Rattle.test_facts.proofs.Alone.{answered}
use Rattle.test_facts.proofs.FourFrames.{nested_drawn}
use Rattle.test_facts.proofs.undisturbed.draws_nothing.Goals as goal

pub drawn-requires : goal.drawn-requires
drawn-requires c =
    let ram = c.in_ok-store.store in
    let holds = subst (HoldsFrame ram c.args.half) c.requires c.in_ok-store.ensures in
    (12, [], lit≤ tt, nested_drawn c.args.half ram c.args.rom.now holds)

pub returns : goal.returns
returns c =
    let ram = c.in_ok-store.store in
    let holds = subst (HoldsFrame ram c.args.half) c.requires c.in_ok-store.ensures in
    answered (fetched ram c.args.rom.now) 12 [] c.drawn.result c.drawn.ensures
    (nested_drawn c.args.half ram c.args.rom.now holds)
