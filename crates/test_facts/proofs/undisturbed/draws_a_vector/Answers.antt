use Rattle.std.proofs.Common.{subst, lit≤}
use Rattle.dvg_mem.specs.Memory.{fetched}
use Rattle.dvg_log.specs.Held.{HoldsFrame}
use Rattle.test_facts.specs.Facts.{vector_strokes}
use Rattle.test_facts.proofs.Alone.{answered}
use Rattle.test_facts.proofs.FourFrames.{vector_drawn}
use Rattle.test_facts.proofs.undisturbed.draws_a_vector.Goals as goal

pub drawn-requires : goal.drawn-requires
drawn-requires c =
    let ram = c.in_ok-store.store in
    let holds = subst (HoldsFrame ram c.args.half) c.requires c.in_ok-store.ensures in
    (6, vector_strokes, lit≤ tt, vector_drawn c.args.half ram c.args.rom.now holds)

pub returns : goal.returns
returns c =
    let ram = c.in_ok-store.store in
    let holds = subst (HoldsFrame ram c.args.half) c.requires c.in_ok-store.ensures in
    answered (fetched ram c.args.rom.now) 6 vector_strokes c.drawn.result c.drawn.ensures
    (vector_drawn c.args.half ram c.args.rom.now holds)
