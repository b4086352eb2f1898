use Rattle.std.proofs.Common.{subst, lit≤}
use Rattle.dvg_mem.specs.Memory.{fetched}
use Rattle.dvg_log.specs.Held.{HoldsFrame}
use Rattle.test_facts.specs.Facts.{shape_strokes}
use Rattle.test_facts.proofs.Alone.{answered}
use Rattle.test_facts.proofs.FourFrames.{shape_drawn}
use Rattle.test_facts.proofs.undisturbed.draws_a_shape.Goals as goal

pub drawn-requires : goal.drawn-requires
drawn-requires c =
    let ram = c.in_ok-store.store in
    let holds = subst (HoldsFrame ram c.args.half) c.requires.frame c.in_ok-store.ensures in
    let rom = c.requires in
    let drawn = shape_drawn c.args.half ram c.args.rom.now holds rom.vector rom.back in
    (7, shape_strokes, lit≤ tt, drawn)

pub returns : goal.returns
returns c =
    let ram = c.in_ok-store.store in
    let holds = subst (HoldsFrame ram c.args.half) c.requires.frame c.in_ok-store.ensures in
    answered (fetched ram c.args.rom.now) 7 shape_strokes c.drawn.result c.drawn.ensures
    (shape_drawn c.args.half ram c.args.rom.now holds c.requires.vector c.requires.back)
