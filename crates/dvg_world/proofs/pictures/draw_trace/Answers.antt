use Rattle.std.proofs.Common.{ap, map}
use Rattle.dvg_world.specs.Kept.{picture_seen}
use Rattle.dvg_world.proofs.pictures.draw_trace.Goals as goal

pub returns : goal.returns
returns g c =
    c.happen_all-is_whole.ensures c.args.rom c.args.image.now c.in-Ok.ensures.stands
    (ap (map picture_seen) c.in-Ok-with_capacity.ensures.items)
