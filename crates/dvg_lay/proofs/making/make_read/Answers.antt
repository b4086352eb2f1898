use Rattle.std.proofs.Common.{All, subst, sym}
use Rattle.dvg_named.specs.ReadSketches.{IsSketchOf}
use Rattle.dvg_blame.specs.Refusals.{IsLent}
use Rattle.dvg_blame.proofs.LentFrames.{all_lent}
use Rattle.dvg_lay.proofs.making.make_read.Goals as goal

pub make-requires : goal.make-requires
make-requires g c =
    let sketch = c.args.sketch.now in
    subst (All IsLent) (sym c.as_slice-3.ensures.value)
    (all_lent c.requires.read.0 sketch.rom.items sketch.names.items c.in-Ok.frames.items
    (subst (IsSketchOf c.requires.read.0 sketch.rom.items sketch.names.items) (sym c.in-Ok.ensures) c.requires.read.1))
