use Rattle.std.proofs.Common.{◌∙◌, ◌++◌, ap, map}
use Rattle.dvg_frame.specs.Left.{items_in}
use Rattle.dvg_lay.proofs.LaidBytes.{addressed_bytes}
use Rattle.dvg_lay.proofs.laid.put_laid.Goals as goal

pub loop-item-init : goal.loop-item-init
loop-item-init g c =
    let items = ap items_in c.into_iter-item-iterator.ensures.into_iter_gives ∙ c.of-item-items.ensures.items in
    ap (λ bytes. c.args.text.now.items ++ bytes) (ap (map (λ item. item.1)) items ∙ addressed_bytes _ _)
