use Rattle.std.proofs.Common.{◌≡◌, ◌++◌, map}
use Rattle.dvg_frame.specs.Bytes.{bytes}
use Rattle.dvg_frame.specs.Layout.{laid}
use Rattle.dvg_frame.specs.Left.{items_in}
use Rattle.dvg_lay.proofs.laid.put_laid.Given as goal

abbrev pub invariant-loop-item : goal.invariant-loop-item
invariant-loop-item g l = l.text.items ++ map (λ item. item.1) (items_in l.item-iterator) ≡ l.fn.text.items ++ bytes (laid l.fn.half l.fn.frame.operations)
