use Rattle.std.proofs.Common.{arith, refl}
use Rattle.dvg_frame.specs.declared.checking.table.TheConstants.{BLANK}
use Rattle.dvg_frame.proofs.Notes.{notes_blank, notes_later, notes_past}
use Rattle.dvg_frame.proofs.checking.table.Table.new.Goals as goal

pub invariant_of-result : goal.invariant_of-result
invariant_of-result c = notes_later 0 1 _ (notes_blank _ _ _ refl refl refl) (omega arith)

pub returns : goal.returns
returns c = notes_past 0 1 _ (notes_blank _ _ BLANK refl refl refl) (omega arith)
