use Rattle.std.proofs.Common.{◌≡◌, take}
use Rattle.dvg_rows.specs.HeldRows.{rows_of}
use Rattle.dvg_rows.specs.RowPlaces.{size}
use Rattle.dvg_rows.proofs.sizes.size.Given as goal

abbrev pub invariant-loop-row : goal.invariant-loop-row
invariant-loop-row l = l.words ≡ size (rows_of (take l.row-index l.rows))
