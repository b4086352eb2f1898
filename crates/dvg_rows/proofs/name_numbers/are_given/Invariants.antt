use Rattle.std.proofs.Common.{◌≡◌, ◌≤◌, length, take}
use Rattle.dvg_read.specs.LineParts.{bytes_of}
use Rattle.dvg_rows.specs.HeldRows.{rows_of}
use Rattle.dvg_rows.specs.RowPlaces.{names_of}
use Rattle.dvg_rows.proofs.name_numbers.are_given.Given as goal

abbrev pub invariant-loop-row : goal.invariant-loop-row
invariant-loop-row g l = record {
  same : names_of (rows_of (take l.row-index l.rows)) ≡ take l.count (bytes_of l.given.given.keys);
  count : l.count ≡ length (names_of (rows_of (take l.row-index l.rows)));
  few : l.count ≤ l.row-index;
}
