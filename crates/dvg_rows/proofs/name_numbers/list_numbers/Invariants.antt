use Rattle.std.proofs.Common.{◌≡◌, ◌≤◌, length, take}
use Rattle.std.specs.List.{AllZip}
use Rattle.dvg_rows.specs.HeldRows.{rows_of}
use Rattle.dvg_rows.specs.RowPlaces.{IsNumber, doings, names_of}
use Rattle.dvg_rows.proofs.name_numbers.list_numbers.Given as goal

abbrev pub invariant-loop-row : goal.invariant-loop-row
invariant-loop-row g l = record {
  each : AllZip (IsNumber (rows_of (take l.row-index l.rows))) (names_of (rows_of (take l.row-index l.rows)))
      l.numbers.items;
  count : l.count ≡ length (doings (rows_of (take l.row-index l.rows)));
  few : l.count ≤ l.row-index;
}
