use Rattle.std.proofs.Common.{◌≡◌, ◌≤◌, length, take}
use Rattle.dvg_rows.specs.HeldRows.{rows_of}
use Rattle.dvg_rows.specs.NameTables.{TellsLeast}
use Rattle.dvg_rows.specs.RowPlaces.{IsNumber, doings}
use Rattle.dvg_rows.proofs.number.numbers_of.Given as goal

abbrev pub invariant-loop-row : goal.invariant-loop-row
invariant-loop-row g l = record {
  tells : TellsLeast (IsNumber (rows_of (take l.row-index l.rows))) l.numbers;
  count : l.count ≡ length (doings (rows_of (take l.row-index l.rows)));
  few : l.count ≤ l.row-index;
}
