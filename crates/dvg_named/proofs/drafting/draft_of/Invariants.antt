use Rattle.std.proofs.Common.{◌≡◌, length, take}
use Rattle.std.specs.List.{AllZip}
use Rattle.dvg_rows.specs.HeldRows.{rows_of}
use Rattle.dvg_named.specs.LaidValues.{laid_sections}
use Rattle.dvg_named.specs.Meanings.{IsDrafted}
use Rattle.dvg_rows.specs.RowPlaces.{doings}
use Rattle.dvg_named.proofs.drafting.draft_of.Given as goal

abbrev pub invariant-loop-row : goal.invariant-loop-row
invariant-loop-row g l = record {
  drafted : AllZip (IsDrafted (laid_sections l.rom) (rows_of l.rows)) (doings (rows_of (take l.row-index l.rows))) l.draft;
  count : length l.draft ≡ length (doings (rows_of (take l.row-index l.rows)));
}
