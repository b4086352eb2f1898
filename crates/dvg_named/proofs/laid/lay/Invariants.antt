use Rattle.std.proofs.Common.{◌≡◌, ◌≤◌, ◌+◌, ◌^◌, ◌++◌, List, take}
use Rattle.dvg_named.specs.LaidValues.{laid_sections, rows_in, sections_of}
use Rattle.dvg_named.specs.Places.{laid_from}
use Rattle.dvg_rows.specs.RowPlaces.{size}
use Rattle.dvg_named.specs.Sections.{RomRows}
use Rattle.dvg_named.proofs.laid.lay.Given as goal

abbrev pub invariant-loop-section : goal.invariant-loop-section
invariant-loop-section g l = record {
  so_far : (others : List RomRows) → laid_sections l.laid.items ++ laid_from l.next others
      ≡ laid_from l.free (sections_of (take l.section-index l.sections) ++ others);
  low : l.next ≤ 2 ^ 32 + size (rows_in (sections_of (take l.section-index l.sections)));
}
