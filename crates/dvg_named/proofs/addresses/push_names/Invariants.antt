use Rattle.std.proofs.Common.{◌≡◌, ◌++◌, ◌+◌, All, List, take}
use Rattle.dvg_rows.specs.HeldRows.{rows_of}
use Rattle.dvg_named.specs.LaidValues.{laid_section}
use Rattle.dvg_rows.specs.RowPlaces.{names_of}
use Rattle.dvg_named.specs.Places.{Laid}
use Rattle.dvg_rows.specs.RowPlaces.{size}
use Rattle.dvg_named.specs.RomNames.{IsNamedIn, StandsIn, names_listed}
use Rattle.dvg_named.proofs.addresses.push_names.Given as goal

abbrev pub invariant-loop-row : goal.invariant-loop-row
invariant-loop-row g l = record {
  next : l.next ≡ l.section.start + size (rows_of (take l.row-index l.section.rows.now));
  names : names_listed l.found.items
      ≡ names_listed l.initial.found.items ++ names_of (rows_of (take l.row-index l.section.rows.now));
  addresses : (laid : List Laid) → StandsIn laid (laid_section l.section) → All (IsNamedIn laid) l.initial.found.items
      → All (IsNamedIn laid) l.found.items;
}
