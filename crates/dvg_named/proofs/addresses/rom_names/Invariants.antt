use Rattle.std.proofs.Common.{◌≡◌, All, take}
use Rattle.dvg_named.specs.LaidValues.{laid_sections, rows_laid}
use Rattle.dvg_rows.specs.RowPlaces.{names_of}
use Rattle.dvg_named.specs.RomNames.{IsNamedIn, names_listed}
use Rattle.dvg_named.proofs.addresses.rom_names.Given as goal

abbrev pub invariant-loop-section : goal.invariant-loop-section
invariant-loop-section g l = record {
  names : names_listed l.found.items ≡ names_of (rows_laid (laid_sections (take l.section-index l.sections)));
  addresses : All (IsNamedIn (laid_sections l.sections)) l.found.items;
}
