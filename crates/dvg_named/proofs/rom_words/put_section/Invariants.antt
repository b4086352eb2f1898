use Rattle.std.proofs.Common.{◌-◌, take}
use Rattle.dvg_rows.specs.HeldRows.{rows_of}
use Rattle.dvg_named.specs.LaidValues.{laid_sections}
use Rattle.dvg_rows.specs.RowPlaces.{doings}
use Rattle.dvg_named.proofs.RomWritten.{Written}
use Rattle.dvg_named.proofs.rom_words.put_section.Given as goal

abbrev pub invariant-loop-row : goal.invariant-loop-row
invariant-loop-row g l = record {
  written : Written (laid_sections l.sections) (doings (rows_of (take l.row-index l.section.rows.now)))
      (l.section.start - l.first) l.initial.rom l.rom l.next;
}
