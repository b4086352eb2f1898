use Rattle.std.proofs.Common.{◌≡◌, map, take}
use Rattle.std.specs.List.{filter_map}
use Rattle.dvg_named.specs.LaidValues.{sections_of}
use Rattle.dvg_named.specs.RomParts.{rom_in}
use Rattle.dvg_named.specs.SketchReading.{section_in}
use Rattle.dvg_named.proofs.rom_sections.later_rows.Given as goal

abbrev pub invariant-loop-part : goal.invariant-loop-part
invariant-loop-part g l = sections_of l.found.items ≡ filter_map rom_in (map section_in (take l.part-index l.others))
