use Rattle.std.proofs.Common.{◌≤◌, length, take}
use Rattle.dvg_read.specs.LineParts.{bytes_of}
use Rattle.dvg_read.specs.RomReading.{SpellsWords}
use Rattle.dvg_read.proofs.rom_line.hex_words.Given as goal

abbrev pub invariant-loop-part : goal.invariant-loop-part
invariant-loop-part l = record {
  few : length l.words.items ≤ 8;
  read : SpellsWords l.words.items (bytes_of (take l.part-index l.parts));
}
