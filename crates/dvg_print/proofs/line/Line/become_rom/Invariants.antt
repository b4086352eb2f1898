use Rattle.std.proofs.Common.{◌≡◌, ◌+◌, ◌*◌, ◌++◌, codes, length, map, take}
use Rattle.dvg_print.specs.Lines.{hex_3, hex_4, spaced}
use Rattle.dvg_print.proofs.line.Line.become_rom.Given as goal

abbrev pub invariant-loop-word : goal.invariant-loop-word
invariant-loop-word l = record {
  text : l.self ≡ (codes "rom " ++ hex_3 l.fn.address) ++ spaced (map hex_4 (take l.word-index l.words));
  room : length l.self ≡ 7 + 5 * l.word-index;
}
