use Rattle.std.proofs.Common.{◌≡◌, ◌<◌, ℕ, get_or, length}
use Rattle.dvg_read.proofs.GivenWords.{PutTo}
use Rattle.dvg_read.proofs.rom_line.RomWords.put.Given as goal

abbrev pub invariant-loop-k : goal.invariant-loop-k
invariant-loop-k l = record {
  size : length l.rom ≡ length l.initial.rom;
  fits : (i : ℕ) → get_or l.rom i 0 < 256;
  put : PutTo l.place l.k l.self.words l.initial.rom l.rom;
}
