use Rattle.std.proofs.Common.{◌≡◌, ◌<◌, ◌+◌, ℕ, get_or, length}
use Rattle.dvg_read.proofs.GivenWords.{PutTo}
use Rattle.dvg_named.proofs.rom_words.put_code.Given as goal

abbrev pub invariant-loop-word : goal.invariant-loop-word
invariant-loop-word l = record {
  next : l.next ≡ l.place + l.word-index;
  size : length l.rom ≡ length l.initial.rom;
  fits : (i : ℕ) → get_or l.rom i 0 < 256;
  put : PutTo l.place l.word-index l.words l.initial.rom l.rom;
}
