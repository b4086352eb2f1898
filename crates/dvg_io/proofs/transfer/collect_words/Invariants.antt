use Rattle.std.proofs.Common.{◌≡◌, take}
use Rattle.dvg_code.specs.Words.{words_of}
use Rattle.dvg_io.proofs.transfer.collect_words.Given as goal

abbrev pub invariant-loop-k : goal.invariant-loop-k
invariant-loop-k g l = record { so_far : l.words.items ≡ take l.k (words_of l.bytes) }
