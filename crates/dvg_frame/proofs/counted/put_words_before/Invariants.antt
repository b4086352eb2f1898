use Rattle.std.proofs.Common.{◌≡◌, take}
use Rattle.dvg_frame.specs.own.Counting.{counts_from}
use Rattle.dvg_frame.specs.Layout.{size}
use Rattle.dvg_frame.proofs.counted.put_words_before.Given as goal

abbrev pub invariant-loop-op : goal.invariant-loop-op
invariant-loop-op l = (l.words_before.items ≡ counts_from 0 (take l.op-index l.ops)) × (l.words ≡ size (take l.op-index l.ops))
