use Rattle.std.proofs.Common.{◌≡◌, take}
use Rattle.dvg_frame.specs.Layout.{size}
use Rattle.dvg_frame.specs.own.Straight.{draw_count}
use Rattle.dvg_frame.proofs.checking.straight.measured.Given as goal

abbrev pub invariant-loop-op : goal.invariant-loop-op
invariant-loop-op l = record {
  words : l.words ≡ size (take l.op-index l.draft);
  draws : l.draws ≡ draw_count (take l.op-index l.draft);
}
