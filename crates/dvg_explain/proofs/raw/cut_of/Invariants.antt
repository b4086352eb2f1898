use Rattle.dvg_explain.proofs.CutWords.{CutsOn}
use Rattle.dvg_explain.proofs.raw.cut_of.Given as goal

abbrev pub invariant-loop-item : goal.invariant-loop-item
invariant-loop-item l = record {
  next : (goal.iterator-loop-item).can_next l.item-iterator;
  ends : (goal.iterator-loop-item).is_finite l.item-iterator;
  cuts : CutsOn l.words l.item-iterator;
}
