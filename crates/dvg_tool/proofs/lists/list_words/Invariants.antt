use Rattle.std.proofs.Common.{◌≡◌}
use Rattle.dvg_code.specs.Cutting.{Cutting}
use Rattle.dvg_code.specs.Listing.{place_of, words_left}
use Rattle.dvg_io.specs.Watching.{failures_of, stream_of}
use Rattle.dvg_tool.proofs.Progress.{Progress, Stands}
use Rattle.dvg_tool.proofs.lists.list_words.Given as goal

abbrev pub invariant-loop-item : goal.invariant-loop-item
invariant-loop-item g l = record {
  next : (goal.iterator-loop-item g).can_next l.item-iterator;
  ends : (goal.iterator-loop-item g).is_finite l.item-iterator;
  counted : failures_of l.writer ≡ failures_of l.initial.writer;
  stands : Stands l.words (words_left l.item-iterator) (place_of l.item-iterator);
  progress : (cutting : Cutting l.words) → Progress l.at cutting.items cutting.end cutting.rest (words_left l.item-iterator) (place_of l.item-iterator)
      (g.W.Write.contents (stream_of l.initial.writer)) (g.W.Write.contents (stream_of l.writer));
}
