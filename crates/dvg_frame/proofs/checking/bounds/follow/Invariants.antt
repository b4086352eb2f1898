use Rattle.std.proofs.Common.{◌≡◌, ◌++◌, List, length}
use Rattle.dvg_frame.specs.declared.place.Place.{Place}
use Rattle.dvg_frame.specs.Steps.{Reached}
use Rattle.dvg_frame.specs.own.Ways.{IsPlaceOf}
use Rattle.dvg_frame.specs.own.Tables.{AllFine, IsTable, KeepsKnown, Linked}
use Rattle.dvg_frame.proofs.checking.bounds.follow.Given as goal

abbrev pub invariant-loop-step : goal.invariant-loop-step
invariant-loop-step g l = record {
  entries : IsTable l.draft l.rom l.table;
  kept : KeepsKnown l.fn.table l.table;
  passed : List Place;
  is : l.chain ≡ l.fn.chain ++ passed;
  linked : Linked l.draft l.rom l.fn.start.depth l.fn.start.place passed l.place;
  count : length passed ≡ l.step;
  inside : IsPlaceOf l.draft l.rom l.place;
  reached : AllFine l.draft l.rom → Reached l.draft l.rom l.place l.fn.start.depth;
}
