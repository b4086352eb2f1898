use Rattle.std.proofs.Common.{All, map, take}
use Rattle.dvg_named.specs.FirstUnknown.{WantsIn, WantsNone, all_sections}
use Rattle.dvg_named.specs.LaidValues.{laid_sections}
use Rattle.dvg_named.specs.LineNumbers.{entries_from}
use Rattle.dvg_named.specs.SketchReading.{section_in}
use Rattle.dvg_named.proofs.unknown.first_unknown.Given as goal

abbrev pub invariant-loop-part : goal.invariant-loop-part
invariant-loop-part g l = record {
  none : All (λ entry. ¬ WantsIn (laid_sections l.laid) (all_sections l.closed l.last) entry)
      (entries_from 0 (take l.part-index l.closed));
  known : All (WantsNone (laid_sections l.laid)) (map section_in (take l.part-index l.closed));
}
