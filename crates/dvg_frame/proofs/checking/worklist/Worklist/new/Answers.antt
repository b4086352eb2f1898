use Rattle.std.proofs.Common.{refl, replicate, subst, sym, false}
use Rattle.dvg_frame.specs.own.Growth.{AreMarked}
use Rattle.dvg_frame.specs.declared.checking.pair.TheConstants.{PAIRS}
use Rattle.dvg_frame.proofs.Marks.{none_marked}
use Rattle.dvg_frame.proofs.checking.worklist.Worklist.new.Goals as goal

pub invariant_of-result : goal.invariant_of-result
invariant_of-result c = subst (AreMarked (replicate PAIRS false)) (sym c.new.ensures) (none_marked _ _ refl refl)
