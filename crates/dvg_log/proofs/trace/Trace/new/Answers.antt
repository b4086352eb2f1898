use Rattle.std.proofs.Common.{refl}
use Rattle.dvg_log.proofs.Traces.{none_kept}
use Rattle.dvg_log.proofs.trace.Trace.new.Goals as goal

pub invariant_of-result : goal.invariant_of-result
invariant_of-result g c = none_kept c.new.result.items c.new-2.result.items c.new-3.result.items c.new-4.result.items _ c.new.ensures.items c.new-2.ensures.items c.new-3.ensures.items c.new-4.ensures.items refl
