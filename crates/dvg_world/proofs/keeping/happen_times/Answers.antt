use Rattle.std.proofs.Common.{arith}
use Rattle.dvg_log.specs.Traces.{seen_as}
use Rattle.dvg_world.specs.Standing.{shown_in}
use Rattle.dvg_world.proofs.IdleOffers.{keeps_over}
use Rattle.dvg_world.proofs.LinesOfOneEvent.{keeps_begin, keeps_next, keeps_rest, keeps_stops}
use Rattle.dvg_world.proofs.keeping.happen_times.Goals as goal

pub loop-done-init : goal.loop-done-init
loop-done-init g c = record { kept = keeps_begin c.args.number (seen_as c.args.event); left = omega arith }

pub loop-done-preserved : goal.loop-done-preserved
loop-done-preserved g c =
    let left = c.loop-done.invariant.left in
    let more = c.keep.ensures.left in
    record {
      kept = keeps_next c.loop-done.invariant.kept (shown_in c.happen.new.self c.in-Ok.entry) c.in-Ok.ensures.stands
          c.keep.ensures.stands c.keep.ensures.kept;
      left = omega (arith, left, more);
    }

pub returns-then-not-is_idle-clause-kept : goal.returns-then-not-is_idle-clause-kept
returns-then-not-is_idle-clause-kept g c =
    keeps_over c.args.event c.is_idle.result c.requires.brings (c.passes_over.ensures c.if-passes_over.true)
    c.is_idle.ensures c.if-not-is_idle.true (omega arith) (keeps_begin c.args.number (seen_as c.args.event))

pub returns-then-changes_nothing-clause-kept : goal.returns-then-changes_nothing-clause-kept
returns-then-changes_nothing-clause-kept g c =
    let world = c.happen.new.self in
    keeps_rest c.loop-done.invariant.kept c.args.times (shown_in world c.in-Ok.entry) c.loop-done-test.true
    c.in-Ok.ensures.stands (c.in-Ok.ensures.same (c.changes_nothing.ensures c.if-changes_nothing.true))
    (c.keep_alike.ensures.kept world.machine.picture)

pub returns-in-Err-clause-stops : goal.returns-in-Err-clause-stops
returns-in-Err-clause-stops g c =
    keeps_stops c.loop-done.invariant.kept c.args.times c.loop-done-test.true c.in-Err.ensures.room c.in-Err.ensures.refused
