use Rattle.std.proofs.Common.{arith, refl}
use Rattle.dvg_frame.proofs.Swept.{few_ops, begins_sweep, is_reached, pair_in, stays, fine_step, bad_step, found_pair, finish, all_up_to}
use Rattle.dvg_frame.proofs.checking.sweep.sweep.Goals as goal
use Rattle.dvg_frame.proofs.checking.sweep.sweep.Goals.{in-Ok, in-Err}

pub loop-done-init : goal.loop-done-init
loop-done-init g c = begins_sweep _ _ (few_ops _ c.requires.begins) c.requires.begins _ _ _ c.requires.empty refl c.add.ensures

pub look-requires-clause-inside : goal.look-requires-clause-inside
look-requires-clause-inside g c =
    pair_in _ _ (few_ops _ c.requires.begins) c.requires.begins _ (is_reached _ _ (few_ops _ c.requires.begins) c.requires.begins _ _ _ c.loop-done.invariant _ c.at-pair.ensures.value)

pub spread-requires-clause-stays : goal.spread-requires-clause-stays
spread-requires-clause-stays g c = stays _ _ (few_ops _ c.requires.begins) c.requires.begins _ _ c.at-pair.ensures.valid c.in-Ok.ensures.0 c.in-Ok.ensures.1

pub first_of-requires-clause-best_valid : goal.first_of-requires-clause-best_valid
first_of-requires-clause-best_valid g c = found_pair _ _ (few_ops _ c.requires.begins) c.requires.begins _ c.loop-done.invariant.found

pub loop-done-preserved : goal.loop-done-preserved
loop-done-preserved g c =
    elim c.match-look.branch [
      | in-Ok w ↦ fine_step _ _ (few_ops _ c.requires.begins) c.requires.begins _ _ _ c.loop-done.invariant _ c.at-pair.ensures.value _ _ _ _ w.in-Ok.ensures.0 w.in-Ok.ensures.1 w.spread.ensures w.list-is w.best-is
      | in-Err w ↦ bad_step _ _ (few_ops _ c.requires.begins) c.requires.begins _ _ _ c.loop-done.invariant _ c.at-pair.ensures.value _ _ _ _ w.in-Err.ensures w.first_of.ensures.one w.first_of.ensures.new w.first_of.ensures.old w.list-is w.best-is
    ]

pub returns : goal.returns
returns g c =
    finish _ _ (few_ops _ c.requires.begins) c.requires.begins _ c.loop-done.invariant.found (all_up_to _ _ (few_ops _ c.requires.begins) c.requires.begins _ _ _ c.loop-done.invariant (omega arith))
