use Rattle.std.proofs.Common.{◌≡◌, ◌-◌, ◌++◌, length, map}
use Rattle.dvg_game_check.specs.Least.{stacked}
use Rattle.dvg_game_check.specs.Rules.{slot_meant}
use Rattle.dvg_game_check.proofs.state.slots_of.Given as goal

abbrev pub invariant-loop-i : goal.invariant-loop-i
invariant-loop-i l = (length l.slots.items ≡ l.i)
    × (map slot_meant l.slots.items ++ stacked l.state.slots (l.depth - l.i) ≡ stacked l.state.slots l.depth)
