use Rattle.std.proofs.Common.{◌≡◌}
use Rattle.dvg_game_check.proofs.Slots.{from_on}
use Rattle.dvg_game_check.proofs.follow.serve.Given as goal

abbrev pub invariant-loop-i : goal.invariant-loop-i
invariant-loop-i l = from_on l.i l.new l.known ≡ from_on 0 l.new l.known
