use Rattle.std.proofs.Common.{◌≡◌, length}
use Rattle.dvg_game_check.proofs.work.filled.Given as goal

abbrev pub invariant-loop : goal.invariant-loop
invariant-loop g l = length l.all.items ≡ l.counter
