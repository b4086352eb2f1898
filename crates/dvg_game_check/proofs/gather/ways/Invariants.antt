use Rattle.std.proofs.Common.{◌≡◌, length}
use Rattle.dvg_game_check.proofs.gather.ways.Given as goal

abbrev pub invariant-loop-i-2 : goal.invariant-loop-i-2
invariant-loop-i-2 g l = length l.ways.items ≡ l.i
