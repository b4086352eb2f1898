use Rattle.std.proofs.Common.{◌≡◌, length}
use Rattle.dvg_game_check.proofs.maker.unnoted.Given as goal

abbrev pub invariant-loop : goal.invariant-loop
invariant-loop g l = length l.notes.items ≡ l.counter
