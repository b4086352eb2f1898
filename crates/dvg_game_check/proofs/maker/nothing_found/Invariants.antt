use Rattle.std.proofs.Common.{◌≡◌, ℕ, get_or, length}
use Rattle.std.specs.Prelude.{None}
use Rattle.dvg_game_check.proofs.maker.nothing_found.Given as goal

abbrev pub invariant-loop : goal.invariant-loop
invariant-loop g l = (length l.states.items ≡ l.counter) × ((k : ℕ) → get_or l.states.items k None ≡ None)
