use Rattle.std.proofs.Common.{ℕ, ◌<◌, get_or}
use Rattle.dvg_game_check.specs.Offered.{IsFineTable}
use Rattle.dvg_game_check.proofs.offered.bad_table.Given as goal

abbrev pub invariant-loop-i : goal.invariant-loop-i
invariant-loop-i g l = (k : ℕ) → k < l.i → IsFineTable l.vectors l.rom (get_or l.tables k 0)
