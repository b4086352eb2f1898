use Rattle.std.proofs.Common.{ℕ, ◌<◌, ◌%◌, ◌/◌, get_or}
use Rattle.dvg_game_check.specs.Offered.{IsFineWord}
use Rattle.dvg_game_check.proofs.offered.bad_word.Given as goal

abbrev pub invariant-loop-i : goal.invariant-loop-i
invariant-loop-i g l = (k : ℕ) → k < l.i → IsFineWord l.rom (get_or l.words k 0 % 256) (get_or l.words k 0 / 256)
