use Rattle.std.proofs.Common.{◌≡◌, ◌<◌, ◌≤◌, ◌⊎◌, ℕ, false, true, get_or}
use Rattle.dvg_rows.proofs.rom_area.mark.Given as goal

abbrev pub invariant-loop-place : goal.invariant-loop-place
invariant-loop-place l = record {
  marked : (a : ℕ) → l.first ≤ a → a < l.place → get_or l.taken a false ≡ true;
  others : (a : ℕ) → (a < l.first) ⊎ (l.place ≤ a) → get_or l.taken a false ≡ get_or l.fn.taken a false;
}
