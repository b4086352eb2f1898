use Rattle.std.proofs.Common.{◌≡◌, ℕ, ◌||◌, take}
use Rattle.dvg_game_check.specs.Why.{listed}
use Rattle.dvg_game.proofs.order.causes_first.Given as goal

abbrev pub invariant-loop-broken : goal.invariant-loop-broken
invariant-loop-broken g l =
    (at : ℕ) → (listed l.causes.items at || listed l.others.items at) ≡ listed (take l.broken-index l.all) at
