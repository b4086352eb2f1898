use Rattle.std.proofs.Common.{◌≡◌, map, take}
use Rattle.std.specs.Prelude.{All}
use Rattle.dvg_game.specs.Telling.{IsLineOf, addresses}
use Rattle.dvg_game.proofs.telling.lines_of.Given as goal

abbrev pub invariant-loop-broken : goal.invariant-loop-broken
invariant-loop-broken g l = (addresses l.lines.items ≡ map (λ broken. broken.at) (take l.broken-index l.all)) × All IsLineOf l.lines.items
