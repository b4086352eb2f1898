use Rattle.std.proofs.Common.{[], ◌∷◌, refl, Some, None, codes}
use Rattle.dvg_named.specs.Examples.{halts, puts, ship}
use Rattle.dvg_named.proofs.examples.places.Goals as goal

pub returns-clause-number : goal.returns-clause-number
returns-clause-number c =
    record {
      before = puts ∷ [];
      named = record {
        row = record { name = Some (codes "rock"); doing = None };
        after = halts ∷ [];
        cut = refl;
        gives = refl;
      };
      count = refl;
    }

pub returns-clause-address : goal.returns-clause-address
returns-clause-address c = record {
  earlier = [];
  section = record { start = 0x8A0; rows = puts ∷ ship ∷ [] };
  later = [];
  cut = refl;
  before = puts ∷ [];
  named = record { row = ship; after = []; cut = refl; gives = refl };
  place = refl;
}
