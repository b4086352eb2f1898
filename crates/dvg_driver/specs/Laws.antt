-- Laws of the script.
use Rattle.std.specs.Prelude.{◌≡◌, ◌↔◌, Bool, List, ◌∷◌, Some}
use Rattle.dvg_driver.specs.declared.action.Action.{Action}
use Rattle.dvg_driver.specs.Script.{Item, Did, IsLife, IsWhole}
use Rattle.dvg_driver.specs.Place.{Place, Resting, place_of_life}
use Rattle.dvg_driver.specs.Stands.{ShowsFlag}

-- a life has a place exactly where the script allows it, and rests exactly where it is of whole parts
abbrev pub PlaceTells : Type 0
PlaceTells = (life : List Item)
    → (IsLife life ↔ ((place : Place) × (place_of_life life ≡ Some place)))
    × (IsWhole life ↔ ((first : Bool) × (place_of_life life ≡ Some (Resting first))))

-- for each flag that is handed in, exactly one action goes on a life
abbrev pub OneAction : Type 0
OneAction = (life : List Item) (halted : Bool) → IsLife life
    → (action : Action) × IsLife (Did action ∷ life) × ShowsFlag action halted
    × ((other : Action) → IsLife (Did other ∷ life) → ShowsFlag other halted → other ≡ action)
