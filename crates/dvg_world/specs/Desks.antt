-- What a driver at its desk answers.
use Rattle.std.specs.Prelude.{◌≡◌, ℕ, Bool, true, false, List, [], ◌∷◌}
use Rattle.dvg_mem.specs.Areas.{half_of_high, other}
use Rattle.dvg_frame.specs.declared.op.OpKind.{OpKind}
use Rattle.dvg_frame.specs.Faults.{Accepts}
use Rattle.dvg_frame.specs.Faults as faults
use Rattle.dvg_driver.specs.declared.action.Action.{Action}
use Rattle.dvg_driver.specs.Script as script
use Rattle.dvg_driver.specs.Script.{Item, Did, IsLife, IsWhole, has_flip}
use Rattle.dvg_driver.specs.Stands.{Driving, StandsAfter, ShowsFlag, IsInRam, byte1_of, peeked_after}
use Rattle.dvg_log.specs.declared.entry.Entry.{Entry}
use Rattle.dvg_log.specs.declared.entry.Entry.TheVariants.{Offered, Refused, Busy, Asked, NothingPublished}

-- the ROM over which its drafts are checked, and the driver
pub record Driven : Type 0 where
  pub rom : List ℕ
  pub driver : Driving

-- the driver was just reset, over this ROM
abbrev pub IsFresh : List ℕ → Driven → Type 0
IsFresh R driven = (driven.rom ≡ R) × ((peeked : ℕ) → StandsAfter driven.driver.stage peeked [])

-- this holds of each life that the driver stands after, at whose peek this byte was handed in
abbrev pub OfLives : Driving → (ℕ → List Item → Type 0) → Type 0
OfLives driver P = (peeked : ℕ) (life : List Item) → StandsAfter driver.stage peeked life → P peeked life

-- an offer: a draft that the check refuses is refused for the fault that is picked; one that it accepts goes on the
-- life where that is of whole parts, for the half that is free
abbrev pub OfferAnswers : List ℕ → List OpKind → Driving → Driving → Entry (Unit {0}) → Type 0
OfferAnswers R F driver later (Refused fault) = faults.Refuses F R fault × (later ≡ driver)
OfferAnswers R F driver later Busy =
    Accepts F R × (later ≡ driver) × OfLives driver (λ peeked life. ¬ IsWhole life)
OfferAnswers R F driver later Offered = Accepts F R × OfLives driver (λ peeked life. IsWhole life
    × StandsAfter later.stage peeked (script.Offered (other (half_of_high (byte1_of peeked life))) F ∷ life))
OfferAnswers R F driver later entry = ⊥

-- a redraw: before the life's first flip there is nothing to draw again. After it, the redraw is
-- taken where the life is of whole parts, and else the driver is busy
abbrev pub RedrawAnswers : Driving → Driving → Entry (Unit {0}) → Type 0
RedrawAnswers driver later NothingPublished =
    (later ≡ driver) × OfLives driver (λ peeked life. has_flip life ≡ false)
RedrawAnswers driver later Busy =
    (later ≡ driver) × OfLives driver (λ peeked life. (has_flip life ≡ true) × ¬ IsWhole life)
RedrawAnswers driver later Asked = OfLives driver (λ peeked life. (has_flip life ≡ true) × IsWhole life
    × StandsAfter later.stage peeked (script.Asked ∷ life))
RedrawAnswers driver later entry = ⊥

-- a tick: the action is the next one of the script, shows the HALT flag that was handed in, and writes in the RAM alone
abbrev pub TickAnswers : Bool → ℕ → Driving → Driving → Action → Type 0
TickAnswers halted byte1 driver later action = ShowsFlag action halted × IsInRam action
    × OfLives driver (λ peeked life. IsLife (Did action ∷ life)
    × StandsAfter later.stage (peeked_after action byte1 peeked) (Did action ∷ life))
