-- What a driver answers, call by call, and after which life it stands then.
use Rattle.std.proofs.Common.{◌≡◌, ◌↔◌, ℕ, Bool, true, false, List, [], ◌∷◌, Some}
use Rattle.std.proofs.Common.{refl, sym, ap, ◌∙◌, subst}
use Rattle.std.specs.Prelude.{Result, Ok, Err, IsOk, IfErr, OnErr, OnOk}
use Rattle.dvg_mem.specs.declared.half.Half.TheVariants.{H0}
use Rattle.dvg_driver.specs.declared.action.Action.{Action}
use Rattle.dvg_driver.specs.declared.action.Action.TheVariants.{Peek, Read, Wrote, Sent, Idle}
use Rattle.dvg_driver.specs.declared.fault.DriverFault.{DriverFault}
use Rattle.dvg_driver.specs.declared.fault.DriverFault.TheVariants.{Busy, NothingPublished}
use Rattle.dvg_driver.specs.Script.{Item, Asked, Did, Offered, IsLife, IsWhole, has_flip}
use Rattle.dvg_driver.specs.Place.{Place, Resting, place_of_life}
use Rattle.dvg_driver.specs.Stands.{Driving, ShowsFlag, Stage, StandsAfter, peeked_after}
use Rattle.dvg_driver.proofs.Shapes.{place_life}
use Rattle.dvg_driver.proofs.Places.{whole_rests}
use Rattle.test_facts.specs.Facts.{vector_frame}
use Rattle.test_facts.proofs.Clients.{one_next}

-- a life whose place is no rest is not of whole parts
pub not_whole_at : (life : List Item) (place : Place) → place_of_life life ≡ Some place
    → ((first : Bool) → Some place ≡ Some (Resting first) → ⊥) → ¬ IsWhole life
not_whole_at life place is other whole =
    let rests = whole_rests life whole in other rests.0 (sym is ∙ rests.1)

-- what is refused leaves the stage
pub same_stage : (s t : Driving) (answer : Result Unit DriverFault) → OnErr answer (t ≡ s)
    → OnErr answer (t.stage ≡ s.stage)
same_stage s t (Ok u) same = tt
same_stage s t (Err fault) same = ap (λ (driving : Driving). driving.stage) same

module _ {s t : Stage} (peeked : ℕ) (life : List Item) (stands : StandsAfter s peeked life) where
  -- a tick does what comes next in the life
  pub ticked : {a : Action} (byte1 : ℕ) (halted : Bool) (does : Action) (to : Place)
      → place_of_life (Did does ∷ life) ≡ Some to → ShowsFlag does halted
      → (StandsAfter s peeked life → StandsAfter t (peeked_after a byte1 peeked) (Did a ∷ life))
      → (StandsAfter s peeked life → IsLife (Did a ∷ life)) → ShowsFlag a halted
      → (a ≡ does) × StandsAfter t (peeked_after does byte1 peeked) (Did does ∷ life)
  ticked {a = a} byte1 halted does to is tells next scripted told =
      let comes = place_life (Did does ∷ life) to is in
      let same = one_next life halted a does (scripted stands) comes told tells in
      let family = λ (x : Action). StandsAfter t (peeked_after x byte1 peeked) (Did x ∷ life) in
      (same, subst family same (next stands))

  -- what is refused changes nothing
  kept : (answer : Result Unit DriverFault) (fault : DriverFault)
      → answer ≡ Err fault → OnErr answer (t ≡ s)
      → (answer ≡ Err fault) × StandsAfter t peeked life
  kept answer fault is refused =
      let same : t ≡ s = subst (λ r. OnErr r (t ≡ s)) is refused in
      (is, subst (λ x. StandsAfter x peeked life) (sym same) stands)

  -- what is taken makes the life longer
  pub taken : (answer : Result Unit DriverFault) (item : Item) → IsOk answer
      → OnOk answer (StandsAfter t peeked (item ∷ life))
      → (answer ≡ Ok tt) × StandsAfter t peeked (item ∷ life)
  taken (Ok u) item ok next = (refl, next)
  taken (Err fault) item ok next = absurd (cc)

  -- an offer in the midst of a part
  pub offer_busy : (answer : Result Unit DriverFault) → (IsOk answer ↔ IsWhole life)
      → IfErr answer (λ fault. fault ≡ Busy)
      → OnErr answer (t ≡ s) → ¬ IsWhole life → (answer ≡ Err Busy) × StandsAfter t peeked life
  offer_busy (Ok u) accepted busy refused none = absurd (none (accepted.0 refl))
  offer_busy (Err fault) accepted busy refused none =
      kept (Err fault) Busy (ap Err busy) refused

  -- a redraw before anything is published
  pub redraw_nothing : (answer : Result Unit DriverFault)
      → ((answer ≡ Err NothingPublished) ↔ (has_flip life ≡ false))
      → OnErr answer (t ≡ s) → has_flip life ≡ false
      → (answer ≡ Err NothingPublished) × StandsAfter t peeked life
  redraw_nothing answer nothing refused none =
      kept answer NothingPublished (nothing.1 none) refused

  -- a redraw later, in the midst of a part
  pub redraw_busy : (answer : Result Unit DriverFault)
      → (IsOk answer ↔ ((has_flip life ≡ true) × IsWhole life))
      → ((answer ≡ Err NothingPublished) ↔ (has_flip life ≡ false))
      → OnErr answer (t ≡ s) → has_flip life ≡ true → ¬ IsWhole life
      → (answer ≡ Err Busy) × StandsAfter t peeked life
  redraw_busy (Ok u) accepted nothing refused flipped none =
      absurd (none (accepted.0 refl).1)
  redraw_busy (Err Busy) accepted nothing refused flipped none =
      kept (Err Busy) Busy refl refused
  redraw_busy (Err NothingPublished) accepted nothing refused flipped none =
      let not_yet : has_flip life ≡ false = nothing.0 refl in absurd (cc)

-- the lives of the table
abbrev pub life0 : List Item
life0 = []

abbrev pub life1 : List Item
life1 = Did Peek ∷ life0

abbrev pub life2 : List Item
life2 = Did (Read false) ∷ life1

abbrev pub life3 : List Item
life3 = Did (Read true) ∷ life2

abbrev pub life4 : List Item
life4 = Did Idle ∷ life3

abbrev pub life5 : List Item
life5 = Offered H0 vector_frame ∷ life4

abbrev pub life6 : List Item
life6 = Did (Wrote 0x002 0x90) ∷ life5

abbrev pub life7 : List Item
life7 = Did (Wrote 0x003 0xA1) ∷ life6

abbrev pub life8 : List Item
life8 = Did (Wrote 0x004 0x00) ∷ life7

abbrev pub life9 : List Item
life9 = Did (Wrote 0x005 0x02) ∷ life8

abbrev pub life10 : List Item
life10 = Did (Wrote 0x006 0x64) ∷ life9

abbrev pub life11 : List Item
life11 = Did (Wrote 0x007 0x90) ∷ life10

abbrev pub life12 : List Item
life12 = Did (Wrote 0x008 0x64) ∷ life11

abbrev pub life13 : List Item
life13 = Did (Wrote 0x009 0x74) ∷ life12

abbrev pub life14 : List Item
life14 = Did (Wrote 0x00A 0x00) ∷ life13

abbrev pub life15 : List Item
life15 = Did (Wrote 0x00B 0xB0) ∷ life14

abbrev pub life16 : List Item
life16 = Did (Wrote 0x000 0x01) ∷ life15

abbrev pub life17 : List Item
life17 = Did (Wrote 0x001 0xE0) ∷ life16

abbrev pub life18 : List Item
life18 = Did (Read true) ∷ life17

abbrev pub life19 : List Item
life19 = Did Sent ∷ life18

abbrev pub life20 : List Item
life20 = Asked ∷ life19

abbrev pub life21 : List Item
life21 = Did (Read true) ∷ life20

abbrev pub life22 : List Item
life22 = Did Sent ∷ life21
