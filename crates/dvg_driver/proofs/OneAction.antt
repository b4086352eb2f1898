-- Exactly one action goes on a life, for each flag that is handed in.
use Rattle.std.proofs.Common.{◌≡◌, ℕ, ◌*◌, Bool, true, false, List, [], ◌∷◌, refl, sym, ap, ◌∙◌, subst, Some, None, nat_eq, ◌&&◌, eqb-true}
use Rattle.std.specs.Prelude.{if◌then◌else◌, option_and_then}
use Rattle.dvg_driver.specs.declared.action.Action.{Action}
use Rattle.dvg_driver.specs.declared.action.Action.TheVariants.{Peek, Wrote, Read, Sent, Idle}
use Rattle.dvg_mem.specs.Areas.{base}
use Rattle.dvg_frame.specs.Bytes.{addressed, bytes}
use Rattle.dvg_frame.specs.Layout.{laid}
use Rattle.dvg_driver.specs.Script.{Item, Offered, Did, frame_writes}
use Rattle.dvg_driver.specs.Place.{Place, Start, Booting, Resting, Writing, Waiting, Sending, next_place, place_of_life, with_left, after_write}
use Rattle.dvg_driver.specs.Stands.{ShowsFlag}
use Rattle.dvg_driver.specs.Laws.{OneAction}
use Rattle.dvg_driver.proofs.Places.{life_place, place_before, some_same, with_left-append, write_fits}
use Rattle.dvg_driver.proofs.Shapes.{place_life}

-- a write that fits is the first of those that were to come
first_write : (writes : List (ℕ × ℕ)) (a byte : ℕ) (to : Place) → after_write writes a byte ≡ Some to → (more : List (ℕ × ℕ)) × (writes ≡ (a, byte) ∷ more) × (with_left more ≡ to)
first_write [] a byte to is = absurd (cc)
first_write (write ∷ writes) a byte to is = by_tests (nat_eq write.0 a) (nat_eq write.1 byte) refl refl is
  where
    by_tests : (s t : Bool) → nat_eq write.0 a ≡ s → nat_eq write.1 byte ≡ t → (if s && t then Some (with_left writes) else None) ≡ Some to → (more : List (ℕ × ℕ)) × (write ∷ writes ≡ (a, byte) ∷ more) × (with_left more ≡ to)
    by_tests true true same_a same_byte fits = (writes, ap (λ x. (x, write.1) ∷ writes) (eqb-true write.0 a same_a) ∙ ap (λ x. (a, x) ∷ writes) (eqb-true write.1 byte same_byte), some_same fits)
    by_tests true false same_a same_byte fits = absurd (cc)
    by_tests false t same_a same_byte fits = absurd (cc)

heads : {x y : ℕ × ℕ} {xs ys : List (ℕ × ℕ)} → x ∷ xs ≡ y ∷ ys → x ≡ y
heads is = cc

same_write : (writes : List (ℕ × ℕ)) (a byte b other : ℕ) (to there : Place) → after_write writes a byte ≡ Some to → after_write writes b other ≡ Some there → Wrote b other ≡ Wrote a byte
same_write writes a byte b other to there is also =
    let one = first_write writes a byte to is in
    let two = first_write writes b other there also in
    let same : (b, other) ≡ (a, byte) = heads (sym two.1 ∙ one.1) in
    ap (λ write. Wrote write.0 write.1) same

-- at a place at most one action fits
at_most_one : (place to there : Place) (one other : Action) (halted : Bool) → next_place place (Did one) ≡ Some to → next_place place (Did other) ≡ Some there → ShowsFlag one halted → ShowsFlag other halted → other ≡ one
at_most_one Start to there Peek Peek halted is also told tells = refl
at_most_one Booting to there (Read a) (Read b) halted is also told tells = ap Read (tells ∙ sym told)
at_most_one (Resting first) to there Idle Idle halted is also told tells = refl
at_most_one (Writing writes) to there (Wrote a byte) (Wrote b other) halted is also told tells = same_write writes a byte b other to there is also
at_most_one (Waiting first) to there (Read a) (Read b) halted is also told tells = ap Read (tells ∙ sym told)
at_most_one (Sending first) to there Sent Sent halted is also told tells = refl
at_most_one _ to there _ _ halted is also told tells = absurd (cc)

-- no life stands where no write is to come, and yet one is
not_emptied : (writes : List (ℕ × ℕ)) → with_left writes ≡ Writing [] → ⊥
not_emptied [] is = absurd (cc)
not_emptied (write ∷ writes) is = absurd (cc)

never_empties : (before : Place) (item : Item) → next_place before item ≡ Some (Writing []) → ⊥
never_empties Start (Did Peek) is = absurd (cc)
never_empties Booting (Did (Read true)) is = absurd (cc)
never_empties Booting (Did (Read false)) is = absurd (cc)
never_empties (Resting first) (Offered half F) is = not_emptied (frame_writes half F first) (with_left-append (addressed (2 * base half) (bytes (laid half F))) half first ∙ some_same is)
never_empties (Resting first) (Did Idle) is = absurd (cc)
never_empties (Writing writes) (Did (Wrote a byte)) is = let write = first_write writes a byte (Writing []) is in not_emptied write.0 write.2
never_empties (Waiting first) (Did (Read true)) is = absurd (cc)
never_empties (Waiting first) (Did (Read false)) is = absurd (cc)
never_empties (Sending first) (Did Sent) is = absurd (cc)
never_empties _ _ is = absurd (cc)

never_emptied : (life : List Item) → place_of_life life ≡ Some (Writing []) → ⊥
never_emptied [] is = absurd (cc)
never_emptied (item ∷ life) is = let before = place_before item life (Writing []) is in never_empties before.0 item before.2

-- at a place some action fits
some_action : (place : Place) (halted : Bool) → (place ≡ Writing [] → ⊥) → (action : Action) × (to : Place) × (next_place place (Did action) ≡ Some to) × ShowsFlag action halted
some_action Start halted some = (Peek, Booting, refl, tt)
some_action Booting halted some = (Read halted, (if halted then Resting true else Booting), refl, refl)
some_action (Resting first) halted some = (Idle, Resting first, refl, tt)
some_action (Writing []) halted some = absurd (some refl)
some_action (Writing (write ∷ writes)) halted some = (Wrote write.0 write.1, with_left writes, write_fits write.0 write.1 writes, tt)
some_action (Waiting first) halted some = (Read halted, (if halted then Sending first else Waiting first), refl, refl)
some_action (Sending first) halted some = (Sent, Resting first, refl, tt)

pub one_action : OneAction
one_action life halted begun =
    let here = life_place life begun in
    let does = some_action here.0 halted (λ emptied. never_emptied life (here.1 ∙ ap Some emptied)) in (
      does.0,
      place_life (Did does.0 ∷ life) does.1 (ap (option_and_then (λ place. next_place place (Did does.0))) here.1 ∙ does.2),
      does.3,
      λ other also tells.
          let there = life_place (Did other ∷ life) also in
          let before = place_before (Did other) life there.0 there.1 in
          let same : before.0 ≡ here.0 = some_same (sym before.1 ∙ here.1) in
          at_most_one here.0 does.1 there.0 does.0 other halted does.2 (subst (λ place. next_place place (Did other) ≡ Some there.0) same before.2) does.3 tells,
    )
