-- A life that the script allows has a place, and one of whole parts rests.
use Rattle.std.proofs.Common.{◌≡◌, ℕ, zero, suc, ◌*◌, Bool, true, false, List, [], ◌∷◌, ◌++◌, refl, sym, ◌∙◌, ap, Option, Some, None, reverse, eq-eqb}
use mathlib.Core.List.{reverse-cons}
use Rattle.std.specs.Prelude.{option_and_then}
use Rattle.dvg_mem.specs.declared.half.Half.{Half}
use Rattle.dvg_mem.specs.Areas.{base}
use Rattle.dvg_frame.specs.Bytes.{addressed, bytes}
use Rattle.dvg_frame.specs.Layout.{laid}
use Rattle.dvg_driver.specs.declared.action.Action.TheVariants.{Sent}
use Rattle.dvg_driver.specs.Script.{Item, Did, Part, Rest, Frame, Redraw, frame_writes, wrote, waited, script, whole_life, IsWhole, IsLife, word_zero}
use Rattle.dvg_driver.specs.Place.{Place, Start, Booting, Resting, Writing, Waiting, Sending, next_place, place_of_life, with_left, after_write}

pub some_same : {A : Type 0} {x y : A} → Some x ≡ Some y → x ≡ y
some_same is = cc

pub and_then_twice : {A B C : Type 0} (f : A → Option B) (g : B → Option C) (o : Option A) → option_and_then g (option_and_then f o) ≡ option_and_then (λ a. option_and_then g (f a)) o
and_then_twice f g None = refl
and_then_twice f g (Some a) = refl

and_then_same : {A B : Type 0} (f g : A → Option B) → ((a : A) → f a ≡ g a) → (o : Option A) → option_and_then f o ≡ option_and_then g o
and_then_same f g same None = refl
and_then_same f g same (Some a) = same a

pub and_then_parts : {A B : Type 0} (f : A → Option B) (o : Option A) (b : B) → option_and_then f o ≡ Some b → (a : A) × (o ≡ Some a) × (f a ≡ Some b)
and_then_parts f None b is = absurd (cc)
and_then_parts f (Some a) b is = (a, refl, is)

and_then_Some : {A : Type 0} (o : Option A) → option_and_then (λ a. Some a) o ≡ o
and_then_Some None = refl
and_then_Some (Some a) = refl

-- the place before the newest item
pub place_before : (item : Item) (life : List Item) (place : Place) → place_of_life (item ∷ life) ≡ Some place → (before : Place) × (place_of_life life ≡ Some before) × (next_place before item ≡ Some place)
place_before item life place is = and_then_parts (λ before. next_place before item) (place_of_life life) place is

-- the place that items lead to, the oldest first
abbrev pub place_after : List Item → Place → Option Place
place_after [] place = Some place
place_after (item ∷ items) place = option_and_then (place_after items) (next_place place item)

place_after-append : (items more : List Item) (place : Place) → place_after (items ++ more) place ≡ option_and_then (place_after more) (place_after items place)
place_after-append [] more place = refl
place_after-append (item ∷ items) more place =
    and_then_same (place_after (items ++ more)) (λ there. option_and_then (place_after more) (place_after items there)) (place_after-append items more) (next_place place item)
    ∙ sym (and_then_twice (place_after items) (place_after more) (next_place place item))

place_after-reverse : (life : List Item) → place_after (reverse life) Start ≡ place_of_life life
place_after-reverse [] = refl
place_after-reverse (item ∷ life) =
    ap (λ items. place_after items Start) (reverse-cons item life) ∙ place_after-append (reverse life) (item ∷ []) Start
    ∙ ap (option_and_then (place_after (item ∷ []))) (place_after-reverse life)
    ∙ and_then_same (place_after (item ∷ [])) (λ place. next_place place item) (λ place. and_then_Some (next_place place item)) (place_of_life life)

-- what follows items that lead to a place
after_both : (items more : List Item) (from to : Place) → place_after items from ≡ Some to → place_after (items ++ more) from ≡ place_after more to
after_both items more from to is = place_after-append items more from ∙ ap (option_and_then (place_after more)) is

after_boot : (reads : ℕ) → place_after (waited reads) Booting ≡ Some (Resting true)
after_boot zero = refl
after_boot (suc reads) = after_boot reads

after_waited : (first : Bool) (reads : ℕ) → place_after (waited reads) (Waiting first) ≡ Some (Sending first)
after_waited first zero = refl
after_waited first (suc reads) = after_waited first reads

pub write_fits : (a byte : ℕ) (writes : List (ℕ × ℕ)) → after_write ((a, byte) ∷ writes) a byte ≡ Some (with_left writes)
write_fits a byte writes = rw (eq-eqb a a refl, eq-eqb byte byte refl)

after_wrote : (writes : List (ℕ × ℕ)) → place_after (wrote writes) (with_left writes) ≡ Some (Waiting false)
after_wrote [] = refl
after_wrote (write ∷ writes) = rw (write_fits write.0 write.1 writes) (after_wrote writes)

-- a frame part has a write
pub with_left-append : (writes : List (ℕ × ℕ)) (half : Half) (first : Bool) → with_left (writes ++ word_zero half first) ≡ Writing (writes ++ word_zero half first)
with_left-append [] half true = refl
with_left-append [] half false = refl
with_left-append (write ∷ writes) half first = refl

after_script : (parts : List Part) (first : Bool) → (later : Bool) × (place_after (script first parts) (Resting first) ≡ Some (Resting later))
after_script [] first = (first, refl)
after_script (Rest ∷ parts) first = after_script parts first
after_script (Frame half F reads ∷ parts) first =
    let rest = after_script parts false in
    let writes = frame_writes half F first in (
      rest.0,
      after_both (wrote writes) (waited reads ++ Did Sent ∷ script false parts) (Writing writes) (Waiting false)
          (ap (place_after (wrote writes)) (sym (with_left-append (addressed (2 * base half) (bytes (laid half F))) half first)) ∙ after_wrote writes)
          ∙ after_both (waited reads) (Did Sent ∷ script false parts) (Waiting false) (Sending false) (after_waited false reads) ∙ rest.1,
    )
after_script (Redraw reads ∷ parts) first =
    let rest = after_script parts first in
    (rest.0, after_both (waited reads) (Did Sent ∷ script first parts) (Waiting first) (Sending first) (after_waited first reads) ∙ rest.1)

after_whole : (reads : ℕ) (parts : List Part) → (first : Bool) × (place_after (whole_life reads parts) Start ≡ Some (Resting first))
after_whole reads parts =
    let rest = after_script parts true in
    (rest.0, after_both (waited reads) (script true parts) Booting (Resting true) (after_boot reads) ∙ rest.1)

-- a life of whole parts rests
pub whole_rests : (life : List Item) → IsWhole life → (first : Bool) × (place_of_life life ≡ Some (Resting first))
whole_rests life whole =
    let end = after_whole whole.0 whole.1 in
    (end.0, sym (place_after-reverse life) ∙ ap (λ items. place_after items Start) whole.2 ∙ end.1)

has_place : (o : Option Place) (more : List Item) (to : Place) → option_and_then (place_after more) o ≡ Some to → (place : Place) × (o ≡ Some place)
has_place None more to is = absurd (cc)
has_place (Some place) more to is = (place, refl)

-- a life that the script allows has a place
pub life_place : (life : List Item) → IsLife life → (place : Place) × (place_of_life life ≡ Some place)
life_place life begun =
    let end = after_whole begun.0 begun.1 in
    has_place (place_of_life life) begun.2 (Resting end.0)
    (sym (ap (option_and_then (place_after begun.2)) (place_after-reverse life)) ∙ sym (place_after-append (reverse life) begun.2 Start) ∙ ap (λ items. place_after items Start) begun.3 ∙ end.1)
