-- A life that has a place is one that the script allows, and one that rests is of whole parts.
use Rattle.std.proofs.Common.{◌≡◌, ℕ, suc, Bool, true, false, List, [], ◌∷◌, ◌++◌, refl, sym, ◌∙◌, ap, Some, None, reverse, append_assoc, nat_eq, ◌&&◌, eqb-true}
use mathlib.Core.List.{reverse-cons, append-nil}
use Rattle.std.specs.Prelude.{if◌then◌else◌}
use Rattle.dvg_driver.specs.declared.action.Action.TheVariants.{Peek, Wrote, Read, Sent, Idle}
use Rattle.dvg_driver.specs.Script.{Item, Offered, Asked, Did, Part, Rest, Frame, Redraw, frame_writes, wrote, waited, script, whole_life, IsWhole, IsLife}
use Rattle.dvg_driver.specs.Place.{Place, Start, Booting, Resting, Writing, Waiting, Sending, next_place, place_of_life, with_left, after_write}
use Rattle.dvg_driver.proofs.Places.{place_before, some_same}

-- the peek at byte 001, and the first wait
abbrev boot : ℕ → List Item
boot reads = Did Peek ∷ waited reads

-- no frame part stands before what follows these parts
abbrev first_after : Bool → List Part → Bool
first_after first [] = first
first_after first (Rest ∷ parts) = first_after first parts
first_after first (Frame half F reads ∷ parts) = first_after false parts
first_after first (Redraw reads ∷ parts) = first_after first parts

script-append : (first : Bool) (parts later : List Part) → script first (parts ++ later) ≡ script first parts ++ script (first_after first parts) later
script-append first [] later = refl
script-append first (Rest ∷ parts) later = ap (λ items. Did Idle ∷ items) (script-append first parts later)
script-append first (Frame half F reads ∷ parts) later = rw (script-append false parts later) (simp append_assoc)
script-append first (Redraw reads ∷ parts) later = rw (script-append first parts later) (simp append_assoc)

first_after-append : (first : Bool) (parts later : List Part) → first_after first (parts ++ later) ≡ first_after (first_after first parts) later
first_after-append first [] later = refl
first_after-append first (Rest ∷ parts) later = first_after-append first parts later
first_after-append first (Frame half F reads ∷ parts) later = first_after-append false parts later
first_after-append first (Redraw reads ∷ parts) later = first_after-append first parts later

-- the items are whole parts, the oldest first
abbrev IsWholeList : Bool → List Item → Type 0
IsWholeList first items = (reads : ℕ) × (parts : List Part) × (items ≡ whole_life reads parts) × (first_after true parts ≡ first)

-- what completes the part, where the flag is still read this many times while it shows the generator running
abbrev ending : Place → ℕ → List Item
ending Start reads = boot reads
ending Booting reads = waited reads
ending (Resting first) reads = []
ending (Writing writes) reads = wrote writes ++ (waited reads ++ Did Sent ∷ [])
ending (Waiting first) reads = waited reads ++ Did Sent ∷ []
ending (Sending first) reads = Did Sent ∷ []

-- no frame part stands before what follows the completed part
abbrev first_then : Place → Bool
first_then Start = true
first_then Booting = true
first_then (Resting first) = first
first_then (Writing writes) = false
first_then (Waiting first) = first
first_then (Sending first) = first

-- completed in each such way, the items are whole parts
abbrev Completes : Place → List Item → Type 0
Completes place items = (reads : ℕ) → IsWholeList (first_then place) (items ++ ending place reads)

-- one more part after whole ones
part_more : (first : Bool) (items : List Item) (part : Part) → IsWholeList first items → IsWholeList (first_after first (part ∷ [])) (items ++ script first (part ∷ []))
part_more first items part whole = (
  whole.0,
  whole.1 ++ part ∷ [],
  ap (λ list. list ++ script first (part ∷ [])) whole.2 ∙ append_assoc (boot whole.0) (script true whole.1) (script first (part ∷ []))
      ∙ ap (λ list. boot whole.0 ++ list) (ap (λ flag. script true whole.1 ++ script flag (part ∷ [])) (sym whole.3) ∙ sym (script-append true whole.1 (part ∷ []))),
  first_after-append true whole.1 (part ∷ []) ∙ ap (λ flag. first_after flag (part ∷ [])) whole.3,
)

-- the item begins what was to come
goes_on : (from to : Place) (items : List Item) (item : Item) → first_then from ≡ first_then to → ((reads : ℕ) → (all : ℕ) × (ending from all ≡ item ∷ ending to reads)) → Completes from items → Completes to (items ++ item ∷ [])
goes_on from to items item first ends completes reads =
    let whole = completes (ends reads).0 in
    (whole.0, whole.1, append_assoc items (item ∷ []) (ending to reads) ∙ ap (λ list. items ++ list) (sym (ends reads).1) ∙ whole.2, whole.3 ∙ first)

-- the item begins a part
begins : (first : Bool) (to : Place) (items : List Item) (item : Item) (part : ℕ → Part) → ((reads : ℕ) → script first (part reads ∷ []) ≡ item ∷ ending to reads)
    → ((reads : ℕ) → first_after first (part reads ∷ []) ≡ first_then to) → Completes (Resting first) items → Completes to (items ++ item ∷ [])
begins first to items item part script_is first_is completes reads =
    let before = completes 0 in
    let whole = part_more first items (part reads) (before.0, before.1, sym (append-nil items) ∙ before.2, before.3) in
    (whole.0, whole.1, append_assoc items (item ∷ []) (ending to reads) ∙ ap (λ list. items ++ list) (sym (script_is reads)) ∙ whole.2, whole.3 ∙ first_is reads)

left_ends : (writes : List (ℕ × ℕ)) (reads : ℕ) → ending (with_left writes) reads ≡ wrote writes ++ (waited reads ++ Did Sent ∷ [])
left_ends [] reads = refl
left_ends (write ∷ writes) reads = refl

left_first : (writes : List (ℕ × ℕ)) → first_then (with_left writes) ≡ false
left_first [] = refl
left_first (write ∷ writes) = refl

-- a write that fits is the first of those that were to come
write_ends : (writes : List (ℕ × ℕ)) (a byte : ℕ) (to : Place) → after_write writes a byte ≡ Some to → (first_then to ≡ false) × ((reads : ℕ) → ending (Writing writes) reads ≡ Did (Wrote a byte) ∷ ending to reads)
write_ends [] a byte to is = absurd (cc)
write_ends (write ∷ writes) a byte to is = by_tests (nat_eq write.0 a) (nat_eq write.1 byte) refl refl is
  where
    by_tests : (s t : Bool) → nat_eq write.0 a ≡ s → nat_eq write.1 byte ≡ t → (if s && t then Some (with_left writes) else None) ≡ Some to
        → (first_then to ≡ false) × ((reads : ℕ) → ending (Writing (write ∷ writes)) reads ≡ Did (Wrote a byte) ∷ ending to reads)
    by_tests true true same_a same_byte fits = rw (← some_same fits) (left_first writes, λ reads. rw (eqb-true write.0 a same_a, eqb-true write.1 byte same_byte, left_ends writes reads) refl)
    by_tests true false same_a same_byte fits = absurd (cc)
    by_tests false t same_a same_byte fits = absurd (cc)

step : (from to : Place) (items : List Item) (item : Item) → next_place from item ≡ Some to → Completes from items → Completes to (items ++ item ∷ [])
step Start to items (Did Peek) is completes = rw (← some_same is) (goes_on Start Booting items (Did Peek) refl (λ reads. (reads, refl)) completes)
step Booting to items (Did (Read true)) is completes = rw (← some_same is) (goes_on Booting (Resting true) items (Did (Read true)) refl (λ reads. (0, refl)) completes)
step Booting to items (Did (Read false)) is completes = rw (← some_same is) (goes_on Booting Booting items (Did (Read false)) refl (λ reads. (suc reads, refl)) completes)
step (Resting first) to items (Offered half F) is completes = rw (← some_same is) (begins first (Writing (frame_writes half F first)) items (Offered half F) (λ reads. Frame half F reads) (λ reads. refl) (λ reads. refl) completes)
step (Resting first) to items Asked is completes = rw (← some_same is) (begins first (Waiting first) items Asked (λ reads. Redraw reads) (λ reads. refl) (λ reads. refl) completes)
step (Resting first) to items (Did Idle) is completes = rw (← some_same is) (begins first (Resting first) items (Did Idle) (λ reads. Rest) (λ reads. refl) (λ reads. refl) completes)
step (Writing writes) to items (Did (Wrote a byte)) is completes = let ends = write_ends writes a byte to is in goes_on (Writing writes) to items (Did (Wrote a byte)) (sym ends.0) (λ reads. (reads, ends.1 reads)) completes
step (Waiting first) to items (Did (Read true)) is completes = rw (← some_same is) (goes_on (Waiting first) (Sending first) items (Did (Read true)) refl (λ reads. (0, refl)) completes)
step (Waiting first) to items (Did (Read false)) is completes = rw (← some_same is) (goes_on (Waiting first) (Waiting first) items (Did (Read false)) refl (λ reads. (suc reads, refl)) completes)
step (Sending first) to items (Did Sent) is completes = rw (← some_same is) (goes_on (Sending first) (Resting first) items (Did Sent) refl (λ reads. (0, refl)) completes)
step _ to items _ is completes = absurd (cc)

completed : (life : List Item) (place : Place) → place_of_life life ≡ Some place → Completes place (reverse life)
completed [] place is = rw (← some_same is) (λ reads. (reads, [], sym (append-nil (boot reads)), refl))
completed (item ∷ life) place is =
    let before = place_before item life place is in
    rw (reverse-cons item life) (step before.0 place (reverse life) item before.2 (completed life before.0 before.1))

-- a life that has a place is one that the script allows
pub place_life : (life : List Item) (place : Place) → place_of_life life ≡ Some place → IsLife life
place_life life place is = let whole = completed life place is 0 in (whole.0, whole.1, ending place 0, whole.2)

-- a life that rests is of whole parts
pub rests_whole : (life : List Item) (first : Bool) → place_of_life life ≡ Some (Resting first) → IsWhole life
rests_whole life first is = let whole = completed life (Resting first) is 0 in (whole.0, whole.1, sym (append-nil (reverse life)) ∙ whole.2)
