-- A driver at rest has written a frame part in its life exactly where there is a flip in it.
use Rattle.std.proofs.Common.{◌≡◌, ℕ, ◌*◌, Bool, true, false, not, List, [], ◌∷◌, ◌++◌, Some, refl, sym, ap, subst, nat_eq}
use Rattle.std.specs.Prelude.{◌||◌}
use Rattle.std.proofs.lemmas.Option.{same_Some}
use Rattle.dvg_mem.specs.declared.half.Half.{Half}
use Rattle.dvg_mem.specs.Areas.{base}
use Rattle.dvg_frame.specs.declared.op.OpKind.{OpKind}
use Rattle.dvg_frame.specs.Bytes.{addressed, bytes}
use Rattle.dvg_frame.specs.Layout.{laid}
use Rattle.dvg_driver.specs.declared.action.Action.TheVariants.{Peek, Wrote, Read, Sent, Idle}
use Rattle.dvg_driver.specs.Script.{Item, Offered, Asked, Did, has_flip, word_zero, frame_writes}
use Rattle.dvg_driver.specs.Place.{Place, Start, Booting, Resting, Writing, Waiting, Sending, next_place, place_of_life, with_left}
use Rattle.dvg_driver.proofs.Places.{place_before}
use Rattle.dvg_theorem.proofs.Flips.{flips, has_flip_more, no_flip}
use Rattle.dvg_theorem.proofs.Writes.{written}

-- the last of these writes is a flip
pub data EndsInFlip : List (ℕ × ℕ) → Type 0 where
  here : {byte : ℕ} → EndsInFlip ((1, byte) ∷ [])
  past : {write : ℕ × ℕ} {writes : List (ℕ × ℕ)} → EndsInFlip writes → EndsInFlip (write ∷ writes)

zero_ends : (half : Half) (first : Bool) → EndsInFlip (word_zero half first)
zero_ends half true = past here
zero_ends half false = here

both_end : (writes more : List (ℕ × ℕ)) → EndsInFlip more → EndsInFlip (writes ++ more)
both_end [] more ends = ends
both_end (write ∷ writes) more ends = past (both_end writes more ends)

pub frame_ends : (half : Half) (F : List OpKind) (first : Bool) → EndsInFlip (frame_writes half F first)
frame_ends half F first = both_end (addressed (2 * base half) (bytes (laid half F)))
    (word_zero half first) (zero_ends half first)

-- what a life has at its place: a flip, once a frame part was written
abbrev Has : Place → Bool → Type 0
Has (Resting false) flipped = flipped ≡ true
Has (Waiting false) flipped = flipped ≡ true
Has (Sending false) flipped = flipped ≡ true
Has (Writing writes) flipped = EndsInFlip writes
Has place flipped = Unit {0}

or_true : (one other : Bool) → other ≡ true → (one || other) ≡ true
or_true true other e = refl
or_true false other e = e

none_end : EndsInFlip [] → ⊥
none_end ends = elim ends [ ]

after_one : (write : ℕ × ℕ) (writes : List (ℕ × ℕ)) (a byte : ℕ) (to : Place) (flipped : Bool)
    → EndsInFlip (write ∷ writes) → write.0 ≡ a → with_left writes ≡ to → Has to (nat_eq a 1 || flipped)
after_one write [] a byte to flipped here at left = subst (λ p. Has p (nat_eq a 1 || flipped)) left (rw (← at) refl)
after_one write [] a byte to flipped (past ends) at left = absurd (none_end ends)
after_one write (next ∷ writes) a byte to flipped (past ends) at left =
    subst (λ p. Has p (nat_eq a 1 || flipped)) left ends

step : (place to : Place) (item : Item) (flipped : Bool) → next_place place item ≡ Some to
    → Has place flipped → Has to (flips item || flipped)
step Start to (Did Peek) flipped next has = subst (λ p. Has p flipped) (same_Some _ _ next) tt
step Booting to (Did (Read true)) flipped next has = subst (λ p. Has p flipped) (same_Some _ _ next) tt
step Booting to (Did (Read false)) flipped next has = subst (λ p. Has p flipped) (same_Some _ _ next) tt
step (Resting first) to (Offered half F) flipped next has =
    subst (λ p. Has p flipped) (same_Some _ _ next) (frame_ends half F first)
step (Resting true) to Asked flipped next has = subst (λ p. Has p flipped) (same_Some _ _ next) tt
step (Resting false) to Asked flipped next has = subst (λ p. Has p flipped) (same_Some _ _ next) has
step (Resting true) to (Did Idle) flipped next has = subst (λ p. Has p flipped) (same_Some _ _ next) tt
step (Resting false) to (Did Idle) flipped next has = subst (λ p. Has p flipped) (same_Some _ _ next) has
step (Writing []) to (Did (Wrote a byte)) flipped next has = absurd (none_end has)
step (Writing (write ∷ writes)) to (Did (Wrote a byte)) flipped next has = let is =
    written write.0 a write.1 byte writes to next in
    after_one write writes a byte to flipped has is.0 is.2
step (Waiting true) to (Did (Read true)) flipped next has = subst (λ p. Has p flipped) (same_Some _ _ next) tt
step (Waiting true) to (Did (Read false)) flipped next has = subst (λ p. Has p flipped) (same_Some _ _ next) tt
step (Waiting false) to (Did (Read true)) flipped next has = subst (λ p. Has p flipped) (same_Some _ _ next) has
step (Waiting false) to (Did (Read false)) flipped next has = subst (λ p. Has p flipped) (same_Some _ _ next) has
step (Sending true) to (Did Sent) flipped next has = subst (λ p. Has p flipped) (same_Some _ _ next) tt
step (Sending false) to (Did Sent) flipped next has = subst (λ p. Has p flipped) (same_Some _ _ next) has
step _ to _ flipped next has = absurd (cc)

has_at : (life : List Item) (place : Place) → place_of_life life ≡ Some place → Has place (has_flip life)
has_at [] place stands = subst (λ p. Has p false) (same_Some _ _ stands) tt
has_at (item ∷ life) place stands =
    let before = place_before item life place stands in
    subst (Has place) (sym (has_flip_more item life))
    (step before.0 place item (has_flip life) before.2 (has_at life before.0 before.1))

-- at rest
pub rests_flipped : (life : List Item) (first : Bool) → place_of_life life ≡ Some (Resting first)
    → first ≡ not (has_flip life)
rests_flipped life true stands = ap not (sym (no_flip life (Resting true) stands refl))
rests_flipped life false stands = ap not (sym (has_at life (Resting false) stands))
