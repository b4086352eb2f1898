-- A life in which no frame part was begun has no flip.
use Rattle.std.proofs.Common.{◌≡◌, ℕ, Bool, true, false, List, [], ◌∷◌, refl, sym, ◌∙◌, ap, Some, None, ◌&&◌, ◌||◌, nat_eq}
use Rattle.std.specs.Prelude.{if◌then◌else◌}
use Rattle.std.proofs.lemmas.Option.{same_Some}
use Rattle.dvg_driver.specs.declared.action.Action.TheVariants.{Peek, Wrote, Read, Sent, Idle}
use Rattle.dvg_driver.specs.Script.{Item, Offered, Asked, Did, has_flip}
use Rattle.dvg_driver.specs.Place.{Place, Start, Booting, Resting, Writing, Waiting, Sending, next_place, place_of_life, with_left, after_write}
use Rattle.dvg_driver.proofs.Places.{place_before}

-- no frame part was begun before this place
abbrev pub is_first : Place → Bool
is_first Start = true
is_first Booting = true
is_first (Resting first) = first
is_first (Writing ws) = false
is_first (Waiting first) = first
is_first (Sending first) = first

after_read : (halted : Bool) (p q r : Place) → is_first p ≡ is_first q → Some (if halted then p else q) ≡ Some r → is_first r ≡ is_first q
after_read true p q r h e = sym (ap is_first (same_Some _ _ e)) ∙ h
after_read false p q r h e = sym (ap is_first (same_Some _ _ e))

never_after_write : (ws : List (ℕ × ℕ)) (a b : ℕ) (q : Place) → after_write ws a b ≡ Some q → is_first q ≡ true → ⊥
never_after_write [] a b q e f = cc
never_after_write (w ∷ ws) a b q e f = both (nat_eq w.0 a && nat_eq w.1 b) ws e
  where
    both : (t : Bool) (vs : List (ℕ × ℕ)) → (if t then Some (with_left vs) else None) ≡ Some q → ⊥
    both true [] d = absurd (cc)
    both true (v ∷ vs) d = absurd (cc)
    both false vs d = absurd (cc)

-- the item is a flip: a write of byte 001
abbrev pub flips : Item → Bool
flips (Did (Wrote a byte)) = nat_eq a 1
flips _ = false

-- a life has a flip where its newest item is one, or the items before have one
pub has_flip_more : (item : Item) (life : List Item) → has_flip (item ∷ life) ≡ (flips item || has_flip life)
has_flip_more (Offered half F) life = refl
has_flip_more Asked life = refl
has_flip_more (Did Peek) life = refl
has_flip_more (Did (Wrote a byte)) life = refl
has_flip_more (Did (Read halted)) life = refl
has_flip_more (Did Sent) life = refl
has_flip_more (Did Idle) life = refl

step : (p : Place) (item : Item) (q : Place) → next_place p item ≡ Some q → is_first q ≡ true → (is_first p ≡ true) × (flips item ≡ false)
step Start (Did Peek) q e f = (refl, refl)
step Booting (Did (Read halted)) q e f = (refl, refl)
step (Resting first) (Offered half F) q e f = absurd (cc)
step (Resting first) Asked q e f = (ap is_first (same_Some _ _ e) ∙ f, refl)
step (Resting first) (Did Idle) q e f = (ap is_first (same_Some _ _ e) ∙ f, refl)
step (Writing ws) (Did (Wrote a b)) q e f = absurd (never_after_write ws a b q e f)
step (Waiting first) (Did (Read halted)) q e f = (sym (after_read halted (Sending first) (Waiting first) q refl e) ∙ f, refl)
step (Sending first) (Did Sent) q e f = (ap is_first (same_Some _ _ e) ∙ f, refl)
step _ _ q e f = absurd (cc)

pub no_flip : (life : List Item) (p : Place) → place_of_life life ≡ Some p → is_first p ≡ true → has_flip life ≡ false
no_flip [] p e f = refl
no_flip (item ∷ life) p e f =
    let before = place_before item life p e in
    let h = step before.0 item p before.2 f in
    has_flip_more item life ∙ rw (h.1, no_flip life before.0 before.1 h.0)
