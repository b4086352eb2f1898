-- The writes of a frame part that are still to come.
use Rattle.std.proofs.Common.{◌≡◌, ℕ, suc, ◌+◌, ◌*◌, ◌/◌, ◌≤◌, List, [], ◌∷◌, ◌++◌, length, refl, sym, ◌∙◌, subst, Some, Bool, true, false, arith}
use Rattle.dvg_mem.specs.declared.half.Half.{Half}
use Rattle.dvg_mem.specs.Areas.{IsInHalf, base, high}
use Rattle.dvg_frame.specs.declared.op.OpKind.{OpKind}
use Rattle.dvg_frame.specs.Bytes.{addressed, bytes}
use Rattle.dvg_frame.specs.Layout.{laid}
use Rattle.dvg_frame.specs.Steps.{Closed}
use Rattle.dvg_frame.proofs.Bytes.{bytes-length}
use Rattle.dvg_frame.proofs.Sizes.{closed_fits}
use Rattle.dvg_driver.specs.Script.{word_zero, frame_writes}
use Rattle.dvg_driver.specs.Place.{Place, Waiting, Writing, with_left, after_write}
use Rattle.dvg_theorem.proofs.DrawnHalf.{in_half}
use Rattle.dvg_theorem.proofs.Writes.{written}

-- into this half, with z in byte 000 now: bytes of the half, then word zero, so that byte 000 holds 1 at the flip
pub data ToCome (half : Half) : ℕ → List (ℕ × ℕ) → Type 0 where
  at_flip : ToCome half 1 ((1, high half) ∷ [])
  at_first : {z : ℕ} {ws : List (ℕ × ℕ)} → ToCome half 1 ws → ToCome half z ((0, 1) ∷ ws)
  at_half : {z a b : ℕ} {ws : List (ℕ × ℕ)} → IsInHalf half (a / 2) → ToCome half z ws → ToCome half z ((a, b) ∷ ws)

to_come_addressed : (half : Half) (z a : ℕ) (bs : List ℕ) (ws : List (ℕ × ℕ)) → 2 * base half ≤ a → a + length bs ≤ 2 * base half + 1022 → ToCome half z ws → ToCome half z (addressed a bs ++ ws)
to_come_addressed half z a [] ws l u t = t
to_come_addressed half z a (b ∷ bs) ws l u t = at_half (in_half half a l (omega arith)) (to_come_addressed half z (suc a) bs ws (omega arith) (omega arith) t)

to_come_zero : (half : Half) (z : ℕ) (first : Bool) → (first ≡ false → z ≡ 1) → ToCome half z (word_zero half first)
to_come_zero half z true e = at_first at_flip
to_come_zero half z false e = let P : ℕ → Type 0 = λ v. ToCome half v (word_zero half false) in subst P (sym (e refl)) at_flip

-- at the beginning of a frame part
pub to_come_frame : (half : Half) (z : ℕ) (F : List OpKind) (R : List ℕ) (first : Bool) → Closed F R → (first ≡ false → z ≡ 1) → ToCome half z (frame_writes half F first)
to_come_frame half z F R first c e =
    let fits = closed_fits half F R c in
    let len = bytes-length (laid half F) in
    to_come_addressed half z (2 * base half) (bytes (laid half F)) (word_zero half first) (omega arith) (omega arith) (to_come_zero half z first e)

-- what a write of the script is
pub data IsWrite (half : Half) (z a b : ℕ) (q : Place) : Type 0 where
  to_half : IsInHalf half (a / 2) → (ws : List (ℕ × ℕ)) → q ≡ Writing ws → ToCome half z ws → IsWrite half z a b q
  to_zero : a ≡ 0 → b ≡ 1 → (ws : List (ℕ × ℕ)) → q ≡ Writing ws → ToCome half 1 ws → IsWrite half z a b q
  to_one : a ≡ 1 → b ≡ high half → q ≡ Waiting false → z ≡ 1 → IsWrite half z a b q

not_done : (half : Half) (z : ℕ) (ws : List (ℕ × ℕ)) → ToCome half z ws → with_left ws ≡ Writing ws
not_done half z ws at_flip = refl
not_done half z ws (at_first t) = refl
not_done half z ws (at_half i t) = refl

pub is_write : (half : Half) (z : ℕ) (ws : List (ℕ × ℕ)) → ToCome half z ws → (a b : ℕ) (q : Place) → after_write ws a b ≡ Some q → IsWrite half z a b q
is_write half z ws at_flip a b q e =
    let w = written 1 a (high half) b [] q e in
    to_one (sym w.0) (sym w.1) (sym w.2) refl
is_write half z ws (at_first {ws = vs} t) a b q e =
    let w = written 0 a 1 b vs q e in
    to_zero (sym w.0) (sym w.1) vs (sym w.2 ∙ not_done half 1 vs t) t
is_write half z ws (at_half {a = c} {b = d} {ws = vs} i t) a b q e =
    let w = written c a d b vs q e in
    to_half (subst (λ x. IsInHalf half (x / 2)) w.0 i) vs (sym w.2 ∙ not_done half z vs t) t
