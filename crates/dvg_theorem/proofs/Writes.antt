-- The writes of a frame part, by their number.
use Rattle.std.proofs.Common.{◌≡◌, ℕ, zero, suc, ◌+◌, ◌*◌, ◌<◌, ◌≤◌, Bool, true, false, List, [], ◌∷◌, ◌++◌, length, drop, slice_get, slice_index, refl, ap, Some, None, ◌&&◌, nat_eq, add-zero, arith}
use Rattle.std.specs.Prelude.{if◌then◌else◌}
use Rattle.std.proofs.lemmas.Option.{same_Some}
use Rattle.std.proofs.lemmas.Bool.{eqb-true}
use Rattle.dvg_mem.specs.declared.half.Half.{Half}
use Rattle.dvg_mem.specs.Areas.{base}
use Rattle.dvg_frame.specs.declared.op.OpKind.{OpKind}
use Rattle.dvg_frame.specs.Bytes.{addressed, bytes}
use Rattle.dvg_frame.specs.Layout.{laid}
use Rattle.dvg_frame.proofs.Bytes.{bytes-length}
use Rattle.dvg_driver.specs.Script.{word_zero, frame_writes}
use Rattle.dvg_driver.specs.Place.{Place, with_left, after_write}

-- a write that comes is the first of those that are left
pub written : (w v : ℕ) (u b : ℕ) (ws : List (ℕ × ℕ)) (q : Place) → after_write ((w, u) ∷ ws) v b ≡ Some q → (w ≡ v) × (u ≡ b) × (with_left ws ≡ q)
written w v u b ws q e = both (nat_eq w v) (nat_eq u b) refl refl e
  where
    both : (s t : Bool) → nat_eq w v ≡ s → nat_eq u b ≡ t → (if s && t then Some (with_left ws) else None) ≡ Some q → (w ≡ v) × (u ≡ b) × (with_left ws ≡ q)
    both true true es et d = (eqb-true w v es, eqb-true u b et, same_Some _ _ d)
    both true false es et d = absurd (cc)
    both false t es et d = absurd (cc)

-- after this many writes
pub written_at : (ws : List (ℕ × ℕ)) (n a b : ℕ) (q : Place) → after_write (drop n ws) a b ≡ Some q → (slice_get ws n ≡ Some (a, b)) × (with_left (drop (suc n) ws) ≡ q)
written_at [] zero a b q e = absurd (cc)
written_at [] (suc n) a b q e = absurd (cc)
written_at (w ∷ ws) zero a b q e =
    let h = written w.0 a w.1 b ws q e in
    (rw (← h.0, ← h.1), h.2)
written_at (w ∷ ws) (suc n) a b q e = written_at ws n a b q e

addressed_byte : (a : ℕ) (bs : List ℕ) (ws : List (ℕ × ℕ)) (k : ℕ) → k < length bs → slice_get (addressed a bs ++ ws) k ≡ Some (a + k, slice_index bs k)
addressed_byte a [] ws k l = absurd (omega arith)
addressed_byte a (b ∷ bs) ws zero l = rw add-zero
addressed_byte a (b ∷ bs) ws (suc k) l =
    let e : suc a + k ≡ a + suc k = omega arith in
    rw (← e) (addressed_byte (suc a) bs ws k (omega arith))

-- the first ones are of the frame's bytes, in order
pub write_byte : (half : Half) (F : List OpKind) (first : Bool) (k : ℕ) → k < 2 * length (laid half F) → slice_get (frame_writes half F first) k ≡ Some (2 * base half + k, slice_index (bytes (laid half F)) k)
write_byte half F first k l = addressed_byte (2 * base half) (bytes (laid half F)) (word_zero half first) k (let count = bytes-length (laid half F) in omega arith)

late_at : (half : Half) (first : Bool) (at : ℕ) (bs : List ℕ) (k a b : ℕ) → length bs ≤ k → slice_get (addressed at bs ++ word_zero half first) k ≡ Some (a, b) → a < 2
late_at half true at [] zero a b l e = let d = ap (λ w. w.0) (same_Some _ _ e) in omega arith
late_at half true at [] (suc zero) a b l e = let d = ap (λ w. w.0) (same_Some _ _ e) in omega arith
late_at half true at [] (suc (suc k)) a b l e = absurd (cc)
late_at half false at [] zero a b l e = let d = ap (λ w. w.0) (same_Some _ _ e) in omega arith
late_at half false at [] (suc k) a b l e = absurd (cc)
late_at half first at (c ∷ bs) zero a b l e = absurd (omega arith)
late_at half first at (c ∷ bs) (suc k) a b l e = late_at half first (suc at) bs k a b (omega arith) e

-- and the others of word zero
pub write_late : (half : Half) (F : List OpKind) (first : Bool) (k a b : ℕ) → 2 * length (laid half F) ≤ k → slice_get (frame_writes half F first) k ≡ Some (a, b) → a < 2
write_late half F first k a b l e = late_at half first (2 * base half) (bytes (laid half F)) k a b (let count = bytes-length (laid half F) in omega arith) e
