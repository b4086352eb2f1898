-- Two lists of the same length, place by place.
use Rattle.std.proofs.Common.{◌≡◌, ◌<◌, ℕ, zero, suc, List, [], ◌∷◌, ◌++◌, length, get_or, refl, ap, arith}
use Rattle.std.specs.List.{AllZip}

module _ {A B : Type 0} (R : A → B → Type 0) where
  pub zip_push : (xs : List A) (ys : List B) (x : A) (y : B) → AllZip R xs ys → R x y → AllZip R (xs ++ x ∷ []) (ys ++ y ∷ [])
  zip_push [] [] x y h r = (r, tt)
  zip_push [] (b ∷ ys) x y h r = absurd h
  zip_push (a ∷ xs) [] x y h r = absurd h
  zip_push (a ∷ xs) (b ∷ ys) x y h r = (h.0, zip_push xs ys x y h.1 r)

  pub zip_length : (xs : List A) (ys : List B) → AllZip R xs ys → length xs ≡ length ys
  zip_length [] [] h = refl
  zip_length [] (b ∷ ys) h = absurd h
  zip_length (a ∷ xs) [] h = absurd h
  zip_length (a ∷ xs) (b ∷ ys) h = ap suc (zip_length xs ys h.1)

  -- what goes with the item at a place
  pub zip_at : (xs : List A) (ys : List B) (k : ℕ) (d : B) → AllZip R xs ys → k < length ys → (x : A) × R x (get_or ys k d)
  zip_at [] [] k d h l = absurd (omega arith)
  zip_at [] (b ∷ ys) k d h l = absurd h
  zip_at (a ∷ xs) [] k d h l = absurd h
  zip_at (a ∷ xs) (b ∷ ys) zero d h l = (a, h.0)
  zip_at (a ∷ xs) (b ∷ ys) (suc k) d h l = zip_at xs ys k d h.1 (omega arith)

  -- the items go with one list only, where each goes with one item only
  pub zip_same : ((x y : A) (z : B) → R x z → R y z → x ≡ y) → (xs ys : List A) (zs : List B) → AllZip R xs zs → AllZip R ys zs → xs ≡ ys
  zip_same u [] [] [] h k = refl
  zip_same u [] [] (z ∷ zs) h k = absurd h
  zip_same u [] (y ∷ ys) [] h k = absurd k
  zip_same u [] (y ∷ ys) (z ∷ zs) h k = absurd h
  zip_same u (x ∷ xs) ys [] h k = absurd h
  zip_same u (x ∷ xs) [] (z ∷ zs) h k = absurd k
  zip_same u (x ∷ xs) (y ∷ ys) (z ∷ zs) h k = let e = u x y z h.0 k.0 in let f = zip_same u xs ys zs h.1 k.1 in cc
