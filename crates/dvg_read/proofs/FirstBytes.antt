-- The first place of a byte in a text, and what it cuts.
use Rattle.std.proofs.Common.{◌≡◌, ◌<◌, ◌≤◌, ◌+◌, ◌-◌, ℕ, List, ◌∷◌, ◌++◌, length, get_or, take, drop, sym, ap, subst, ◌∙◌, arith, true, false, eqb, All, MatchOption, Option, Some, None, add-one, ⊎_elim}
use Rattle.std.proofs.Math.Seq.{split_at}
use Rattle.std.proofs.lemmas.List.{length-take, length-drop, get_or-take, get_or-drop, get_or_default, take_rest}
use Rattle.std.proofs.lemmas.Bool.{cases_lt, eqb-true, false_from_ne_true}
use borrow.Author.Count.{below_more}
use Rattle.memchr.specs.Find.{IsFirstByte, is_byte}

-- each of these bytes is another
abbrev pub HasNone : ℕ → List ℕ → Type 0
HasNone c = All (λ byte. eqb byte c ≡ false)

-- the bytes after place i
abbrev pub behind : ℕ → List ℕ → List ℕ
behind i bytes = take (length bytes - (i + 1)) (drop (i + 1) bytes)

-- a text is cut at its first byte c: it has none, or this one ends the bytes before it
abbrev pub IsCutAt : ℕ → List ℕ → Option ℕ → Type 0
IsCutAt c bytes place = MatchOption place (HasNone c bytes)
    (λ i. (end : ℕ) × (bytes ≡ take i bytes ++ end ∷ behind i bytes) × HasNone c (take i bytes) × (eqb end c ≡ true))

none_before : (c : ℕ) (bytes : List ℕ) (i : ℕ) → i < length bytes → ((k : ℕ) → k < i → eqb (get_or bytes k 0) c ≡ true → ⊥) → HasNone c (take i bytes)
none_before c bytes i inside others k d l =
    let low : k < i = omega (arith, length-take i bytes) in
    let same = get_or_default bytes k 0 d (omega (arith, inside, low)) in
    rw get_or-take (false_from_ne_true (eqb (get_or bytes k d) c) (λ is. others k low (ap (λ byte. eqb byte c) same ∙ is)))

-- as a search for the byte finds it
pub cut_at_first : (c : ℕ) (bytes : List ℕ) (place : Option ℕ) → IsFirstByte (is_byte c) bytes place → IsCutAt c bytes place
cut_at_first c bytes None nowhere = λ k d inside.
    false_from_ne_true (eqb (get_or bytes k d) c) (λ is. nowhere k (omega arith) inside (ap (λ byte. eqb byte c) (get_or_default bytes k 0 d inside) ∙ is))
cut_at_first c bytes (Some i) (first, there) =
    let inside = first.high in
    let halves : bytes ≡ take i bytes ++ get_or bytes i 0 ∷ behind i bytes = rw (take_rest bytes (i + 1)) (rw add-one (split_at bytes i 0 inside)) in
    (get_or bytes i 0, halves, none_before c bytes i inside (λ k low. first.before k (omega arith) low), there)

-- none of the first n bytes is c
abbrev pub NoneFirst : ℕ → List ℕ → ℕ → Type 0
NoneFirst c bytes n = (k : ℕ) → k < n → eqb (get_or bytes k 0) c ≡ true → ⊥

-- nor is it with one more that is another, as a copy of the text's head tells
pub none_more : (c n : ℕ) (bytes head : List ℕ) (i : ℕ) → head ≡ take n bytes → i < n → NoneFirst c bytes i → (get_or head i 0 ≡ c → ⊥) → NoneFirst c bytes (i + 1)
none_more c n bytes head i is inside none other =
    let same : get_or head i 0 ≡ get_or bytes i 0 = ap (λ l. get_or l i 0) is ∙ get_or-take n bytes i 0 inside in
    below_more (λ k. eqb (get_or bytes k 0) c ≡ true → ⊥) i none (λ hit. other (same ∙ eqb-true (get_or bytes i 0) c hit))

-- a search after the first n bytes, which have none
pub none_later : (c n : ℕ) (bytes : List ℕ) → n ≤ length bytes → NoneFirst c bytes n → IsFirstByte (is_byte c) (take (length bytes - n) (drop n bytes)) None → IsFirstByte (is_byte c) bytes None
none_later c n bytes fits none later = none_in (subst (λ l. IsFirstByte (is_byte c) l None) (take_rest bytes n) later)
  where
    none_in : IsFirstByte (is_byte c) (drop n bytes) None → IsFirstByte (is_byte c) bytes None
    none_in later k low high hit = ⊎_elim (λ near. none k near hit)
        (λ far. later (k - n) (omega arith) (omega (arith, high, far, length-drop n bytes))
        (let there : n + (k - n) ≡ k = omega (arith, far) in ap (λ byte. eqb byte c) (get_or-drop n bytes (k - n) 0 ∙ ap (λ j. get_or bytes j 0) there) ∙ hit))
        (cases_lt k n)

pub first_later : (c n : ℕ) (bytes : List ℕ) (i : ℕ) → n ≤ length bytes → NoneFirst c bytes n → IsFirstByte (is_byte c) (take (length bytes - n) (drop n bytes)) (Some i) → IsFirstByte (is_byte c) bytes (Some (n + i))
first_later c n bytes i fits none later = first_in (subst (λ l. IsFirstByte (is_byte c) l (Some i)) (take_rest bytes n) later)
  where
    first_in : IsFirstByte (is_byte c) (drop n bytes) (Some i) → IsFirstByte (is_byte c) bytes (Some (n + i))
    first_in (first, there) = (
      record {
        low = omega arith;
        high = omega (arith, first.high, length-drop n bytes, fits);
        before = λ k low high hit. ⊎_elim (λ near. none k near hit)
            (λ far. first.before (k - n) (omega arith) (omega (arith, high, far))
            (let there : n + (k - n) ≡ k = omega (arith, far) in ap (λ byte. eqb byte c) (get_or-drop n bytes (k - n) 0 ∙ ap (λ j. get_or bytes j 0) there) ∙ hit))
            (cases_lt k n);
      },
      ap (λ byte. eqb byte c) (sym (get_or-drop n bytes i 0)) ∙ there,
    )
