-- What tables of names tell, with a name more.
use Rattle.std.proofs.Common.{◌≡◌, ◌≤◌, ◌⊎◌, inl, inr, arith, ℕ, List, Bool, true, false, Option, Some, None, cond, refl, sym, ap, subst, ◌∙◌}
use Rattle.std.proofs.lemmas.Bool.{false≢true}
use Rattle.std.proofs.lemmas.Bool.Decides.{Decides-eqb}
use Rattle.std.specs.Prelude.{IfNone, IfSome, unwrap_or}
use Rattle.std.specs.Borrow.{Bor}
use Rattle.std.specs.Cmp.Lexicographic.{pointwise_decides}
use Rattle.dvg_rows.specs.declared.name_table.NameTable.{NameTable}
use Rattle.dvg_rows.specs.NameTables.{IsFound, IsLeast, IsLeastFound, TellsLeast, is_same, number_in, number_with}
use Rattle.dvg_rows.specs.RowValues.{name_of}

-- a table without names tells of the least of what is so of no name
pub least_none : {A : Type 0} (P : List ℕ → ℕ → Type 0) (table : NameTable A)
    → ((name : Bor (List ℕ)) → number_in table name ≡ None) → ((name : List ℕ) (number : ℕ) → ¬ P name number)
    → TellsLeast P table
least_none P table empty none name = subst (IsLeastFound (P name.now)) (sym (empty name)) (none name.now)

-- what a table tells of a name more, which has this number where it had none
module _ {A : Type 0} (given : Option (Bor (List ℕ))) (number : ℕ) (old new : NameTable A)
    (is : (other : Bor (List ℕ)) → number_in new other ≡ number_with old given number other)
    (F G : List ℕ → Option ℕ → Type 0)
    (kept : (name : List ℕ) (found : Option ℕ) → ¬ (name_of given ≡ Some name) → F name found → G name found)
    (here : (name : List ℕ) (found : Option ℕ) → name_of given ≡ Some name → F name found
    → G name (Some (unwrap_or found number))) where
  found_more : ((name : Bor (List ℕ)) → F name.now (number_in old name)) → (given_is : Option (Bor (List ℕ)))
      → given ≡ given_is → (other : Bor (List ℕ)) → G other.now (number_in new other)
  found_more tells None e other =
      subst (G other.now) (sym (is other ∙ ap (λ g. number_with old g number other) e))
      (kept other.now (number_in old other) (λ gives. let none : name_of given ≡ None = ap name_of e in absurd cc)
      (tells other))
  found_more tells (Some name) e other = by_same (is_same name other) refl
    where
      now : (b : Bool) → is_same name other ≡ b
          → number_in new other ≡ cond b (Some (unwrap_or (number_in old other) number)) (number_in old other)
      now b same =
          is other ∙ ap (λ g. number_with old g number other) e
          ∙ ap (λ b. cond b (Some (unwrap_or (number_in old other) number)) (number_in old other)) same

      by_same : (b : Bool) → is_same name other ≡ b → G other.now (number_in new other)
      by_same true same =
          subst (G other.now) (sym (now true same))
          (here other.now (number_in old other)
          (ap name_of e ∙ ap Some ((pointwise_decides Decides-eqb name.now other.now).0 same)) (tells other))
      by_same false same =
          subst (G other.now) (sym (now false same))
          (kept other.now (number_in old other) (λ gives.
          let this : name_of given ≡ Some name.now = ap name_of e in
          let bytes : name.now ≡ other.now = cc in
          false≢true (sym same ∙ (pointwise_decides Decides-eqb name.now other.now).1 bytes)) (tells other))

-- with a name more, whose number is none below those before, a table tells of the least of more
pub least_more : {A : Type 0} (P Q : List ℕ → ℕ → Type 0) (given : Option (Bor (List ℕ))) (number : ℕ)
    (old new : NameTable A) → ((other : Bor (List ℕ)) → number_in new other ≡ number_with old given number other)
    → ((name : List ℕ) (n : ℕ) → P name n → Q name n)
    → ((name : List ℕ) (n : ℕ) → Q name n → P name n ⊎ ((name_of given ≡ Some name) × (n ≡ number)))
    → ((name : List ℕ) → name_of given ≡ Some name → Q name number)
    → ((name : List ℕ) (n : ℕ) → P name n → n ≤ number) → TellsLeast P old → TellsLeast Q new
least_more P Q given number old new is wider narrower here above tells =
    found_more given number old new is (λ name. IsLeastFound (P name)) (λ name. IsLeastFound (Q name)) kept first
    tells given refl
  where
    before : (name : List ℕ) (n : ℕ) → ¬ (name_of given ≡ Some name) → Q name n → P name n
    before name n other h = by_which (narrower name n h)
      where
        by_which : P name n ⊎ ((name_of given ≡ Some name) × (n ≡ number)) → P name n
        by_which (inl was) = was
        by_which (inr (gives, _)) = absurd (other gives)

    kept : (name : List ℕ) (found : Option ℕ) → ¬ (name_of given ≡ Some name) → IsLeastFound (P name) found
        → IsLeastFound (Q name) found
    kept name None other h = λ n q. h n (before name n other q)
    kept name (Some n) other h = (wider name n h.0, λ m q. h.1 m (before name m other q))

    first : (name : List ℕ) (found : Option ℕ) → name_of given ≡ Some name → IsLeastFound (P name) found
        → IsLeastFound (Q name) (Some (unwrap_or found number))
    first name None gives h = (here name gives, λ m q. by_which m (narrower name m q))
      where
        by_which : (m : ℕ) → P name m ⊎ ((name_of given ≡ Some name) × (m ≡ number)) → number ≤ m
        by_which m (inl was) = absurd (h m was)
        by_which m (inr (_, last)) = omega (arith, last)
    first name (Some n) gives h = (wider name n h.0, λ m q. by_which m (narrower name m q))
      where
        by_which : (m : ℕ) → P name m ⊎ ((name_of given ≡ Some name) × (m ≡ number)) → n ≤ m
        by_which m (inl was) = h.1 m was
        by_which m (inr (_, last)) = let low = above name n h.0 in omega (arith, last, low)

-- ---- what is found

pub found_least : (P : ℕ → Type 0) (found : Option ℕ) → IsLeastFound P found → IsFound P found
found_least P None h = h
found_least P (Some number) h = h.0

pub least_some : (P : ℕ → Type 0) (found : Option ℕ) → IsLeastFound P found → IfSome found (IsLeast P)
least_some P None h = tt
least_some P (Some number) h = h

pub found_some : (P : ℕ → Type 0) (found : Option ℕ) → IsFound P found → IfSome found P
found_some P None h = tt
found_some P (Some number) h = h

pub found_none : (P : ℕ → Type 0) (found : Option ℕ) → IsFound P found → IfNone found ((number : ℕ) → ¬ P number)
found_none P None h = h
found_none P (Some number) h = tt

pub found_only : (P : ℕ → Type 0) (found : Option ℕ) → IsFound P found → (number : ℕ) → P number
    → ((also : ℕ) → P also → also ≡ number) → found ≡ Some number
found_only P None h number is one = absurd (h number is)
found_only P (Some also) h number is one = ap Some (one also h)
