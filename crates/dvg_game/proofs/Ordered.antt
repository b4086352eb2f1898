-- Places in two lists.
use Rattle.std.proofs.Common.{◌≡◌, ℕ, ◌+◌, ◌<◌, ◌≤◌, ◌||◌, Bool, true, false, List, [], ◌∷◌, ◌++◌, length, take, take_all, get_or, refl, sym, ap, ◌∙◌}
use Rattle.std.specs.Prelude.{nat_eq}
use Rattle.std.proofs.lemmas.List.{take_more}
use Rattle.dvg_game_check.specs.declared.reason.Broken.{Broken}
use Rattle.dvg_game_check.specs.Why.{listed}

or_assoc : (a b c : Bool) → ((a || b) || c) ≡ (a || (b || c))
or_assoc true b c = refl
or_assoc false b c = refl

or_swap : (a b x : Bool) → ((a || x) || b) ≡ ((a || b) || x)
or_swap true b x = refl
or_swap false true true = refl
or_swap false true false = refl
or_swap false false true = refl
or_swap false false false = refl

or_false : (a : Bool) → (a || false) ≡ a
or_false true = refl
or_false false = refl

-- a place is in two lists, one behind the other
pub listed_append : (xs ys : List Broken) (at : ℕ) → listed (xs ++ ys) at ≡ (listed xs at || listed ys at)
listed_append [] ys at = refl
listed_append (x ∷ xs) ys at =
    ap (λ b. nat_eq x.at at || b) (listed_append xs ys at) ∙ sym (or_assoc (nat_eq x.at at) (listed xs at) (listed ys at))

pub listed_push : (xs : List Broken) (x : Broken) (at : ℕ) → listed (xs ++ x ∷ []) at ≡ (listed xs at || nat_eq x.at at)
listed_push xs x at = listed_append xs (x ∷ []) at ∙ ap (λ b. listed xs at || b) (or_false (nat_eq x.at at))

-- one more of all is one more of the first list, or of the second
pub first_more : (causes others all : List Broken) (x : Broken) (at : ℕ) → (listed causes at || listed others at) ≡ listed all at
    → (listed (causes ++ x ∷ []) at || listed others at) ≡ listed (all ++ x ∷ []) at
first_more causes others all x at h =
    ap (λ b. b || listed others at) (listed_push causes x at)
    ∙ or_swap (listed causes at) (listed others at) (nat_eq x.at at)
    ∙ ap (λ b. b || nat_eq x.at at) h ∙ sym (listed_push all x at)

pub second_more : (causes others all : List Broken) (x : Broken) (at : ℕ) → (listed causes at || listed others at) ≡ listed all at
    → (listed causes at || listed (others ++ x ∷ []) at) ≡ listed (all ++ x ∷ []) at
second_more causes others all x at h =
    ap (λ b. listed causes at || b) (listed_push others x at)
    ∙ sym (or_assoc (listed causes at) (listed others at) (nat_eq x.at at))
    ∙ ap (λ b. b || nat_eq x.at at) h ∙ sym (listed_push all x at)

-- one more of all is pushed to the first list, or to the second
pub first_pushed : (all : List Broken) (i : ℕ) (d : Broken) (causes others more same : List Broken) (at : ℕ) → i < length all
    → more ≡ causes ++ get_or all i d ∷ [] → same ≡ others
    → (listed causes at || listed others at) ≡ listed (take i all) at
    → (listed more at || listed same at) ≡ listed (take (i + 1) all) at
first_pushed all i d causes others more same at low e f h =
    ap (λ l. listed l at || listed same at) e ∙ ap (λ l. listed (causes ++ get_or all i d ∷ []) at || listed l at) f
    ∙ first_more causes others (take i all) (get_or all i d) at h ∙ sym (ap (λ l. listed l at) (take_more all i d low))

pub second_pushed : (all : List Broken) (i : ℕ) (d : Broken) (causes others same more : List Broken) (at : ℕ) → i < length all
    → same ≡ causes → more ≡ others ++ get_or all i d ∷ []
    → (listed causes at || listed others at) ≡ listed (take i all) at
    → (listed same at || listed more at) ≡ listed (take (i + 1) all) at
second_pushed all i d causes others same more at low e f h =
    ap (λ l. listed l at || listed more at) e ∙ ap (λ l. listed causes at || listed l at) f
    ∙ second_more causes others (take i all) (get_or all i d) at h ∙ sym (ap (λ l. listed l at) (take_more all i d low))

-- both lists, one behind the other, are all
pub whole : (all causes others both : List Broken) (i at : ℕ) → both ≡ causes ++ others → length all ≤ i
    → (listed causes at || listed others at) ≡ listed (take i all) at → listed both at ≡ listed all at
whole all causes others both i at e over h =
    ap (λ l. listed l at) e ∙ listed_append causes others at ∙ h ∙ ap (λ l. listed l at) (take_all i all over)
