-- Places in a list of steps.
use Rattle.std.proofs.Common.{◌≡◌, ℕ, zero, suc, ◌+◌, ◌<◌, ◌≤◌, List, [], ◌∷◌, ◌++◌, length, take, drop, get_or, refl, sym, ap, ◌∙◌, subst, arith, Bool, true, false, All, cond, IsTrue, Option, Some, None, MatchOption, Bor, filter, slice_get}
use Rattle.std.proofs.lemmas.List.{take-append-drop, drop_more, take_more, length-append}
use Rattle.std.proofs.Math.Seq.{get_or-append_seam}
use Rattle.std.proofs.lemmas.List.Elements.{All-append}
use Rattle.std.proofs.lemmas.List.Sums.{count_by_more_no, count_by_more_yes, sum_by-take-le}
use Rattle.std.proofs.lemmas.List.{append-nil}
use Rattle.std.proofs.lemmas.List.Elements.{filter_more}
use Rattle.std.specs.List.{AllZip}
use Rattle.std.specs.Option.{is_some}
use Rattle.dvg_frame.specs.declared.op.OpKind.{OpKind}
use Rattle.dvg_steps.specs.declared.step.Step.{Step}
use Rattle.dvg_steps.specs.declared.step.Step.TheVariants.{Name, Op, Call, Jump}
use Rattle.dvg_steps.specs.Drafts.{GivesAgain, IsDrafted, IsUnknown, WantsUnknown}
use Rattle.dvg_steps.specs.Steps.{IsNumberOf, Names, is_operation, op_count}

-- a list is cut at a place
pub cut_at : {X : Type 0} (xs : List X) (i : ℕ) (x : X) → i < length xs → x ≡ get_or xs i x → xs ≡ take i xs ++ x ∷ drop (i + 1) xs
cut_at xs i x low is = sym (take-append-drop i xs) ∙ ap (λ l. take i xs ++ l) (drop_more xs i x low ∙ ap (λ e. e ∷ drop (i + 1) xs) (sym is))

-- a front has no more operations than the whole
pub count_front : (steps : List Step) (i : ℕ) → op_count (take i steps) ≤ op_count steps
count_front steps i = sum_by-take-le (λ step. cond (is_operation step) 1 0) steps i

-- no step gives this name
abbrev pub NoneNames : List ℕ → List Step → Type 0
NoneNames name steps = All (λ step. Names step name → ⊥) steps

pub none_more : (name : List ℕ) (steps : List Step) (i : ℕ) (step : Step) → i < length steps → step ≡ get_or steps i step → NoneNames name (take i steps) → (Names step name → ⊥)
    → NoneNames name (take (i + 1) steps)
none_more name steps i step low is none other =
    let more : take (i + 1) steps ≡ take i steps ++ step ∷ [] = take_more steps i step low ∙ ap (λ e. take i steps ++ e ∷ []) (sym is) in
    subst (NoneNames name) (sym more) (All-append (λ s. Names s name → ⊥) (take i steps) (step ∷ []) none (λ k d within. let first : k ≡ 0 = omega arith in subst (λ n. Names (get_or (step ∷ []) n d) name → ⊥) (sym first) other))

pub no_name : {N : Type 0} (b : Bool) → b ≡ false → (N → IsTrue b) → N → ⊥
no_name b not f n = let yes : b ≡ true = f n in cc

-- one more step is counted
pub count_more : (steps : List Step) (i number : ℕ) (step : Step) → i < length steps → step ≡ get_or steps i step → number ≡ op_count (take i steps) → is_operation step ≡ true → number + 1 ≡ op_count (take (i + 1) steps)
count_more steps i number step low is count operation =
    let yes = count_by_more_yes is_operation steps i step low (ap is_operation (sym is) ∙ operation) in omega arith

pub count_same : (steps : List Step) (i number : ℕ) (step : Step) → i < length steps → step ≡ get_or steps i step → number ≡ op_count (take i steps) → is_operation step ≡ false → number ≡ op_count (take (i + 1) steps)
count_same steps i number step low is count other =
    let no = count_by_more_no is_operation steps i step low (ap is_operation (sym is) ∙ other) in count ∙ sym no

-- a step that stands in a list that none names so doesn't
pub none_there : (name : List ℕ) (steps before after : List Step) (step : Step) → NoneNames name steps → steps ≡ before ++ step ∷ after → Names step name → ⊥
none_there name steps before after step none cut named =
    let within : length before < length steps = let total = ap length cut in let sum = length-append before (step ∷ after) in omega arith in
    let same : get_or steps (length before) step ≡ step = ap (λ l. get_or l (length before) step) cut ∙ get_or-append_seam before step after step in
    none (length before) step within (subst (λ s. Names s name) (sym same) named)

pub none_numbered : (name : List ℕ) (steps : List Step) (n : ℕ) → NoneNames name steps → ¬ IsNumberOf steps name n
none_numbered name steps n none it = none_there name steps it.before it.after it.step none it.cut it.names

-- a step that stands at a place is the one that is found there
pub at_place : (steps : List Step) (place : ℕ) (step other : Step) → slice_get steps place ≡ Some step → slice_get steps place ≡ Some other → step ≡ other
at_place steps place step other is also = cc

pub inside : (steps : List Step) (place : ℕ) (step : Step) → slice_get steps place ≡ Some step → place < length steps
inside [] place step is = absurd cc
inside (first ∷ steps) zero step is = omega arith
inside (first ∷ steps) (suc place) step is = let below = inside steps place step is in omega arith

-- a step gives no name again, if no name that it gives has a number before it
pub not_again : (steps : List Step) (place : ℕ) (step : Step) → slice_get steps place ≡ Some step → ((name : List ℕ) → Names step name → (n : ℕ) → ¬ IsNumberOf (take place steps) name n) → ¬ GivesAgain steps place
not_again steps place step here none it =
    let same = at_place steps place it.0 step it.2 here in
    none it.1 (subst (λ s. Names s it.1) same it.3) it.4.0 it.4.1

pub name_case : (steps : List Step) (given : Bor (List ℕ)) (step : Step) → step ≡ Name given → ((n : ℕ) → ¬ IsNumberOf steps given.now n) → (name : List ℕ) → Names step name → (n : ℕ) → ¬ IsNumberOf steps name n
name_case steps given step is none name names n it =
    let same : given.now ≡ name = subst (λ s. Names s name) is names in
    none n (subst (λ x. IsNumberOf steps x n) (sym same) it)

pub other_case : (step : Step) → ((given : Bor (List ℕ)) → step ≡ Name given → ⊥) → (name : List ℕ) → ¬ Names step name
other_case (Name given) none name names = none given refl
other_case (Op op) none name names = names
other_case (Call wanted) none name names = names
other_case (Jump wanted) none name names = names

pub none_by : {P : Type 0} (Q : ℕ → Type 0) (found : Option ℕ) → is_some found ≡ false → MatchOption found P Q → P
none_by Q None is none = none
none_by Q (Some n) is some = absurd cc

pub allzip_more : {A B : Type 0} (R : A → B → Type 0) (xs : List A) (ys : List B) (x : A) (y : B) → AllZip R xs ys → R x y → AllZip R (xs ++ x ∷ []) (ys ++ y ∷ [])
allzip_more R [] [] x y all here = (here, tt)
allzip_more R [] (b ∷ ys) x y all here = absurd all
allzip_more R (a ∷ xs) [] x y all here = absurd all
allzip_more R (a ∷ xs) (b ∷ ys) x y all here = (all.0, allzip_more R xs ys x y all.1 here)

-- what is drafted with one more step
module _ (steps : List Step) (i : ℕ) (step : Step) (low : i < length steps) (is : step ≡ get_or steps i step) (draft new : List OpKind) where
  pub drafted_more : (op : OpKind) → is_operation step ≡ true → new ≡ draft ++ op ∷ [] → AllZip (IsDrafted steps) (filter is_operation (take i steps)) draft → IsDrafted steps step op
      → AllZip (IsDrafted steps) (filter is_operation (take (i + 1) steps)) new
  drafted_more op operation new_is all here =
      let more = filter_more is_operation steps i step low in
      let one : cond (is_operation (get_or steps i step)) (get_or steps i step ∷ []) [] ≡ step ∷ [] =
      subst (λ s. cond (is_operation s) (s ∷ []) [] ≡ step ∷ []) is (ap (λ b. cond b (step ∷ []) []) operation) in
      let all_of = more ∙ ap (λ l. filter is_operation (take i steps) ++ l) one in
      subst (λ l. AllZip (IsDrafted steps) l new) (sym all_of) (subst (AllZip (IsDrafted steps) (filter is_operation (take i steps) ++ step ∷ [])) (sym new_is) (allzip_more (IsDrafted steps) _ _ step op all here))

  pub drafted_same : is_operation step ≡ false → new ≡ draft → AllZip (IsDrafted steps) (filter is_operation (take i steps)) draft → AllZip (IsDrafted steps) (filter is_operation (take (i + 1) steps)) new
  drafted_same other new_is all =
      let more = filter_more is_operation steps i step low in
      let none : cond (is_operation (get_or steps i step)) (get_or steps i step ∷ []) [] ≡ [] = subst (λ s. cond (is_operation s) (s ∷ []) [] ≡ []) is (ap (λ b. cond b (step ∷ []) []) other) in
      let all_of = more ∙ ap (λ l. filter is_operation (take i steps) ++ l) none ∙ append-nil (filter is_operation (take i steps)) in
      subst (λ l. AllZip (IsDrafted steps) l new) (sym all_of) (subst (AllZip (IsDrafted steps) (filter is_operation (take i steps))) (sym new_is) all)

-- a step that is in the draft wants no name that isn't there, and one that is no operation wants none
pub wants_known : (steps : List Step) (step : Step) (op : OpKind) → IsDrafted steps step op → ¬ WantsUnknown steps step
wants_known steps (Name name) op here it = here
wants_known steps (Op done) op here it = it.1
wants_known steps (Call name) op here it = it.2 here.0 (subst (λ x. IsNumberOf steps x here.0) it.1 here.1)
wants_known steps (Jump name) op here it = it.2 here.0 (subst (λ x. IsNumberOf steps x here.0) it.1 here.1)

pub wants_none : (steps : List Step) (step : Step) → is_operation step ≡ false → ¬ WantsUnknown steps step
wants_none steps (Name name) other it = it.1
wants_none steps (Op done) other it = absurd cc
wants_none steps (Call name) other it = absurd cc
wants_none steps (Jump name) other it = absurd cc

pub not_unknown : (steps : List Step) (place : ℕ) (step : Step) → slice_get steps place ≡ Some step → ¬ WantsUnknown steps step → ¬ IsUnknown steps place
not_unknown steps place step here known it = known (subst (WantsUnknown steps) (at_place steps place it.0 step it.1 here) it.2)
