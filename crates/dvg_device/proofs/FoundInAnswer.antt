-- What is found of an answer.
use Rattle.std.proofs.Common.{◌≡◌, Option, Some, None, sym, ◌∙◌, subst}
use Rattle.std.specs.Prelude.{Result, Ok, Err, IfOk, IfSome}
use Rattle.std.specs.Result.{result_ok}

some_same : {A : Type 0} {x y : A} → ◌≡◌ {A = Option A} (Some x) (Some y) → x ≡ y
some_same e = cc

none_some : {A : Type 0} {x : A} → ◌≡◌ {A = Option A} None (Some x) → ⊥
none_some e = absurd (cc)

-- what was found is as the answer was said to be
pub found_is : {A E : Type 0} (P : A → Type 0) (answer : Result A E) (found : Option A) (x : A) → found ≡ result_ok answer → found ≡ Some x → IfOk answer P → P x
found_is P (Ok y) found x tells is holds = subst P (some_same (sym tells ∙ is)) holds
found_is P (Err e) found x tells is holds = absurd (none_some (sym tells ∙ is))

-- so is what may be found
pub may_be_found : {A E : Type 0} (P Q : A → Type 0) (answer : Result A E) (found : Option A) → found ≡ result_ok answer → ((x : A) → P x → Q x) → IfOk answer P → IfSome found Q
may_be_found P Q (Ok y) found tells also holds = subst (λ o. IfSome o Q) (sym tells) (also y holds)
may_be_found P Q (Err e) found tells also holds = subst (λ o. IfSome o Q) (sym tells) tt
