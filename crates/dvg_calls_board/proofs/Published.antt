-- Over a legal log the check accepts what is published.
use Rattle.std.proofs.Common.{◌≡◌, ℕ, Bool, true, false, List, [], ◌∷◌, Option, Some, None, refl, subst}
use Rattle.std.proofs.lemmas.Option.{none-some, same_Some}
use Rattle.std.specs.Prelude.{◌==◌, if◌then◌else◌, option_and_then}
use Rattle.dvg_frame.specs.declared.op.OpKind.{OpKind}
use Rattle.dvg_frame.specs.Faults.{Accepts}
use Rattle.dvg_driver.specs.declared.action.Action.TheVariants.{Wrote}
use Rattle.dvg_log.specs.declared.event.Event.TheVariants.{Offer, ResetAll}
use Rattle.dvg_log.specs.declared.entry.Entry.TheVariants.{Offered, Acted}
use Rattle.dvg_log.specs.Log.{◌⟼◌, Log, offered, before_flip, published}
use Rattle.dvg_log.specs.Legal.{IsLegal}

offered_accepts : (R image : List ℕ) (log : Log) (F : List OpKind) → IsLegal R image log → offered log ≡ Some F
    → Accepts F R
offered_accepts R image [] F legal e = absurd (none-some F e)
offered_accepts R image ((Offer G ⟼ Offered) ∷ log) F legal e = subst (λ H. Accepts H R) (same_Some G F e) legal.0.0
offered_accepts R image ((event ⟼ entry) ∷ log) F legal e = offered_accepts R image log F legal.2 e

chosen : {A : Type 0} (b : Bool) (one other : Option A) (x : A) → (if b then one else other) ≡ Some x
    → (P : Type 0) → (one ≡ Some x → P) → (other ≡ Some x → P) → P
chosen true one other x e P f g = f e
chosen false one other x e P f g = g e

-- the log before the newest flip is legal
flip_legal : (R image : List ℕ) (log older : Log) → IsLegal R image log → before_flip log ≡ Some older
    → IsLegal R image older
flip_legal R image [] older legal e = absurd (none-some older e)
flip_legal R image ((ResetAll bytes ⟼ entry) ∷ log) older legal e = absurd (none-some older e)
flip_legal R image ((event ⟼ Acted (Wrote a byte)) ∷ log) older legal e =
    chosen (a == 1) (Some log) (before_flip log) older e (IsLegal R image older)
    (λ here. subst (IsLegal R image) (same_Some log older here) legal.2)
    (λ before. flip_legal R image log older legal.2 before)
flip_legal R image ((event ⟼ entry) ∷ log) older legal e = flip_legal R image log older legal.2 e

pub published_accepts : (R image : List ℕ) (log : Log) (F : List OpKind) → IsLegal R image log → published log ≡ Some F
    → Accepts F R
published_accepts R image log F legal e = by (before_flip log) refl e
  where
    by : (flip : Option Log) → before_flip log ≡ flip → option_and_then offered flip ≡ Some F → Accepts F R
    by None is e = absurd (none-some F e)
    by (Some older) is e = offered_accepts R image older F (flip_legal R image log older legal is) e
