-- How arguments are refused.
use Rattle.std.proofs.Common.{◌≡◌, ◌∙◌, ◌<◌, ◌≤◌, ℕ, Bool, false, inl, inr, [], ◌∷◌, Option, Some, None, cond, ap, option_map, refl}
use Rattle.std.specs.Prelude.{is_some, nat_lt}
use Rattle.std.proofs.lemmas.Bool.{lt-ltb, le-ltb}
use Rattle.clap.specs.Kinds.{HasKind, Kinds, or_else}
use Rattle.clap.specs.declared.error.Error.{Error}
use Rattle.clap.specs.declared.error.kind.ErrorKind.TheVariants.{ArgumentConflict, InvalidValue}
use Rattle.clap.specs.Words.{Text}
use Rattle.dvg_args.specs.Options.{form_by, forms_wanted, refused_by}
use Rattle.dvg_job.specs.declared.form.LayForm.{LayForm}

-- an error by the first kinds is one by these, or else by others
pub first_kind : (kinds more : Kinds) (e : Error) → HasKind kinds e → HasKind (or_else kinds more) e
first_kind [] more e (inl memory) = inl memory
first_kind [] more e (inr none) = elim none [ ]
first_kind (k ∷ ks) more e has = has

-- how options are refused of which this many ask for this form
abbrev pub form_fault : ℕ → Option LayForm → Kinds
form_fault count form = refused_by (nat_lt 1 count) false (is_some form)

-- two options are refused
pub two_refused : (count : ℕ) (form : Option LayForm) → 1 < count → form_fault count form ≡ ArgumentConflict ∷ []
two_refused count form more = ap (λ b. refused_by b false (is_some form)) (lt-ltb 1 count more)

-- of one option at most the form decides
few_options : (count : ℕ) (form : Option LayForm) → count ≤ 1 → form_fault count form ≡ cond (is_some form) [] (InvalidValue ∷ [])
few_options count form few = ap (λ b. refused_by b false (is_some form)) (le-ltb 1 count few)

-- one option at most is refused where it asks for no form
pub none_refused : (count : ℕ) (form : Option LayForm) → count ≤ 1 → form ≡ None → form_fault count form ≡ InvalidValue ∷ []
none_refused count form few none = few_options count form few ∙ ap (λ f. cond (is_some f) [] (InvalidValue ∷ [])) none

-- and only there
pub taken : (count : ℕ) (form : Option LayForm) (f : LayForm) → count ≤ 1 → form ≡ Some f → form_fault count form ≡ []
taken count form f few some = few_options count form few ∙ ap (λ g. cond (is_some g) [] (InvalidValue ∷ [])) some

-- counts and forms of the same options
pub same_count : (h h' t t' r r' e e' d d' : Bool) → h ≡ h' → t ≡ t' → r ≡ r' → e ≡ e' → d ≡ d' → forms_wanted h t r e d ≡ forms_wanted h' t' r' e' d'
same_count h h' t t' r r' e e' d d' a b c f g = rw (a, b, c, f, g) refl

pub same_form : (t t' r r' e e' d d' : Bool) (h h' : Option Text) → t ≡ t' → r ≡ r' → e ≡ e' → d ≡ d' → h ≡ h' → form_by t r e d h ≡ form_by t' r' e' d' h'
same_form t t' r r' e e' d d' h h' a b c f g = rw (a, b, c, f, g) refl

pub mapped_some : {A B : Type 0} (f : A → B) (o : Option A) → is_some (option_map f o) ≡ is_some o
mapped_some f None = refl
mapped_some f (Some x) = refl
