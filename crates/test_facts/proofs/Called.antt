-- The draft of steps with a named subroutine.
use Rattle.std.proofs.Common.{◌≡◌, ℕ, zero, suc, ◌∙◌, List, [], ◌∷◌, ◌++◌, Some, Bor, take}
use Rattle.std.proofs.Common.{refl, sym, ap, subst, arith}
use Rattle.std.specs.Prelude.{Result, Ok, Err, IfOk, IfErr, slice_get}
use Rattle.std.proofs.lemmas.Option.{same_Some}
use Rattle.dvg_frame.specs.declared.op.OpKind.{OpKind}
use Rattle.dvg_frame.specs.declared.op.OpKind.TheVariants as kinds
use Rattle.dvg_steps.specs.declared.fault.StepsFault.{StepsFault}
use Rattle.dvg_steps.specs.declared.fault.StepsFault.TheVariants.{Full, Twice, Unknown}
use Rattle.dvg_steps.specs.declared.step.Step.{Step}
use Rattle.dvg_steps.specs.declared.step.Step.TheVariants.{Name, Op, Call}
use Rattle.dvg_steps.specs.Drafts.{HasFault, IsDraftOf}
use Rattle.dvg_steps.specs.Steps.{IsNumberOf, Names, Wants, op_count}
use Rattle.test_facts.specs.Facts.{called_draft, long_vector}

-- call it; halt; its name; vctr 9 -100 100 7; return
abbrev pub called : Bor (List ℕ) → Bor (List ℕ) → List Step
called wanted given = Call wanted ∷ Op kinds.Halt ∷ Name given
    ∷ Op (kinds.Draw long_vector) ∷ Op kinds.Return ∷ []

-- an operation gives no name
op_names : {A : Type 0} (op : OpKind) (step : Step) (name : List ℕ)
    → Op op ≡ step → Names step name → A
op_names op step name is names = absurd (subst (λ s. Names s name) (sym is) names)

call_names : {A : Type 0} (wanted : Bor (List ℕ)) (step : Step) (name : List ℕ)
    → Call wanted ≡ step → Names step name → A
call_names wanted step name is names = absurd (subst (λ s. Names s name) (sym is) names)

no_more : {A : Type 0} (before after : List Step) (step : Step) → [] ≡ before ++ step ∷ after → A
no_more [] after step e = absurd (cc)
no_more (one ∷ before) after step e = absurd (cc)

module _ (wanted given : Bor (List ℕ)) where
  -- two operations stand before the name
  two_before : (before after : List Step) (step : Step) (name : List ℕ)
      → called wanted given ≡ before ++ step ∷ after → Names step name → op_count before ≡ 2
  two_before [] after step name e names = call_names wanted step name (cc) names
  two_before (a ∷ []) after step name e names = op_names kinds.Halt step name (cc) names
  two_before (a ∷ b ∷ []) after step name e names =
      let one : Call wanted ≡ a = cc in
      let other : Op kinds.Halt ≡ b = cc in
      sym (ap (λ x. op_count (x ∷ Op kinds.Halt ∷ [])) one ∙ ap (λ x. op_count (a ∷ x ∷ [])) other)
  two_before (a ∷ b ∷ c ∷ []) after step name e names =
      op_names (kinds.Draw long_vector) step name (cc) names
  two_before (a ∷ b ∷ c ∷ d ∷ []) after step name e names =
      op_names kinds.Return step name (cc) names
  two_before (a ∷ b ∷ c ∷ d ∷ f ∷ before) after step name e names =
      no_more before after step (cc)

  -- nothing before it gives a name
  none_before : {A : Type 0} (before after : List Step) (step : Step) (name : List ℕ)
      → Call wanted ∷ Op kinds.Halt ∷ [] ≡ before ++ step ∷ after → Names step name → A
  none_before [] after step name e names = call_names wanted step name (cc) names
  none_before (a ∷ []) after step name e names = op_names kinds.Halt step name (cc) names
  none_before (a ∷ b ∷ before) after step name e names = no_more before after step (cc)

  drafted : (draft : List OpKind) → IsDraftOf (called wanted given) draft → draft ≡ called_draft
  drafted [] all = absurd all
  drafted (a ∷ []) all = absurd all.1
  drafted (a ∷ b ∷ []) all = absurd all.1.1
  drafted (a ∷ b ∷ c ∷ []) all = absurd all.1.1.1
  drafted (a ∷ b ∷ c ∷ d ∷ []) all =
      let it = all.0.1 in
      let count = two_before it.before it.after it.step wanted.now it.cut it.names in
      let two : all.0.0 ≡ 2 = it.count ∙ count in
      let first : a ≡ kinds.Call 2 = all.0.2 ∙ ap kinds.Call two in
      let second : kinds.Halt ≡ b = all.1.0 in
      let third : kinds.Draw long_vector ≡ c = all.1.1.0 in
      let fourth : kinds.Return ≡ d = all.1.1.1.0 in
      cc
  drafted (a ∷ b ∷ c ∷ d ∷ e ∷ more) all = absurd all.1.1.1.1

  not_again : (place : ℕ) (step : Step) (name : List ℕ)
      → slice_get (called wanted given) place ≡ Some step → Names step name
      → (n : ℕ) → IsNumberOf (take place (called wanted given)) name n → ⊥
  not_again zero step name is names n it = call_names wanted step name (same_Some _ _ is) names
  not_again (suc zero) step name is names n it =
      op_names kinds.Halt step name (same_Some _ _ is) names
  not_again (suc (suc zero)) step name is names n it =
      none_before it.before it.after it.step name it.cut it.names
  not_again (suc (suc (suc zero))) step name is names n it =
      op_names (kinds.Draw long_vector) step name (same_Some _ _ is) names
  not_again (suc (suc (suc (suc zero)))) step name is names n it =
      op_names kinds.Return step name (same_Some _ _ is) names
  not_again (suc (suc (suc (suc (suc place))))) step name is names n it = cc

  number_2 : wanted.now ≡ given.now → IsNumberOf (called wanted given) wanted.now 2
  number_2 same = record {
    before = Call wanted ∷ Op kinds.Halt ∷ [];
    step = Name given;
    after = Op (kinds.Draw long_vector) ∷ Op kinds.Return ∷ [];
    cut = refl;
    names = sym same;
    count = refl;
  }

  none_wanted : {A : Type 0} (op : OpKind) (step : Step) (name : List ℕ)
      → Op op ≡ step → Wants step name → A
  none_wanted op step name is wants = absurd (subst (λ s. Wants s name) (sym is) wants)

  known : wanted.now ≡ given.now → (place : ℕ) (step : Step) (name : List ℕ)
      → slice_get (called wanted given) place ≡ Some step → Wants step name
      → ((n : ℕ) → ¬ IsNumberOf (called wanted given) name n) → ⊥
  known same zero step name is wants none =
      let this : wanted.now ≡ name = subst (λ s. Wants s name) (sym (same_Some _ _ is)) wants in
      none 2 (subst (λ x. IsNumberOf (called wanted given) x 2) this (number_2 same))
  known same (suc zero) step name is wants none =
      none_wanted kinds.Halt step name (same_Some _ _ is) wants
  known same (suc (suc zero)) step name is wants none =
      absurd (subst (λ s. Wants s name) (sym (same_Some _ _ is)) wants)
  known same (suc (suc (suc zero))) step name is wants none =
      none_wanted (kinds.Draw long_vector) step name (same_Some _ _ is) wants
  known same (suc (suc (suc (suc zero)))) step name is wants none =
      none_wanted kinds.Return step name (same_Some _ _ is) wants
  known same (suc (suc (suc (suc (suc place))))) step name is wants none = cc

  -- the draft of those steps has the number of the name's operation in its call
  called_is : wanted.now ≡ given.now → (answer : Result (List OpKind) StepsFault)
      → IfOk answer (IsDraftOf (called wanted given))
      → IfErr answer (HasFault (called wanted given)) → answer ≡ Ok called_draft
  called_is same (Ok draft) is fault = ap Ok (drafted draft is)
  called_is same (Err Full) is fault = absurd (omega (arith, fault))
  called_is same (Err (Twice place)) is fault =
      let it = fault.1.0 in
      absurd (not_again place it.0 it.1 it.2 it.3 it.4.0 it.4.1)
  called_is same (Err (Unknown place)) is fault =
      let it = fault.2.0 in
      absurd (known same place it.0 it.2.0 it.1 it.2.1 it.2.2)

  -- the same of operations that are these
  pub called_of : wanted.now ≡ given.now → (halt vector back : OpKind)
      → halt ≡ kinds.Halt → vector ≡ kinds.Draw long_vector → back ≡ kinds.Return
      → (answer : Result (List OpKind) StepsFault)
      → IfOk answer (IsDraftOf (Call wanted ∷ Op halt ∷ Name given ∷ Op vector ∷ Op back ∷ []))
      → IfErr answer (HasFault (Call wanted ∷ Op halt ∷ Name given ∷ Op vector ∷ Op back ∷ []))
      → answer ≡ Ok called_draft
  called_of same halt vector back is_halt is_vector is_back answer ok fault =
      let steps : Call wanted ∷ Op halt ∷ Name given ∷ Op vector ∷ Op back ∷ []
      ≡ called wanted given = cc in
      called_is same answer (subst (λ l. IfOk answer (IsDraftOf l)) steps ok)
      (subst (λ l. IfErr answer (HasFault l)) steps fault)
