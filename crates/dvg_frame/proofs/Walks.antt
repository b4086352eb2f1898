-- At one depth a place leads to one place at most.
use Rattle.std.proofs.Common.{◌≡◌, ℕ, zero, suc, List, refl, sym, ◌∙◌, subst, arith}
use Rattle.dvg_code.specs.Acts.{Act, Moves, Jumps, Calls, Returns, Halts}
use Rattle.dvg_frame.specs.declared.op.OpKind.{OpKind}
use Rattle.dvg_frame.specs.declared.place.Place.{Place}
use Rattle.dvg_frame.specs.Steps.{Stands, Leads, on, jump, call, back, Reached, step, Closed}
use Rattle.dvg_frame.specs.Loops.{Walks, none, more}
use Rattle.dvg_frame.specs.own.Tables.{Next, StepsOn}
use Rattle.dvg_frame.proofs.FaultsAtPlaces.{same_standing}

module _ (F : List OpKind) (R : List ℕ) where
  goes_by : {p q : Place} {d e : ℕ} → Leads F R p d q e → e ≡ d → StepsOn F R p q
  goes_by (on {q = q} {instr = instr} stands) is = record { act = Moves instr; after = q; stands = stands; next = refl }
  goes_by (jump {q = q} {after = after} stands) is = record { act = Jumps q; after = after; stands = stands; next = refl }
  goes_by (call stands) is = absurd (omega arith)
  goes_by (back {q = q} {after = after} stands) is = record { act = Calls q; after = after; stands = stands; next = refl }

  pub goes_from : {p q : Place} {d : ℕ} → Leads F R p d q d → StepsOn F R p q
  goes_from leads = goes_by leads refl

  leads_by : (p q : Place) (d : ℕ) (act : Act Place) (after : Place) → Stands F R p act after → Next act after q → Leads F R p d q d
  leads_by p q d (Moves instr) after stands is = subst (λ x. Leads F R p d x d) is (on stands)
  leads_by p q d (Jumps to) after stands is = subst (λ x. Leads F R p d x d) is (jump stands)
  leads_by p q d (Calls to) after stands is = subst (λ x. Leads F R p d x d) is (back stands)
  leads_by p q d Returns after stands is = absurd is
  leads_by p q d Halts after stands is = absurd is

  pub leads_from : (p q : Place) (d : ℕ) → StepsOn F R p q → Leads F R p d q d
  leads_from p q d goes = leads_by p q d goes.act goes.after goes.stands goes.next

  next_once : (act : Act Place) (after q r : Place) → Next act after q → Next act after r → q ≡ r
  next_once (Moves instr) after q r a b = sym a ∙ b
  next_once (Jumps to) after q r a b = sym a ∙ b
  next_once (Calls to) after q r a b = sym a ∙ b
  next_once Returns after q r a b = absurd a
  next_once Halts after q r a b = absurd a

  pub goes_once : (p q r : Place) → StepsOn F R p q → StepsOn F R p r → q ≡ r
  goes_once p q r a b =
      let same = same_standing b.stands a.stands in
      let there : Next a.act a.after r = subst (λ x. Next a.act x r) same.1 (subst (λ x. Next x b.after r) same.0 b.next) in
      next_once a.act a.after q r a.next there

  pub leads_once : {p q r : Place} {d : ℕ} → Leads F R p d q d → Leads F R p d r d → q ≡ r
  leads_once {p} {q} {r} one other = goes_once p q r (goes_from one) (goes_from other)

  -- a place that comes back to itself begins walks of any length
  pub turns_from : (d n : ℕ) {j k : ℕ} {p q : Place} → Walks F R d p (suc k) p → Walks F R d q j p → (end : Place) × Walks F R d q n end
  turns_from d zero {q = q} turn walk = (q, none)
  turns_from d (suc n) (more leads rest) none = let next = turns_from d n (more leads rest) rest in (next.0, more leads next.1)
  turns_from d (suc n) turn (more leads walk) = let next = turns_from d n turn walk in (next.0, more leads next.1)

  pub turns : (d k n : ℕ) (p : Place) → Walks F R d p (suc k) p → (end : Place) × Walks F R d p n end
  turns d k n p turn = turns_from d n turn none

  -- what is walked to from a reached pair is reached
  pub walked : (closed : Closed F R) (d n : ℕ) {p q : Place} → Reached F R p d → Walks F R d p n q → Reached F R q d
  walked closed d _ reached none = reached
  walked closed d _ reached (more {p = p} leads walk) = walked closed d _ (step reached (closed.fine p d reached) leads) walk
