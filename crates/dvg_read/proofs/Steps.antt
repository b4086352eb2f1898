-- Lines that lead from one state to another, one after the other.
use Rattle.std.proofs.Common.{◌≡◌, ℕ, List, [], ◌∷◌, ◌++◌, refl, sym, subst, append_assoc, append-nil}

-- the lines lead from one state to another
pub data Leads {S : Type 0} (Goes : S → List ℕ → S → Type 0) : S → List (List ℕ) → S → Type 0 where
  here : {s : S} → Leads Goes s [] s
  on : {s t u : S} {l : List ℕ} {ls : List (List ℕ)} → Goes s l t → Leads Goes t ls u → Leads Goes s (l ∷ ls) u

-- where lines lead that are cut in two
pub record Halfway {S : Type 0} (Goes : S → List ℕ → S → Type 0) (s : S) (ls more : List (List ℕ)) (u : S) : Type 0 where
  pub mid : S
  pub first : Leads Goes s ls mid
  pub second : Leads Goes mid more u

module _ {S : Type 0} (Goes : S → List ℕ → S → Type 0) where
  pub further : (s t u : S) (ls more : List (List ℕ)) → Leads Goes s ls t → Leads Goes t more u → Leads Goes s (ls ++ more) u
  further s t u [] more here q = q
  further s t u (l ∷ ls) more (on {t = m} g p) q = on g (further m t u ls more p q)

  pub halfway : (s u : S) (ls more : List (List ℕ)) → Leads Goes s (ls ++ more) u → Halfway Goes s ls more u
  halfway s u [] more p = record { mid = s; first = here; second = p }
  halfway s u (l ∷ ls) more (on {t = t} g p) = let h = halfway t u ls more p in record { mid = h.mid; first = on g h.first; second = h.second }

  only_step : (s u : S) (l : List ℕ) → Leads Goes s (l ∷ []) u → Goes s l u
  only_step s u l (on g here) = g

  -- where no line goes on in two ways, lines lead to one state at most
  module _ (one_way : (s t u : S) (l : List ℕ) → Goes s l t → Goes s l u → u ≡ t) where
    pub one_end : (s t u : S) (ls : List (List ℕ)) → Leads Goes s ls t → Leads Goes s ls u → u ≡ t
    one_end s t u [] here here = refl
    one_end s t u (l ∷ ls) (on {t = m} g p) (on {t = n} h q) = one_end m t u ls p (subst (λ m. Leads Goes m ls u) (one_way s m n l g h) q)

    -- what lines spell, where that is said of states
    module _ (Says : S → List (List ℕ) → Type 0) (start : S) (says_nothing : Says start []) (says_more : (s t : S) (l : List ℕ) (ls : List (List ℕ)) → Says s ls → Goes s l t → Says t (ls ++ l ∷ []))
        (leads_to : (s : S) (ls : List (List ℕ)) → Says s ls → Leads Goes start ls s) where
      -- lines spell one thing at most
      pub one_saying : (s t : S) (ls : List (List ℕ)) → Says s ls → Says t ls → t ≡ s
      one_saying s t ls p q = one_end start s t ls (leads_to s ls p) (leads_to t ls q)

      -- where lines lead to, they spell
      says_along : (s t : S) (done ls : List (List ℕ)) → Says s done → Leads Goes s ls t → Says t (done ++ ls)
      says_along s t done [] p here = subst (λ k. Says s k) (sym (append-nil done)) p
      says_along s t done (l ∷ ls) p (on {t = m} g q) = subst (λ k. Says t k) (append_assoc done (l ∷ []) ls) (says_along m t (done ++ l ∷ []) ls (says_more s m l done p g) q)

      -- where one more line spells something, it goes on from what the others spell
      pub last_line : (s t : S) (ls : List (List ℕ)) (l : List ℕ) → Says s ls → Says t (ls ++ l ∷ []) → Goes s l t
      last_line s t ls l p q =
          let h = halfway start t ls (l ∷ []) (leads_to t (ls ++ l ∷ []) q) in
          let same = one_end start s h.mid ls (leads_to s ls p) h.first in
          only_step s t l (subst (λ k. Leads Goes k (l ∷ []) t) same h.second)

      -- a front of lines that spell something
      pub front_says : (u : S) (ls more : List (List ℕ)) → Says u (ls ++ more) → (s : S) × Says s ls × Leads Goes s more u
      front_says u ls more p =
          let way = halfway start u ls more (leads_to u (ls ++ more) p) in
          (way.mid, says_along start way.mid [] ls says_nothing way.first, way.second)
