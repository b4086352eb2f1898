-- A list of events has one legal log at most.
use Rattle.std.proofs.Common.{◌≡◌, ℕ, List, [], ◌∷◌, refl, sym, ap, ◌∙◌, subst, Option, Some, None}
use Rattle.std.specs.Prelude.{is_none}
use Rattle.std.proofs.lemmas.Option.{same_Some}
use Rattle.dvg_gen.specs.declared.stroke.Stroke.{Stroke}
use Rattle.dvg_gen.specs.declared.taken.GenFault.{GenFault}
use Rattle.dvg_gen.specs.Told.{Told, Fed, Leaves, Reply, More, Drew, Fails, reply, wants}
use Rattle.dvg_gen.proofs.OneRun.{leaves_same}
use Rattle.dvg_frame.proofs.OneFault.{one_fault, accepted_stays}
use Rattle.dvg_driver.specs.declared.action.Action.{Action}
use Rattle.dvg_driver.specs.Script.{Did, IsLife}
use Rattle.dvg_log.specs.Events.{Happening}
use Rattle.dvg_log.specs.declared.event.Event.TheVariants.{Offer, Redraw, Tick, Strobe, Fetch, ResetGen, ResetCpu, ResetAll}
use Rattle.dvg_log.specs.Entries.{Shown}
use Rattle.dvg_log.specs.declared.entry.Entry.TheVariants.{Offered, Refused, Busy, Asked, NothingPublished, Acted, Started, NoStrobe, Low, Fetched, Done, Broke, Still, Cleared}
use Rattle.dvg_gen.specs.Bytes.{Waits, Whole, word_of}
use Rattle.dvg_log.specs.Log.{◌⟼◌, Log, meets, history, open_run, life}
use Rattle.dvg_driver.specs.Stands.{ShowsFlag}
use Rattle.dvg_log.specs.Legal.{IsWanted, IsFetch, Fits, IsLegal, SameLog}
use Rattle.dvg_driver.proofs.Places.{life_place, place_before}
use Rattle.dvg_driver.proofs.Shapes.{place_life}
use Rattle.dvg_driver.proofs.OneAction.{one_action}
use Rattle.dvg_theorem.proofs.Bytes.{same_Whole, same_Waits, not_whole}
use Rattle.dvg_theorem.proofs.Linked.{same_wanted, wanting, fetching}

-- a tick has one action
one_tick : (image : List ℕ) (log : Log) (a b : Action) → IsLife (Did a ∷ life image log) → IsLife (Did b ∷ life image log) → ShowsFlag a (is_none (open_run log)) → ShowsFlag b (is_none (open_run log)) → a ≡ b
one_tick image log a b x y t u =
    let after = life_place (Did a ∷ life image log) x in
    let before = place_before (Did a) (life image log) after.0 after.1 in
    let one = one_action (life image log) (is_none (open_run log)) (place_life (life image log) before.0 before.1) in
    one.3 a x t ∙ sym (one.3 b y u)

-- a fetch has one address and one answer
one_fetch : (mem : ℕ → Option ℕ) (h : List Told) (a b : ℕ) (p q : Reply) → IsFetch h a (mem a) p → IsFetch h b (mem b) q → (a ≡ b) × (p ≡ q)
one_fetch mem h a b p q f g =
    let e = leaves_same f.asked.leaves g.asked.leaves in
    let at : a ≡ b = same_Some _ _ (sym f.asked.wanted ∙ (ap wants e ∙ g.asked.wanted)) in
    let l : Leaves (Fed (mem b) ∷ h) f.later = subst (λ x. Leaves (Fed (mem x) ∷ h) f.later) at f.leaves_later in
    let d = leaves_same l g.leaves_later in
    (at, sym f.replies ∙ (ap (λ x. reply (mem x) f.later) at ∙ (ap (reply (mem b)) d ∙ g.replies)))

drawn_is : {s t : List Stroke} → Drew s ≡ Drew t → s ≡ t
drawn_is e = cc

fault_is : {f g : GenFault} → Fails f ≡ Fails g → f ≡ g
fault_is e = cc

module _ (R image : List ℕ) (log : Log) (legal : IsLegal R image log) where
  abbrev mem : ℕ → Option ℕ
  mem a = word_of (meets R image log a)

  abbrev IsFetched : ℕ → Reply → Type 0
  IsFetched a p = IsFetch (history R image log) a (mem a) p

  at_memory : (a : ℕ) (word : Option ℕ) (p : Reply) → meets R image log a ≡ Whole word → IsFetch (history R image log) a word p → IsFetched a p
  at_memory a word p m f = subst (λ x. IsFetch (history R image log) a x p) (sym (ap word_of m)) f

  not_still : (a : ℕ) (p : Reply) → open_run log ≡ None → IsFetched a p → ⊥
  not_still a p n f = let t = fetching R image log a (mem a) p legal f in let e = sym n ∙ t.open_now in cc

  not_wanted : (a : ℕ) → open_run log ≡ None → IsWanted (history R image log) a → ⊥
  not_wanted a n f = let t = wanting R image log a legal f in let e = sym n ∙ t.open_now in cc

  -- a low byte is no word
  not_low : (a b x : ℕ) (word : Option ℕ) → IsWanted (history R image log) a → IsWanted (history R image log) b → meets R image log a ≡ Waits x → meets R image log b ≡ Whole word → ⊥
  not_low a b x word f g m n = not_whole m (ap (meets R image log) (same_wanted f g) ∙ n)

  both_fetch : (a b : ℕ) (p q : Reply) → IsFetched a p → IsFetched b q → (a ≡ b) × (p ≡ q)
  both_fetch a b p q f g = one_fetch mem (history R image log) a b p q f g

  fetched_same : (a w b v : ℕ) → meets R image log a ≡ Whole (Some w) → meets R image log b ≡ Whole (Some v) → a ≡ b → w ≡ v
  fetched_same a w b v m n e = same_Some _ _ (same_Whole (sym m ∙ (ap (meets R image log) e ∙ n)))

  one_entry : (event : Happening) (x y : Shown) → Fits R image log event x → Fits R image log event y → x ≡ y
  one_entry (Offer d) (Refused f) (Refused g) u v = ap Refused (one_fault d R g f v u)
  one_entry (Offer d) (Refused f) Busy u v = absurd (accepted_stays d R f v.0 u)
  one_entry (Offer d) (Refused f) Offered u v = absurd (accepted_stays d R f v.0 u)
  one_entry (Offer d) Busy (Refused f) u v = absurd (accepted_stays d R f u.0 v)
  one_entry (Offer d) Busy Busy u v = refl
  one_entry (Offer d) Busy Offered u v = absurd (u.1 v.1)
  one_entry (Offer d) Offered (Refused f) u v = absurd (accepted_stays d R f u.0 v)
  one_entry (Offer d) Offered Busy u v = absurd (v.1 u.1)
  one_entry (Offer d) Offered Offered u v = refl
  one_entry Redraw NothingPublished NothingPublished u v = refl
  one_entry Redraw NothingPublished Busy u v = let e = sym u ∙ v.0 in absurd (cc)
  one_entry Redraw NothingPublished Asked u v = let e = sym u ∙ v.0 in absurd (cc)
  one_entry Redraw Busy NothingPublished u v = let e = sym v ∙ u.0 in absurd (cc)
  one_entry Redraw Busy Busy u v = refl
  one_entry Redraw Busy Asked u v = absurd (u.1 v.1)
  one_entry Redraw Asked NothingPublished u v = let e = sym v ∙ u.0 in absurd (cc)
  one_entry Redraw Asked Busy u v = absurd (v.1 u.1)
  one_entry Redraw Asked Asked u v = refl
  one_entry Tick (Acted a) (Acted b) u v = ap Acted (one_tick image log a b u.0 v.0 u.1 v.1)
  one_entry Strobe Started Started u v = refl
  one_entry Strobe Started NoStrobe u v = let e = sym u ∙ v in absurd (cc)
  one_entry Strobe NoStrobe Started u v = let e = sym u ∙ v in absurd (cc)
  one_entry Strobe NoStrobe NoStrobe u v = refl
  one_entry Fetch Still Still u v = refl
  one_entry Fetch Still (Fetched b w) u v = absurd (not_still b More u (at_memory b (Some w) More v.0 v.1))
  one_entry Fetch Still (Done b w s) u v = absurd (not_still b (Drew s) u (at_memory b (Some w) (Drew s) v.0 v.1))
  one_entry Fetch Still (Broke b f) u v = absurd (not_still b (Fails f) u (at_memory b v.0 (Fails f) v.1 v.2))
  one_entry Fetch Still (Low b y) u v = absurd (not_wanted b u v.1)
  one_entry Fetch (Low a x) Still u v = absurd (not_wanted a v u.1)
  one_entry Fetch (Low a x) (Low b y) u v =
      let e = same_wanted u.1 v.1 in
      ap (λ k. Low k x) e ∙ ap (λ k. Low b k) (same_Waits (sym u.0 ∙ (ap (meets R image log) e ∙ v.0)))
  one_entry Fetch (Low a x) (Fetched b w) u v = absurd (not_low a b x (Some w) u.1 v.1.asked u.0 v.0)
  one_entry Fetch (Low a x) (Done b w s) u v = absurd (not_low a b x (Some w) u.1 v.1.asked u.0 v.0)
  one_entry Fetch (Low a x) (Broke b f) u v = absurd (not_low a b x v.0 u.1 v.2.asked u.0 v.1)
  one_entry Fetch (Fetched a w) (Low b y) u v = absurd (not_low b a y (Some w) v.1 u.1.asked v.0 u.0)
  one_entry Fetch (Done a w s) (Low b y) u v = absurd (not_low b a y (Some w) v.1 u.1.asked v.0 u.0)
  one_entry Fetch (Broke a f) (Low b y) u v = absurd (not_low b a y u.0 v.1 u.2.asked v.0 u.1)
  one_entry Fetch (Fetched a w) Still u v = absurd (not_still a More v (at_memory a (Some w) More u.0 u.1))
  one_entry Fetch (Fetched a w) (Fetched b z) u v =
      let e = both_fetch a b More More (at_memory a (Some w) More u.0 u.1) (at_memory b (Some z) More v.0 v.1) in
      ap (λ k. Fetched k w) e.0 ∙ ap (λ k. Fetched b k) (fetched_same a w b z u.0 v.0 e.0)
  one_entry Fetch (Fetched a w) (Done b z s) u v = let e = (both_fetch a b More (Drew s) (at_memory a (Some w) More u.0 u.1) (at_memory b (Some z) (Drew s) v.0 v.1)).1 in absurd (cc)
  one_entry Fetch (Fetched a w) (Broke b f) u v = let e = (both_fetch a b More (Fails f) (at_memory a (Some w) More u.0 u.1) (at_memory b v.0 (Fails f) v.1 v.2)).1 in absurd (cc)
  one_entry Fetch (Done a w s) Still u v = absurd (not_still a (Drew s) v (at_memory a (Some w) (Drew s) u.0 u.1))
  one_entry Fetch (Done a w s) (Fetched b z) u v = let e = (both_fetch a b (Drew s) More (at_memory a (Some w) (Drew s) u.0 u.1) (at_memory b (Some z) More v.0 v.1)).1 in absurd (cc)
  one_entry Fetch (Done a w s) (Done b z t) u v =
      let e = both_fetch a b (Drew s) (Drew t) (at_memory a (Some w) (Drew s) u.0 u.1) (at_memory b (Some z) (Drew t) v.0 v.1) in
      ap (λ k. Done k w s) e.0 ∙ (ap (λ k. Done b k s) (fetched_same a w b z u.0 v.0 e.0) ∙ ap (λ k. Done b z k) (drawn_is e.1))
  one_entry Fetch (Done a w s) (Broke b f) u v = let e = (both_fetch a b (Drew s) (Fails f) (at_memory a (Some w) (Drew s) u.0 u.1) (at_memory b v.0 (Fails f) v.1 v.2)).1 in absurd (cc)
  one_entry Fetch (Broke a f) Still u v = absurd (not_still a (Fails f) v (at_memory a u.0 (Fails f) u.1 u.2))
  one_entry Fetch (Broke a f) (Fetched b z) u v = let e = (both_fetch a b (Fails f) More (at_memory a u.0 (Fails f) u.1 u.2) (at_memory b (Some z) More v.0 v.1)).1 in absurd (cc)
  one_entry Fetch (Broke a f) (Done b z s) u v = let e = (both_fetch a b (Fails f) (Drew s) (at_memory a u.0 (Fails f) u.1 u.2) (at_memory b (Some z) (Drew s) v.0 v.1)).1 in absurd (cc)
  one_entry Fetch (Broke a f) (Broke b g) u v =
      let e = both_fetch a b (Fails f) (Fails g) (at_memory a u.0 (Fails f) u.1 u.2) (at_memory b v.0 (Fails g) v.1 v.2) in
      ap (λ k. Broke k f) e.0 ∙ ap (λ k. Broke b k) (fault_is e.1)
  one_entry ResetGen Cleared Cleared u v = refl
  one_entry ResetCpu Cleared Cleared u v = refl
  one_entry (ResetAll all) Cleared Cleared u v = refl
  one_entry (Offer d) (Refused f) _ u v = absurd v
  one_entry (Offer d) Busy _ u v = absurd v
  one_entry (Offer d) Offered _ u v = absurd v
  one_entry Redraw NothingPublished _ u v = absurd v
  one_entry Redraw Busy _ u v = absurd v
  one_entry Redraw Asked _ u v = absurd v
  one_entry Tick (Acted a) _ u v = absurd v
  one_entry Strobe Started _ u v = absurd v
  one_entry Strobe NoStrobe _ u v = absurd v
  one_entry Fetch Still _ u v = absurd v
  one_entry Fetch (Low a x) _ u v = absurd v
  one_entry Fetch (Fetched a w) _ u v = absurd v
  one_entry Fetch (Done a w s) _ u v = absurd v
  one_entry Fetch (Broke a f) _ u v = absurd v
  one_entry ResetGen Cleared _ u v = absurd v
  one_entry ResetCpu Cleared _ u v = absurd v
  one_entry (ResetAll all) Cleared _ u v = absurd v
  one_entry _ _ _ u v = absurd u

head_is : {x y : Happening} {xs ys : List Happening} → x ∷ xs ≡ y ∷ ys → (x ≡ y) × (xs ≡ ys)
head_is e = (cc, cc)

pub same_log : SameLog
same_log R image [] [] l m e = refl
same_log R image [] ((event ⟼ entry) ∷ log) l m e = absurd (cc)
same_log R image ((event ⟼ entry) ∷ log) [] l m e = absurd (cc)
same_log R image ((event ⟼ entry) ∷ log) ((event2 ⟼ entry2) ∷ log2) l m e =
    let d = head_is e in
    let same : log ≡ log2 = same_log R image log log2 l.2 m.2 d.1 in
    let n : Fits R image log event entry2 = subst (λ x. Fits R image log x entry2) (sym d.0) (subst (λ x. Fits R image x event2 entry2) (sym same) m.0) in
    let o = one_entry R image log l.2 event entry entry2 l.0 n in
    ap (λ x. (event ⟼ x) ∷ log) o ∙ (ap (λ x. (x ⟼ entry2) ∷ log) d.0 ∙ ap (λ x. (event2 ⟼ entry2) ∷ x) same)
