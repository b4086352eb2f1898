-- Words are whole: what a run fetches next stays as it is, so a word is the one that memory has when its high byte is fetched.
use Rattle.std.proofs.Common.{◌≡◌, ◌≢◌, ℕ, ◌+◌, ◌*◌, ◌%◌, true, false, List, [], ◌∷◌, refl, sym, ◌∙◌, ap, subst, Option, Some, None, arith}
use Rattle.std.specs.Prelude.{option_map}
use Rattle.std.proofs.lemmas.Option.{none-some, same_Some}
use Rattle.dvg_mem.specs.Memory.{fetched, fetched_byte}
use Rattle.dvg_gen.specs.Bytes.{Whole}
use Rattle.dvg_gen.specs.Run.{fate, wanted}
use Rattle.dvg_driver.specs.declared.action.Action.{Action}
use Rattle.dvg_driver.specs.declared.action.Action.TheVariants.{Peek, Wrote, Read, Sent, Idle}
use Rattle.dvg_log.specs.Events.{Happening}
use Rattle.dvg_log.specs.declared.event.Event.TheVariants.{Tick, Fetch, ResetGen, ResetAll}
use Rattle.dvg_log.specs.Entries.{Shown}
use Rattle.dvg_log.specs.declared.entry.Entry.TheVariants.{Acted, Started, Low, Fetched, Done, Broke}
use Rattle.dvg_log.specs.Log.{◌⟼◌, Log, Throughout, ram, waiting, low_byte, meets, history, open_run, published}
use Rattle.dvg_log.specs.Legal.{Always, IsWanted, Fits, IsLegal}
use Rattle.dvg_theorem.specs.Fetches.{IsInMemory, IsPaired, KeepsNext}
use Rattle.dvg_theorem.proofs.Bytes.{low_met, word_met, whole_met, low_part, hole_met, byte, byte_of}
use Rattle.dvg_theorem.proofs.DrawnHalf.{leads_same}
use Rattle.dvg_theorem.proofs.DrawnHalfSpared.{kept, first_at}
use Rattle.dvg_theorem.proofs.Later.{shows, memory_is}
use Rattle.dvg_theorem.proofs.LeastMemory.{frame_memory}
use Rattle.dvg_theorem.proofs.Linked.{Cut, cut_same, same_wanted, wanting}
use Rattle.dvg_theorem.proofs.Shows.{at_zero_fetched}

-- the low byte of word zero, where byte 000 is 01
zero_low : (one other high high2 : ℕ) → one ≡ 1 → other ≡ 1 → (one + 256 * high) % 256 ≡ (other + 256 * high2) % 256
zero_low one other high high2 a b = omega arith

module _ (R image : List ℕ) where
  -- a write, over a log of whole words
  module _ (log : Log) (x y : ℕ) (l : IsLegal R image ((Tick ⟼ Acted (Wrote x y)) ∷ log)) (m : Throughout (IsInMemory R image) log) where
    abbrev after : Log
    after = (Tick ⟼ Acted (Wrote x y)) ∷ log

    -- the word that a run fetches next stays, but for word zero
    word_stays : (a : ℕ) (v : ℕ × ℕ) (vs : List (ℕ × ℕ)) (f : IsWanted (history R image log) a) → open_run log ≡ Some (v ∷ vs) → fetched (ram image after) R a ≡ fetched (ram image log) R a
    word_stays a v vs f o =
        let t = wanting R image log a l.2 f in
        let r = (shows R image log l.2 m).0.running v vs o in
        let q = (shows R image after l (tt, m)).0.running v vs o in
        let M : List (ℕ × ℕ) → Type 0 = λ ws. Cut ws f.run.visits f.run.held in
        let cut = subst M (same_Some _ _ (sym t.open_now ∙ o)) t.cut in
        let e = cut_same r.cut cut in
        let d = cut_same q.cut cut in
        let goes_r = ap fate e.0 ∙ t.goes in
        let goes_q = ap fate d.0 ∙ t.goes in
        let w = memory_is R image log v vs r goes_r in
        let z = memory_is R image after v vs q goes_q in
        let r_at : wanted r.visits r.held ≡ a = ap (λ u. wanted u r.held) e.0 ∙ (ap (λ u. wanted f.run.visits u) e.1 ∙ sym t.at) in
        let q_at : wanted q.visits q.held ≡ a = ap (λ u. wanted u q.held) d.0 ∙ (ap (λ u. wanted f.run.visits u) d.1 ∙ sym t.at) in
        let half : q.half ≡ r.half = leads_same q.drawn r.drawn in
        let draft : q.draft ≡ r.draft = same_Some _ _ (sym q.shown ∙ (ap published (at_zero_fetched (Tick ⟼ Acted (Wrote x y)) log v vs o) ∙ r.shown)) in
        let in_frame : frame_memory q.half q.draft R a ≡ frame_memory r.half r.draft R a =
        ap (λ h. frame_memory h q.draft R a) half ∙ ap (λ F. frame_memory r.half F R a) draft in
        let old : fetched (ram image log) R a ≡ frame_memory r.half r.draft R a = subst (λ u. fetched (ram image log) R u ≡ frame_memory r.half r.draft R u) r_at (w.2 ∙ sym w.1) in
        let new : fetched (ram image after) R a ≡ frame_memory q.half q.draft R a = subst (λ u. fetched (ram image after) R u ≡ frame_memory q.half q.draft R u) q_at (z.2 ∙ sym z.1) in
        new ∙ (in_frame ∙ sym old)

    -- of word zero the low byte stays
    zero_stays : (a : ℕ) → IsWanted (history R image log) a → open_run log ≡ Some [] → (a ≡ 0) × (fetched_byte (ram image after) R a false ≡ fetched_byte (ram image log) R a false)
    zero_stays a f o =
        let t = wanting R image log a l.2 f in
        let M : List (ℕ × ℕ) → Type 0 = λ ws. Cut ws f.run.visits f.run.held in
        let zero : a ≡ 0 = t.at ∙ first_at f.run.visits f.run.held (subst M (same_Some _ _ (sym t.open_now ∙ o)) t.cut) in
        let k = (kept R image log l.2 m).1 in
        let j = (kept R image after l (tt, m)).1 in
        let old = (k.jumps (k.flipped (k.started [] o))).0 in
        let new = (j.jumps (j.flipped (j.started [] o))).0 in
        let low = ap Some (zero_low (byte image after 0) (byte image log 0) (byte image after 1) (byte image log 1) new old) in
        (zero, subst (λ u. fetched_byte (ram image after) R u false ≡ fetched_byte (ram image log) R u false) (sym zero) low)

    write_keeps : KeepsNext R image log Tick (Acted (Wrote x y))
    write_keeps a f = let t = wanting R image log a l.2 f in by t.fetches t.open_now
      where
        by : (ws : List (ℕ × ℕ)) → open_run log ≡ Some ws
            → (fetched_byte (ram image after) R a false ≡ fetched_byte (ram image log) R a false) × (a ≢ 0 → fetched_byte (ram image after) R a true ≡ fetched_byte (ram image log) R a true)
        by [] o = let z = zero_stays a f o in (z.1, λ n. absurd (n z.0))
        by (v ∷ vs) o = let e = word_stays a v vs f o in (ap (option_map (byte_of false)) e, λ n. ap (option_map (byte_of true)) e)

  -- an action, over a log of whole words
  action_keeps : (log : Log) (action : Action) → IsLegal R image ((Tick ⟼ Acted action) ∷ log) → Throughout (IsInMemory R image) log → KeepsNext R image log Tick (Acted action)
  action_keeps log (Wrote x y) l m = write_keeps log x y l m
  action_keeps log Peek l m = λ a f. (refl, λ n. refl)
  action_keeps log (Read shown) l m = λ a f. (refl, λ n. refl)
  action_keeps log Sent l m = λ a f. (refl, λ n. refl)
  action_keeps log Idle l m = λ a f. (refl, λ n. refl)

  -- the low byte that waits is the one that memory has
  low_now : (log : Log) → IsLegal R image log → Throughout (IsInMemory R image) log → (a b : ℕ) → waiting log ≡ Some (a, b) → IsWanted (history R image log) a × (fetched_byte (ram image log) R a false ≡ Some b)
  low_now [] l m a b e = absurd (none-some (a, b) e)
  low_now ((event ⟼ Started) ∷ log) l m a b e = absurd (none-some (a, b) e)
  low_now ((ResetGen ⟼ entry) ∷ log) l m a b e = absurd (none-some (a, b) e)
  low_now ((ResetAll bytes ⟼ entry) ∷ log) l m a b e = absurd (none-some (a, b) e)
  low_now ((Fetch ⟼ Low x y) ∷ log) l m a b e =
      let same = same_Some _ _ e in
      let at : x ≡ a = ap (λ low. low.0) same in
      let is : y ≡ b = ap (λ low. low.1) same in
      let met = low_met (ram image log) R (low_byte log) x y l.0.0 in
      (subst (IsWanted (history R image log)) at l.0.1, subst (λ u. fetched_byte (ram image log) R u false ≡ Some b) at (met.1 ∙ ap Some is))
  low_now ((event ⟼ Low x y) ∷ log) l m a b e = absurd l.0
  low_now ((event ⟼ Fetched x w) ∷ log) l m a b e = absurd (none-some (a, b) e)
  low_now ((event ⟼ Done x w drew) ∷ log) l m a b e = absurd (none-some (a, b) e)
  low_now ((event ⟼ Broke x fault) ∷ log) l m a b e = absurd (none-some (a, b) e)
  low_now ((Tick ⟼ Acted action) ∷ log) l m a b e =
      let now = low_now log l.2 m.1 a b e in
      (now.0, (action_keeps log action l m.1 a now.0).0 ∙ now.1)
  low_now ((event ⟼ Acted action) ∷ log) l m a b e = absurd l.0
  low_now (line ∷ log) l m a b e = low_now log l.2 m.1 a b e

  low_of : (low : Option (ℕ × ℕ)) (l : ℕ) → option_map (λ w. w.1) low ≡ Some l → (a : ℕ) × (low ≡ Some (a, l))
  low_of None l e = absurd (none-some l e)
  low_of (Some low) l e = (low.0, ap (λ b. Some (low.0, b)) (same_Some _ _ e))

  -- a word that is met is the one that memory has, right after its low byte
  met_now : (log : Log) → IsLegal R image log → Throughout (IsInMemory R image) log → (a w : ℕ) → meets R image log a ≡ Whole (Some w) → IsWanted (history R image log) a
      → (fetched (ram image log) R a ≡ Some w) × (waiting log ≡ Some (a, w % 256))
  met_now log l m a w met f =
      let low = word_met (ram image log) R (low_byte log) a w met in
      let at = low_of (waiting log) low.0 low.1 in
      let now = low_now log l m at.0 low.0 at.1 in
      let same : at.0 ≡ a = same_wanted now.0 f in
      let there = subst (λ u. fetched_byte (ram image log) R u false ≡ Some low.0) same now.1 in (
        whole_met (ram image log) R (low_byte log) a w low.0 met low.1 there,
        at.1 ∙ (ap (λ u. Some (u, low.0)) same ∙ ap (λ b. Some (a, b)) (low_part (ram image log) R (low_byte log) a w low.0 met low.1 there)),
      )

  line_in_memory : (log : Log) (event : Happening) (entry : Shown) → IsLegal R image log → Throughout (IsInMemory R image) log → Fits R image log event entry → IsInMemory R image log event entry
  line_in_memory log Fetch (Fetched a w) l m f = (met_now log l m a w f.0 f.1.asked).0
  line_in_memory log Fetch (Done a w drew) l m f = (met_now log l m a w f.0 f.1.asked).0
  line_in_memory log Fetch (Broke a fault) l m f = by f.0 f.1 f.2.asked
    where
      by : (word : Option ℕ) → meets R image log a ≡ Whole word → IsWanted (history R image log) a → meets R image log a ≡ Whole (fetched (ram image log) R a)
      by None met f = met ∙ ap Whole (sym (hole_met (ram image log) R (low_byte log) a met))
      by (Some w) met f = met ∙ ap Whole (sym (met_now log l m a w met f).0)
  line_in_memory log event (Fetched a w) l m f = absurd f
  line_in_memory log event (Done a w drew) l m f = absurd f
  line_in_memory log event (Broke a fault) l m f = absurd f
  line_in_memory log event entry l m f = tt

pub words_are_whole : Always IsInMemory
words_are_whole R image [] l = tt
words_are_whole R image ((event ⟼ entry) ∷ log) l =
    let before = words_are_whole R image log l.2 in
    (line_in_memory R image log event entry l.2 before l.0, before)

waits_none : (low : Option (ℕ × ℕ)) → option_map (λ w. w.1) low ≡ None → low ≡ None
waits_none None e = refl
waits_none (Some low) e = absurd (cc)

line_paired : (R image : List ℕ) (log : Log) (event : Happening) (entry : Shown) → IsLegal R image log → Fits R image log event entry → IsPaired log event entry
line_paired R image log Fetch (Low a b) l f = waits_none (waiting log) (low_met (ram image log) R (low_byte log) a b f.0).0
line_paired R image log Fetch (Fetched a w) l f = (met_now R image log l (words_are_whole R image log l) a w f.0 f.1.asked).1
line_paired R image log Fetch (Done a w drew) l f = (met_now R image log l (words_are_whole R image log l) a w f.0 f.1.asked).1
line_paired R image log event (Low a b) l f = absurd f
line_paired R image log event (Fetched a w) l f = absurd f
line_paired R image log event (Done a w drew) l f = absurd f
line_paired R image log event entry l f = tt

pub words_are_paired : Always (λ R image. IsPaired)
words_are_paired R image [] l = tt
words_are_paired R image ((event ⟼ entry) ∷ log) l = (line_paired R image log event entry l.2 l.0, words_are_paired R image log l.2)

line_keeps : (R image : List ℕ) (log : Log) (event : Happening) (entry : Shown) → IsLegal R image ((event ⟼ entry) ∷ log) → KeepsNext R image log event entry
line_keeps R image log Tick (Acted action) l = action_keeps R image log action l (words_are_whole R image log l.2)
line_keeps R image log event (Acted action) l = absurd l.0
line_keeps R image log event entry l = tt

pub next_stays : Always KeepsNext
next_stays R image [] l = tt
next_stays R image ((event ⟼ entry) ∷ log) l = (line_keeps R image log event entry l, next_stays R image log l.2)
