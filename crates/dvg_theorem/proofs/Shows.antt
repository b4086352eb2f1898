-- What the halves hold and what runs show, in every legal log.
use Rattle.std.proofs.Common.{◌≡◌, ◌≢◌, ℕ, suc, ◌+◌, ◌*◌, ◌/◌, ◌≤◌, ◌<◌, List, [], ◌∷◌, length, drop, slice_get, slice_index, refl, sym, ◌∙◌, ap, subst, Option, None, Some, Bool, true, false, arith, inl, inr}
use Rattle.std.specs.Prelude.{◌==◌, if◌then◌else◌, option_and_then, option_map, slice_set}
use Rattle.std.proofs.lemmas.Option.{none-some, same_Some}
use Rattle.std.proofs.lemmas.Bool.Decides.{eqb_tells, leb_tells}
use Rattle.dvg_mem.specs.declared.half.Half.{Half}
use Rattle.dvg_mem.specs.declared.half.Half.TheVariants.{H0, H1}
use Rattle.dvg_mem.specs.Areas.{IsInHalf, base, other, high, half_of_high}
use Rattle.dvg_frame.specs.declared.op.OpKind.{OpKind}
use Rattle.dvg_frame.specs.Bytes.{bytes}
use Rattle.dvg_frame.specs.Layout.{laid}
use Rattle.dvg_gen.specs.Run.{Visit, Runs}
use Rattle.dvg_driver.specs.declared.action.Action.{Action}
use Rattle.dvg_driver.specs.declared.action.Action.TheVariants.{Peek, Wrote, Read, Sent, Idle}
use Rattle.dvg_driver.specs.Script
use Rattle.dvg_driver.specs.Script.{Did, IsWhole, frame_writes}
use Rattle.dvg_driver.specs.Place.{Place, Start, Booting, Resting, Writing, Waiting, Sending, next_place, place_of_life, after_write, with_left}
use Rattle.dvg_log.specs.Events.{Happening}
use Rattle.dvg_log.specs.declared.event.Event.TheVariants.{Offer, Tick, ResetAll}
use Rattle.dvg_log.specs.Entries.{Shown}
use Rattle.dvg_log.specs.declared.entry.Entry.TheVariants.{Offered, Acted, Done}
use Rattle.dvg_log.specs.Log.{Line, ◌⟼◌, Log, Throughout, ram, open_run, free_half, life, before_flip, offered, published, publication, has_fetched, at_zero}
use Rattle.dvg_theorem.proofs.Bytes.{byte}
use Rattle.dvg_log.specs.Headline.{IsShown, IsNoLater}
use Rattle.dvg_driver.proofs.Places.{whole_rests, place_before}
use Rattle.dvg_theorem.proofs.DrawnHalf.{LeadsTo, not_both, past_zero, in_half, half_high}
use Rattle.dvg_theorem.proofs.DrawnHalfSpared.{byte_other, byte_here, not_equal, KeptBy, HasFlipped}
use Rattle.dvg_theorem.proofs.LeastMemory.{Checked, fits, frame_memory, Lies}
use Rattle.dvg_theorem.proofs.Linked.{Cut}
use Rattle.dvg_theorem.proofs.ToCome.{IsWrite, to_half, to_zero, to_one}
use Rattle.dvg_theorem.proofs.Writes.{write_byte, write_late, written_at}

-- the half that byte 001 names
abbrev pub current : List ℕ → Log → Half
current image log = half_of_high (byte image log 1)

-- what the open run shows, and where it lies
pub record Running (R image : List ℕ) (log : Log) (ws : List (ℕ × ℕ)) : Type 0 where
  pub half : Half
  pub draft : List OpKind
  pub shown : IsShown log draft
  pub checked : Checked draft R
  pub drawn : LeadsTo ws half
  pub holds : Lies half draft (byte image log)
  pub visits : List Visit
  pub held : Option ℕ
  pub cut : Cut ws visits held
  pub runs : Runs (frame_memory half draft R) (length ws) visits held

-- the frame that is being written, so far
pub record Laying (R image : List ℕ) (log : Log) (ws : List (ℕ × ℕ)) : Type 0 where
  pub draft : List OpKind
  pub half : Half
  pub first : Bool
  pub count : ℕ
  pub accepted : offered log ≡ Some draft
  pub checked : Checked draft R
  pub free : half ≡ free_half image log
  pub left : ws ≡ drop count (frame_writes half draft first)
  pub done : (k : ℕ) → k < count → k < 2 * length (laid half draft) → byte image log (2 * base half + k) ≡ slice_index (bytes (laid half draft)) k

-- the newest publication, which the current half holds
pub record Current (R image : List ℕ) (log : Log) : Type 0 where
  pub draft : List OpKind
  pub newest : published log ≡ Some draft
  pub checked : Checked draft R
  pub holds : Lies (current image log) draft (byte image log)

pub record Shows (R image : List ℕ) (log : Log) : Type 0 where
  pub now : HasFlipped (before_flip log) → Current R image log
  pub laying : (ws : List (ℕ × ℕ)) → place_of_life (life image log) ≡ Some (Writing ws) → Laying R image log ws
  pub running : (v : ℕ × ℕ) (vs : List (ℕ × ℕ)) → open_run log ≡ Some (v ∷ vs) → Running R image log (v ∷ vs)
  -- no run that ended shows a later publication than the newest, or than the one that the open run shows
  pub newest : (n : ℕ) → publication log ≡ Some n → Throughout (IsNoLater n) log
  pub run_newest : (v : ℕ × ℕ) (vs : List (ℕ × ℕ)) (n : ℕ) → open_run log ≡ Some (v ∷ vs) → publication (at_zero log) ≡ Some n → Throughout (IsNoLater n) log
  -- what the open run shows is no later than the newest
  pub rises : (v : ℕ × ℕ) (vs : List (ℕ × ℕ)) (n m : ℕ) → open_run log ≡ Some (v ∷ vs) → publication (at_zero log) ≡ Some n → publication log ≡ Some m → n ≤ m

pub at_zero_fetched : (line : Line) (log : Log) (v : ℕ × ℕ) (vs : List (ℕ × ℕ)) → open_run (line ∷ log) ≡ Some (v ∷ vs) → at_zero (line ∷ log) ≡ at_zero log
at_zero_fetched line log v vs e = rw e

pub at_zero_open : (log : Log) → open_run log ≡ Some [] → at_zero log ≡ log
at_zero_open [] e = refl
at_zero_open (line ∷ log) e = rw e

pub at_zero_none : (log : Log) → open_run log ≡ None → at_zero log ≡ log
at_zero_none [] e = refl
at_zero_none (line ∷ log) e = rw e

-- Lines that begin no fetched run, publish nothing, and write only where no frame lies that is shown or newest.
module _ (R image : List ℕ) (log : Log) (event : Happening) (entry : Shown) (s : Shows R image log)
    (o : (v : ℕ × ℕ) (vs : List (ℕ × ℕ)) → open_run ((event ⟼ entry) ∷ log) ≡ Some (v ∷ vs) → open_run log ≡ Some (v ∷ vs))
    (f : before_flip ((event ⟼ entry) ∷ log) ≡ before_flip log)
    (bound : (n : ℕ) → publication log ≡ Some n → IsNoLater n log event entry)
    (rn : (v : ℕ × ℕ) (vs : List (ℕ × ℕ)) → open_run ((event ⟼ entry) ∷ log) ≡ Some (v ∷ vs) → (m : ℕ) → IsNoLater m log event entry)
    (b1 : byte image ((event ⟼ entry) ∷ log) 1 ≡ byte image log 1)
    (keeps_now : (F : List OpKind) → Checked F R → Lies (current image log) F (byte image log) → Lies (current image log) F (byte image ((event ⟼ entry) ∷ log)))
    (keeps_run : (h : Half) (F : List OpKind) → Checked F R → (words : List (ℕ × ℕ)) → open_run log ≡ Some words → LeadsTo words h → Lies h F (byte image log) → Lies h F (byte image ((event ⟼ entry) ∷ log)))
    (lays : (ws : List (ℕ × ℕ)) → place_of_life (life image ((event ⟼ entry) ∷ log)) ≡ Some (Writing ws) → Laying R image ((event ⟼ entry) ∷ log) ws) where
  pub carried : Shows R image ((event ⟼ entry) ∷ log)
  carried = record {
    now = λ g.
        let c = s.now (rw f at g) in
        record {
          draft = c.draft;
          newest = rw f c.newest;
          checked = c.checked;
          holds = rw b1 (keeps_now c.draft c.checked c.holds);
        };
    laying = lays;
    running = λ v vs e.
        let r = s.running v vs (o v vs e) in
        record {
          half = r.half;
          draft = r.draft;
          checked = r.checked;
          drawn = r.drawn;
          visits = r.visits;
          held = r.held;
          cut = r.cut;
          runs = r.runs;
          shown = rw (at_zero_fetched (event ⟼ entry) log v vs e) r.shown;
          holds = keeps_run r.half r.draft r.checked (v ∷ vs) (o v vs e) r.drawn r.holds;
        };
    newest = λ n e. let same = sym (ap (option_map length) f) ∙ e in (bound n same, s.newest n same);
    run_newest = λ v vs n e z. (rn v vs e n, s.run_newest v vs n (o v vs e) (rw (at_zero_fetched (event ⟼ entry) log v vs e) at z));
    rises = λ v vs n m e z y. s.rises v vs n m (o v vs e) (rw (at_zero_fetched (event ⟼ entry) log v vs e) at z) (sym (ap (option_map length) f) ∙ y);
  }

-- a new frame, of which nothing is written
pub begun : (R image : List ℕ) (log : Log) (F : List OpKind) → Checked F R → IsWhole (life image log) → (ws : List (ℕ × ℕ)) →
    option_and_then (λ p. next_place p (Script.Offered (free_half image log) F)) (place_of_life (life image log)) ≡ Some (Writing ws) → Laying R image ((Offer F ⟼ Offered) ∷ log) ws
begun R image log F c w ws e =
    let r = whole_rests (life image log) w in
    let d : Some (Writing (frame_writes (free_half image log) F r.0)) ≡ Some (Writing ws) = rw r.1 at e in
    record {
      draft = F;
      half = free_half image log;
      first = r.0;
      count = 0;
      accepted = refl;
      checked = c;
      free = refl;
      left = writing_is d;
      done = λ k l. absurd (omega arith);
    }
  where
    writing_is : {us vs : List (ℕ × ℕ)} → Some (Writing us) ≡ Some (Writing vs) → vs ≡ us
    writing_is d = cc

-- an action that is no write leads to no writing
no_write : (p : Place) (action : Action) (ws : List (ℕ × ℕ)) → ((a b : ℕ) → action ≡ Wrote a b → ⊥) → next_place p (Did action) ≡ Some (Writing ws) → ⊥
no_write Start Peek ws n e = cc
no_write Booting (Read true) ws n e = cc
no_write Booting (Read false) ws n e = cc
no_write (Resting first) Idle ws n e = cc
no_write (Writing vs) (Wrote a b) ws n e = n a b refl
no_write (Waiting first) (Read true) ws n e = cc
no_write (Waiting first) (Read false) ws n e = cc
no_write (Sending first) Sent ws n e = cc
no_write _ _ ws n e = none-some (Writing ws) e

-- after such an action no frame is being written
pub idle_lays : (image : List ℕ) (log : Log) (action : Action) → ((a b : ℕ) → action ≡ Wrote a b → ⊥) → (ws : List (ℕ × ℕ)) → place_of_life (Did action ∷ life image log) ≡ Some (Writing ws) → ⊥
idle_lays image log action n ws e =
    let before = place_before (Did action) (life image log) (Writing ws) e in
    no_write before.0 action ws n before.2

-- a byte elsewhere leaves a frame
frame_kept : (h : Half) (F : List OpKind) (a b : ℕ) (old : List ℕ) → ((k : ℕ) → k < 2 * length (laid h F) → a ≡ 2 * base h + k → ⊥) → Lies h F (slice_index old) → Lies h F (slice_index (slice_set old a b))
frame_kept h F a b old n e k l = byte_other old a b (2 * base h + k) (n k l) ∙ e k l

-- an address that is not in the half is no address of a frame there
apart : (h : Half) (F : List OpKind) (R : List ℕ) (a : ℕ) → Checked F R → (IsInHalf h (a / 2) → ⊥) → (k : ℕ) → k < 2 * length (laid h F) → a ≡ 2 * base h + k → ⊥
apart h F R a c n k l e =
    let f = fits h F R c in
    n (in_half h a (omega arith) (omega arith))

-- a publication is older than the log in which it is found
publication_before : (log : Log) (n : ℕ) → publication log ≡ Some n → n < length log
publication_before [] n e = absurd (none-some n e)
publication_before ((ResetAll bytes ⟼ entry) ∷ log) n e = absurd (none-some n e)
publication_before ((event ⟼ Acted (Wrote a b)) ∷ log) n e = both (a == 1) e (publication_before log n)
  where
    both : (t : Bool) → option_map length (if t then Some log else before_flip log) ≡ Some n → (publication log ≡ Some n → n < length log) → n < suc (length log)
    both true d f = let g = same_Some _ _ d in omega arith
    both false d f = let g = f d in omega arith
publication_before (line ∷ log) n e = longer (publication_before log n e)
  where
    longer : n < length log → n < suc (length log)
    longer l = omega arith

at_zero_short : (log : Log) → length (at_zero log) ≤ length log
at_zero_short [] = omega arith
at_zero_short (line ∷ log) = both (has_fetched (open_run (line ∷ log))) (at_zero_short log)
  where
    both : (t : Bool) → length (at_zero log) ≤ length log → length (if t then at_zero log else line ∷ log) ≤ suc (length log)
    both true h = omega arith
    both false h = omega arith

done_bound : (log : Log) (m : ℕ) (event : Happening) (entry : Shown) → length log ≤ m → IsNoLater m log event entry
done_bound log m event (Done a w s) l = λ n e. let f = publication_before (at_zero log) n e in let z = at_zero_short log in omega arith
done_bound log m event _ l = tt

bounded : (log : Log) (m : ℕ) → length log ≤ m → Throughout (IsNoLater m) log
bounded [] m l = tt
bounded ((event ⟼ entry) ∷ log) m l = (done_bound log m event entry (omega arith), bounded log m (omega arith))

same_free : (image : List ℕ) (log : Log) (a b : ℕ) → a ≢ 1 → free_half image ((Tick ⟼ Acted (Wrote a b)) ∷ log) ≡ free_half image log
same_free image log a b n = ap (λ v. other (half_of_high v)) (byte_other (ram image log) a b 1 n)

low : (h : Half) → (2 ≤ 2 * base h) × (2 * base h ≤ 1026)
low H0 = (omega arith, omega arith)
low H1 = (omega arith, omega arith)

-- one more byte of the frame that is being written
laid_more : (R image : List ℕ) (log : Log) (ws vs : List (ℕ × ℕ)) (a b : ℕ) → length (ram image log) ≡ 0x800 → a ≢ 1 → Laying R image log ws → after_write ws a b ≡ Some (Writing vs) → Laying R image ((Tick ⟼ Acted (Wrote a b)) ∷ log) vs
laid_more R image log ws vs a b size n1 g e =
    let fw = frame_writes g.half g.draft g.first in
    let P : List (ℕ × ℕ) → Type 0 = λ us. after_write us a b ≡ Some (Writing vs) in
    let w = written_at fw g.count a b (Writing vs) (subst P g.left e) in
    record {
      draft = g.draft;
      half = g.half;
      first = g.first;
      count = suc g.count;
      accepted = g.accepted;
      checked = g.checked;
      free = g.free ∙ sym (same_free image log a b n1);
      left = left_is (drop (suc g.count) fw) w.1;
      done = λ k l m. each k l m w.0;
    }
  where
    left_is : (us : List (ℕ × ℕ)) → with_left us ≡ Writing vs → vs ≡ us
    left_is [] d = absurd (cc)
    left_is (u ∷ us) d = cc

    each : (k : ℕ) → k < suc g.count → k < 2 * length (laid g.half g.draft) → slice_get (frame_writes g.half g.draft g.first) g.count ≡ Some (a, b) →
        slice_index (slice_set (ram image log) a b) (2 * base g.half + k) ≡ slice_index (bytes (laid g.half g.draft)) k
    each k l m x = elim (eqb_tells a (2 * base g.half + k)) [
      | inl t ↦ (
          let z = (low g.half).1 in
          let y = fits g.half g.draft R g.checked in
          let small : a < length (ram image log) = omega (arith, t.1) in
          let P : ℕ → Type 0 = λ v. slice_index (slice_set (ram image log) a b) v ≡ slice_index (bytes (laid g.half g.draft)) k in
          subst P t.1 (byte_here (ram image log) a b small ∙ here t.1))
      | inr t ↦ byte_other (ram image log) a b (2 * base g.half + k) t.1 ∙ before t.1
    ]
      where
        early : g.count < 2 * length (laid g.half g.draft) → (a ≡ 2 * base g.half + g.count) × (b ≡ slice_index (bytes (laid g.half g.draft)) g.count)
        early c = let y = same_Some _ _ (sym x ∙ write_byte g.half g.draft g.first g.count c) in (ap (λ v. v.0) y, ap (λ v. v.1) y)

        here : a ≡ 2 * base g.half + k → b ≡ slice_index (bytes (laid g.half g.draft)) k
        here d = elim (leb_tells (suc g.count) (2 * length (laid g.half g.draft))) [
          | inl t ↦ (let y = early t.1 in let same : g.count ≡ k = omega arith in y.1 ∙ ap (slice_index (bytes (laid g.half g.draft))) same)
          | inr t ↦ (let z = write_late g.half g.draft g.first g.count a b (omega arith) x in let w = (low g.half).0 in absurd (omega arith))
        ]

        before : a ≢ 2 * base g.half + k → slice_index (ram image log) (2 * base g.half + k) ≡ slice_index (bytes (laid g.half g.draft)) k
        before d = elim (leb_tells (suc k) g.count) [
          | inl t ↦ g.done k t.1 m
          | inr t ↦ absurd (let y = early (omega arith) in d (omega arith))
        ]

flip_last : (R image : List ℕ) (log : Log) (ws : List (ℕ × ℕ)) (a b : ℕ) (q : Place) (g : Laying R image log ws) → a ≡ 1 → after_write ws a b ≡ Some q → 2 * length (laid g.half g.draft) ≤ g.count
flip_last R image log ws a b q g one e =
    let fw = frame_writes g.half g.draft g.first in
    let P : List (ℕ × ℕ) → Type 0 = λ us. after_write us a b ≡ Some q in
    let w = written_at fw g.count a b q (subst P g.left e) in
    elim (leb_tells (suc g.count) (2 * length (laid g.half g.draft))) [
      | inl t ↦ absurd (
          let y = ap (λ v. v.0) (same_Some _ _ (sym w.0 ∙ write_byte g.half g.draft g.first g.count t.1)) in
          let z = (low g.half).0 in omega arith)
      | inr t ↦ omega arith
    ]

plain_write : (R image : List ℕ) (log : Log) (ws : List (ℕ × ℕ)) (a b : ℕ) (q : Place) → length (ram image log) ≡ 0x800 → KeptBy image log (Writing ws) → Shows R image log → after_write ws a b ≡ Some q → place_of_life (Did (Wrote a b) ∷ life image log) ≡ Some q →
    a ≢ 1 → (IsInHalf (current image log) (a / 2) → ⊥) → Shows R image ((Tick ⟼ Acted (Wrote a b)) ∷ log)
plain_write R image log ws a b q size k s e d n1 away =
    let c = current image log in
    carried R image log Tick (Acted (Wrote a b)) s (λ u us o. o) (rw (not_equal a 1 n1)) (λ n f. tt) (λ u us o m. tt) (byte_other (ram image log) a b 1 n1)
    (λ F cl h. frame_kept c F a b (ram image log) (apart c F R a cl away) h)
    (λ h F cl words o x y. frame_kept h F a b (ram image log) (apart h F R a cl (λ i. away (subst (λ g. IsInHalf g (a / 2)) (k.here.0 words h o x) i))) y)
    (λ us l. laid_more R image log ws us a b size n1 (s.laying ws k.stands) (e ∙ (sym d ∙ l)))

flip_write : (R image : List ℕ) (log : Log) (ws : List (ℕ × ℕ)) (q : Place) → length (ram image log) ≡ 0x800 → Shows R image log → Laying R image log ws → after_write ws 1 (high (free_half image log)) ≡ Some q → place_of_life (Did (Wrote 1 (high (free_half image log))) ∷ life image log) ≡ Some q →
    q ≡ Waiting false → Shows R image ((Tick ⟼ Acted (Wrote 1 (high (free_half image log)))) ∷ log)
flip_write R image log ws q size s g e d v =
    let b = high (free_half image log) in
    let late = flip_last R image log ws 1 b q g refl e in
    let apart_one : (h : Half) (F : List OpKind) (k : ℕ) → k < 2 * length (laid h F) → 1 ≡ 2 * base h + k → ⊥ = λ h F k l f. one_low h k f in
    let held : Lies g.half g.draft (slice_index (slice_set (ram image log) 1 b)) = frame_kept g.half g.draft 1 b (ram image log) (apart_one g.half g.draft) (λ k l. g.done k (omega arith) l) in
    let P : Half → Type 0 = λ h. Lies h g.draft (slice_index (slice_set (ram image log) 1 b)) in
    let here : half_of_high b ≡ half_of_high (slice_index (slice_set (ram image log) 1 b) 1) = ap half_of_high (sym (byte_here (ram image log) 1 b (omega arith))) in
    record {
      now = λ f. record { draft = g.draft; newest = g.accepted; checked = g.checked; holds = subst P (g.free ∙ (sym (half_high (free_half image log)) ∙ here)) held };
      laying = λ us l. absurd (let m = sym d ∙ l in cc);
      running = λ u us o.
          let r = s.running u us o in
          record {
            half = r.half;
            draft = r.draft;
            checked = r.checked;
            drawn = r.drawn;
            visits = r.visits;
            held = r.held;
            cut = r.cut;
            runs = r.runs;
            shown = rw (at_zero_fetched (Tick ⟼ Acted (Wrote 1 b)) log u us o) r.shown;
            holds = frame_kept r.half r.draft 1 b (ram image log) (apart_one r.half r.draft) r.holds;
          };
      newest = λ n f. (tt, bounded log n (let same = same_Some _ _ f in omega arith));
      run_newest = λ u us n o z. (tt, s.run_newest u us n o (rw (at_zero_fetched (Tick ⟼ Acted (Wrote 1 b)) log u us o) at z));
      rises = λ u us n m o z y.
          let h = publication_before (at_zero log) n (rw (at_zero_fetched (Tick ⟼ Acted (Wrote 1 b)) log u us o) at z) in
          let l = at_zero_short log in
          let same = same_Some _ _ y in
          omega arith;
    }
  where
    one_low : (h : Half) (k : ℕ) → 1 ≡ 2 * base h + k → ⊥
    one_low H0 k f = omega arith
    one_low H1 k f = omega arith

pub write_shows : (R image : List ℕ) (log : Log) (ws : List (ℕ × ℕ)) (a b : ℕ) (q : Place) → length (ram image log) ≡ 0x800 → KeptBy image log (Writing ws) → Shows R image log → after_write ws a b ≡ Some q → place_of_life (Did (Wrote a b) ∷ life image log) ≡ Some q →
    IsWrite (free_half image log) (byte image log 0) a b q → Shows R image ((Tick ⟼ Acted (Wrote a b)) ∷ log)
write_shows R image log ws a b q size k s e d (to_half i vs v t) = plain_write R image log ws a b q size k s e d not_one (not_both (current image log) (a / 2) i)
  where
    not_one : a ≢ 1
    not_one n = let past = past_zero (free_half image log) (a / 2) i in omega arith
write_shows R image log ws a b q size k s e d (to_zero ea eb vs v t) = plain_write R image log ws a b q size k s e d (λ n. omega (arith, n, ea)) (λ i. let past = past_zero (current image log) (a / 2) i in omega arith)
write_shows R image log ws a b q size k s e d (to_one ea eb v z) =
    rw (ea, eb) (flip_write R image log ws q size s (s.laying ws k.stands) (rw (ea, eb) at e) (rw (ea, eb) at d) v)

same_laying : (R image : List ℕ) (log log2 : Log) (ws : List (ℕ × ℕ)) → offered log2 ≡ offered log → ((a : ℕ) → byte image log2 a ≡ byte image log a) → Laying R image log ws → Laying R image log2 ws
same_laying R image log log2 ws o b y = record {
  draft = y.draft;
  half = y.half;
  first = y.first;
  count = y.count;
  checked = y.checked;
  left = y.left;
  accepted = o ∙ y.accepted;
  free = y.free ∙ ap (λ v. other (half_of_high v)) (sym (b 1));
  done = λ k l m. b (2 * base y.half + k) ∙ y.done k l m;
}

-- a line that writes nothing
pub same_line : (R image : List ℕ) (log : Log) (event : Happening) (entry : Shown) → Shows R image log →
    ((v : ℕ × ℕ) (vs : List (ℕ × ℕ)) → open_run ((event ⟼ entry) ∷ log) ≡ Some (v ∷ vs) → open_run log ≡ Some (v ∷ vs)) →
    before_flip ((event ⟼ entry) ∷ log) ≡ before_flip log →
    ((a : ℕ) → byte image ((event ⟼ entry) ∷ log) a ≡ byte image log a) →
    ((n : ℕ) → publication log ≡ Some n → IsNoLater n log event entry) →
    ((v : ℕ × ℕ) (vs : List (ℕ × ℕ)) → open_run ((event ⟼ entry) ∷ log) ≡ Some (v ∷ vs) → (m : ℕ) → IsNoLater m log event entry) →
    ((ws : List (ℕ × ℕ)) → place_of_life (life image ((event ⟼ entry) ∷ log)) ≡ Some (Writing ws) → Laying R image ((event ⟼ entry) ∷ log) ws) →
    Shows R image ((event ⟼ entry) ∷ log)
same_line R image log event entry s o f b n rn lays =
    carried R image log event entry s o f n rn (b 1)
    (λ F c h k l. b (2 * base (current image log) + k) ∙ h k l)
    (λ h F c words d x y k l. b (2 * base h + k) ∙ y k l)
    lays

-- the same where the life goes on as it was
pub same_life : (R image : List ℕ) (log : Log) (event : Happening) (entry : Shown) → Shows R image log →
    ((v : ℕ × ℕ) (vs : List (ℕ × ℕ)) → open_run ((event ⟼ entry) ∷ log) ≡ Some (v ∷ vs) → open_run log ≡ Some (v ∷ vs)) →
    before_flip ((event ⟼ entry) ∷ log) ≡ before_flip log →
    ((a : ℕ) → byte image ((event ⟼ entry) ∷ log) a ≡ byte image log a) →
    ((n : ℕ) → publication log ≡ Some n → IsNoLater n log event entry) →
    ((v : ℕ × ℕ) (vs : List (ℕ × ℕ)) → open_run ((event ⟼ entry) ∷ log) ≡ Some (v ∷ vs) → (m : ℕ) → IsNoLater m log event entry) →
    life image ((event ⟼ entry) ∷ log) ≡ life image log → offered ((event ⟼ entry) ∷ log) ≡ offered log →
    Shows R image ((event ⟼ entry) ∷ log)
same_life R image log event entry s o f b n rn l y =
    same_line R image log event entry s o f b n rn
    (λ ws e. same_laying R image log ((event ⟼ entry) ∷ log) ws y b (s.laying ws (ap place_of_life (sym l) ∙ e)))
