-- The driver can always tick, and with no run open it comes to rest.
use Rattle.std.proofs.Common.{◌≡◌, ℕ, zero, suc, ◌+◌, ◌-◌, ◌≤◌, List, [], ◌∷◌, ◌++◌, length, Some, None, Bool, true, false, refl, sym, ap, ◌∙◌, subst, arith, append_assoc}
use Rattle.std.specs.Prelude.{is_none, if◌then◌else◌}
use Rattle.std.proofs.lemmas.List.{length-drop, length-append}
use Rattle.std.proofs.lemmas.Option.{none-some, same_Some}
use Rattle.dvg_mem.specs.declared.half.Half.{Half}
use Rattle.dvg_frame.specs.declared.op.OpKind.{OpKind}
use Rattle.dvg_frame.specs.Layout.{size}
use Rattle.dvg_frame.proofs.Sizes.{laid_length}
use Rattle.dvg_driver.specs.declared.action.Action.{Action}
use Rattle.dvg_driver.specs.declared.action.Action.TheVariants.{Peek, Wrote, Read}
use Rattle.dvg_driver.specs.Script.{Did, frame_writes}
use Rattle.dvg_driver.specs.Place.{Place, Start, Booting, Resting, Writing, Waiting, Sending, next_place, place_of_life, with_left}
use Rattle.dvg_driver.specs.Stands.{ShowsFlag}
use Rattle.dvg_driver.proofs.OneAction.{one_action}
use Rattle.dvg_driver.proofs.Shapes.{place_life}
use Rattle.dvg_log.specs.declared.event.Event.TheVariants.{Tick}
use Rattle.dvg_log.specs.Entries.{Shown}
use Rattle.dvg_log.specs.declared.entry.Entry.TheVariants.{Acted}
use Rattle.dvg_log.specs.Log.{◌⟼◌, Log, open_run, life}
use Rattle.dvg_log.specs.Legal.{IsLegal}
use Rattle.dvg_theorem.proofs.DrawnHalfSpared.{kept}
use Rattle.dvg_theorem.proofs.Later.{shows}
use Rattle.dvg_theorem.proofs.LeastMemory.{fits}
use Rattle.dvg_theorem.proofs.Words.{words_are_whole}
use Rattle.dvg_progress.specs.Progress.{ticks}
use Rattle.dvg_progress.proofs.Lives.{ticked}
use Rattle.dvg_progress.proofs.StrobeAfterFlip.{waiting_next, sending_next}
use Rattle.dvg_progress.proofs.WritesUntilFlip.{frame_time, next_wrote}
use Rattle.dvg_theorem.proofs.Writes.{written}

-- ticks alone
pub data Ticks : Log → Type 0 where
  no_ticks : Ticks []
  one_tick : {log : Log} (action : Action) → Ticks log → Ticks ((Tick ⟼ Acted action) ∷ log)

-- one more tick is always legal
pub tick : (R image : List ℕ) (log : Log) → IsLegal R image log → (action : Action)
    × IsLegal R image ((Tick ⟼ Acted action) ∷ log)
tick R image log l =
    let k = kept R image log l (words_are_whole R image log l) in
    let one = one_action (life image log) (is_none (open_run log))
    (place_life (life image log) k.0 k.1.stands) in
    (one.0, ((one.1, one.2), tt, l))

-- this many ticks
pub record Some_ticks (R image : List ℕ) (log : Log) (count : ℕ) : Type 0 where
  pub later : Log
  pub only : Ticks later
  pub legal : IsLegal R image (later ++ log)
  pub run_is : open_run (later ++ log) ≡ open_run log
  pub count_is : ticks later ≡ count
  pub long : length later ≡ count

pub some_ticks : (R image : List ℕ) (log : Log) (count : ℕ) → IsLegal R image log → Some_ticks R image log count
some_ticks R image log zero l = record
    { later = []; only = no_ticks; legal = l; run_is = refl; count_is = refl; long = refl }
some_ticks R image log (suc count) l =
    let before = some_ticks R image log count l in
    let one = tick R image (before.later ++ log) before.legal in
    record {
      later = (Tick ⟼ Acted one.0) ∷ before.later;
      only = one_tick one.0 before.only;
      legal = one.1;
      run_is = before.run_is;
      count_is = ap suc before.count_is;
      long = ap suc before.long;
    }

-- the driver rests after at most this many ticks
pub record Rests (R image : List ℕ) (log : Log) (most : ℕ) : Type 0 where
  pub later : Log
  pub only : Ticks later
  pub legal : IsLegal R image (later ++ log)
  pub run_is : open_run (later ++ log) ≡ open_run log
  pub first : Bool
  pub stands : place_of_life (life image (later ++ log)) ≡ Some (Resting first)
  pub few : length later ≤ most

ticks_before : (later : Log) (action : Action) → Ticks later → Ticks (later ++ (Tick ⟼ Acted action) ∷ [])
ticks_before [] action no_ticks = one_tick action no_ticks
ticks_before _ action (one_tick other only) = one_tick other (ticks_before _ action only)

-- one tick before these
before_it : (R image : List ℕ) (log : Log) (action : Action) (most : ℕ)
    → Rests R image ((Tick ⟼ Acted action) ∷ log) most → Rests R image log (suc most)
before_it R image log action most rests =
    let same : rests.later ++ (Tick ⟼ Acted
    action) ∷ log ≡ (rests.later ++ (Tick ⟼ Acted action) ∷ []) ++ log =
    sym (append_assoc rests.later ((Tick ⟼ Acted action) ∷ []) log) in
    let long = length-append rests.later ((Tick ⟼ Acted action) ∷ []) in
    let few = rests.few in
    record {
      later = rests.later ++ (Tick ⟼ Acted action) ∷ [];
      only = ticks_before rests.later action rests.only;
      legal = subst (IsLegal R image) same rests.legal;
      run_is = sym (ap open_run same) ∙ rests.run_is;
      first = rests.first;
      stands = sym (ap (λ all. place_of_life (life image all)) same) ∙ rests.stands;
      few = omega arith;
    }

start_next : (action : Action) (to : Place) → next_place Start (Did action) ≡ Some to → to ≡ Booting
start_next Peek to next = sym (same_Some _ _ next)
start_next _ to next = absurd (cc)

booting_next : (action : Action) (to : Place) (halted : Bool)
    → next_place Booting (Did action) ≡ Some to → ShowsFlag action halted → to ≡ (if halted then Resting true else Booting)
booting_next (Read shown) to halted next tells = sym (same_Some _ _ next)
    ∙ ap (λ h. if h then Resting true else Booting) tells
booting_next _ to halted next tells = absurd (cc)

never_empty : (action : Action) (to : Place) → next_place (Writing []) (Did action) ≡ Some to → ⊥
never_empty (Wrote a b) to next = none-some to next
never_empty _ to next = none-some to next

acted_is : {one other : Action} → ◌≡◌ {A = Shown} (Acted one) (Acted other) → one ≡ other
acted_is e = cc

module _ (R image : List ℕ) where
  -- the next tick, by the place
  record Next (log : Log) (place : Place) : Type 0 where
    action : Action
    legal : IsLegal R image ((Tick ⟼ Acted action) ∷ log)
    to : Place
    next : next_place place (Did action) ≡ Some to
    stands : place_of_life (life image ((Tick ⟼ Acted action) ∷ log)) ≡ Some to
    tells : ShowsFlag action (is_none (open_run log))

  next_tick : (log : Log) (place : Place) → IsLegal R image log
      → place_of_life (life image log) ≡ Some place → Next log place
  next_tick log place l stands =
      let one = tick R image log l in
      let t = ticked R image log (Acted one.0) place one.1 stands in
      let same : t.action ≡ one.0 = sym (acted_is t.is) in
      record {
        action = one.0;
        legal = one.1;
        to = t.to;
        next = subst (λ action. next_place place (Did action) ≡ Some t.to) same t.next;
        stands = subst (λ action. place_of_life (Did action ∷ life image log) ≡ Some t.to) same t.stands;
        tells = subst (λ action. ShowsFlag action (is_none (open_run log))) same t.tells;
      }

  rests_now : (log : Log) (first : Bool) (most : ℕ) → IsLegal R image log
      → place_of_life (life image log) ≡ Some (Resting first) → Rests R image log most
  rests_now log first most l stands =
      record {
        later = [];
        only = no_ticks;
        legal = l;
        run_is = refl;
        first = first;
        stands = stands;
        few = omega arith;
      }

  more_room : (log : Log) (few most : ℕ) → few ≤ most → Rests R image log few → Rests R image log most
  more_room log few most room rests =
      let less = rests.few in
      record {
        later = rests.later;
        only = rests.only;
        legal = rests.legal;
        run_is = rests.run_is;
        first = rests.first;
        stands = rests.stands;
        few = omega arith;
      }

  from_sending : (log : Log) (first : Bool) → IsLegal R image log
      → place_of_life (life image log) ≡ Some (Sending first) → Rests R image log 1
  from_sending log first l stands =
      let t = next_tick log (Sending first) l stands in
      let next = sending_next first t.action t.to t.next in
      before_it R image log t.action 0 (rests_now ((Tick ⟼ Acted t.action) ∷ log) first 0 t.legal
      (t.stands ∙ ap Some next.1))

  from_waiting : (log : Log) (first : Bool) → IsLegal R image log → open_run log ≡ None
      → place_of_life (life image log) ≡ Some (Waiting first) → Rests R image log 2
  from_waiting log first l none stands =
      let t = next_tick log (Waiting first) l stands in
      let next = waiting_next first t.action t.to (is_none (open_run log)) t.next t.tells in
      let to : t.to ≡ Sending first = next.1
      ∙ ap (λ run. if is_none run then Sending first else Waiting first) none in
      before_it R image log t.action 1 (from_sending ((Tick ⟼ Acted t.action) ∷ log) first t.legal
      (t.stands ∙ ap Some to))

  from_booting : (log : Log) → IsLegal R image log → open_run log ≡ None
      → place_of_life (life image log) ≡ Some Booting → Rests R image log 1
  from_booting log l none stands =
      let t = next_tick log Booting l stands in
      let to : t.to ≡ Resting true = booting_next t.action t.to (is_none (open_run log)) t.next
      t.tells ∙ ap (λ run. if is_none run then Resting true else Booting) none in
      before_it R image log t.action 0 (rests_now ((Tick ⟼ Acted t.action) ∷ log) true 0 t.legal
      (t.stands ∙ ap Some to))

  from_start : (log : Log) → IsLegal R image log → open_run log ≡ None
      → place_of_life (life image log) ≡ Some Start → Rests R image log 2
  from_start log l none stands =
      let t = next_tick log Start l stands in
      before_it R image log t.action 1 (from_booting ((Tick ⟼ Acted t.action) ∷ log) t.legal none
      (t.stands ∙ ap Some (start_next t.action t.to t.next)))

  from_left : (writes : List (ℕ × ℕ)) (log : Log) → IsLegal R image log → open_run log ≡ None
      → place_of_life (life image log) ≡ Some (with_left writes) → Rests R image log (length writes + 2)
  from_left [] log l none stands = from_waiting log false l none stands
  from_left (write ∷ writes) log l none stands =
      let t = next_tick log (Writing (write ∷ writes)) l stands in
      let w = next_wrote (write ∷ writes) t.action t.to (omega arith) t.next in
      let to : t.to ≡ with_left writes = sym (written write.0 w.0 write.1 w.1 writes t.to w.3).2 in
      more_room log (suc (length writes + 2)) (length (write ∷ writes) + 2) (omega arith)
      (before_it R image log t.action (length writes + 2)
      (from_left writes ((Tick ⟼ Acted t.action) ∷ log) t.legal none (t.stands ∙ ap Some to)))

  frame_short : (half : Half) (F : List OpKind) (first : Bool) → size F ≤ 511
      → length (frame_writes half F first) ≤ 1024
  frame_short half F true few = let time = frame_time half F false in omega arith
  frame_short half F false few = let time = frame_time half F true in omega arith

  writes_short : (log : Log) (writes : List (ℕ × ℕ)) → IsLegal R image log
      → place_of_life (life image log) ≡ Some (Writing writes) → length writes ≤ 1024
  writes_short log writes l stands =
      let laying = (shows R image log l (words_are_whole R image log l)).0.laying writes stands in
      let all = frame_writes laying.half laying.draft laying.first in
      let left : length writes ≡ length all - laying.count = ap length laying.left
      ∙ length-drop laying.count all in
      let fit = fits laying.half laying.draft R laying.checked in
      let words = laid_length laying.half laying.draft in
      let short = frame_short laying.half laying.draft laying.first (omega arith) in
      omega arith

  from_writing : (log : Log) (writes : List (ℕ × ℕ)) → IsLegal R image log → open_run log ≡ None
      → place_of_life (life image log) ≡ Some (Writing writes) → Rests R image log 1026
  from_writing log [] l none stands = let t = next_tick log (Writing []) l stands in
      absurd (never_empty t.action t.to t.next)
  from_writing log (write ∷ writes) l none stands =
      let short = writes_short log (write ∷ writes) l stands in
      more_room log (length (write ∷ writes) + 2) 1026 (omega arith)
      (from_left (write ∷ writes) log l none stands)

  from_place : (log : Log) (place : Place) → IsLegal R image log → open_run log ≡ None
      → place_of_life (life image log) ≡ Some place → Rests R image log 1026
  from_place log Start l none stands = more_room log 2 1026 (omega arith) (from_start log l none stands)
  from_place log Booting l none stands = more_room log 1 1026 (omega arith) (from_booting log l none stands)
  from_place log (Resting first) l none stands = rests_now log first 1026 l stands
  from_place log (Writing writes) l none stands = from_writing log writes l none stands
  from_place log (Waiting first) l none stands =
      more_room log 2 1026 (omega arith) (from_waiting log first l none stands)
  from_place log (Sending first) l none stands = more_room log 1 1026 (omega arith) (from_sending log first l stands)

  -- with no run open, the driver comes to rest
  pub rests : (log : Log) → IsLegal R image log → open_run log ≡ None → Rests R image log 1026
  rests log l none = let k = kept R image log l (words_are_whole R image log l) in
      from_place log k.0 l none k.1.stands
