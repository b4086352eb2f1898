-- After an accepted offer the driver writes, until it has flipped.
use Rattle.std.proofs.Common.{◌≡◌, ℕ, suc, ◌+◌, ◌*◌, ◌<◌, ◌≤◌, Bool, true, false, not, List, [], ◌∷◌, ◌++◌, length, take, drop, reverse, slice_get, Some, refl, sym, ap, ◌∙◌, subst, arith}
use Rattle.std.specs.Prelude.{if◌then◌else◌, option_and_then}
use Rattle.std.proofs.Math.Seq.{take-suc}
use Rattle.std.proofs.lemmas.List.{length-append, length-drop, drop_all, take_all, map-append, reverse-append}
use Rattle.std.proofs.lemmas.Option.{slice_get_within, get_or_from_slice_get}
use Rattle.dvg_mem.specs.declared.half.Half.{Half}
use Rattle.dvg_mem.specs.Areas.{base}
use Rattle.dvg_frame.specs.declared.op.OpKind.{OpKind}
use Rattle.dvg_frame.specs.Bytes.{addressed, bytes}
use Rattle.dvg_frame.specs.Layout.{laid, size}
use Rattle.dvg_frame.proofs.Bytes.{bytes-length, addressed-length}
use Rattle.dvg_frame.proofs.Sizes.{laid_length}
use Rattle.dvg_driver.specs.declared.action.Action.{Action}
use Rattle.dvg_driver.specs.declared.action.Action.TheVariants.{Wrote}
use Rattle.dvg_driver.specs.Script
use Rattle.dvg_driver.specs.Script.{Item, Did, has_flip, word_zero, frame_writes, wrote}
use Rattle.dvg_driver.specs.Place.{Place, Writing, Waiting, next_place, place_of_life, with_left, after_write}
use Rattle.dvg_driver.proofs.Places.{whole_rests, with_left-append}
use Rattle.dvg_log.specs.Events.{Happening}
use Rattle.dvg_log.specs.declared.event.Event.TheVariants.{Offer, Tick}
use Rattle.dvg_log.specs.Entries.{Shown}
use Rattle.dvg_log.specs.declared.entry.Entry.TheVariants.{Offered, Acted}
use Rattle.dvg_log.specs.Log.{◌⟼◌, Log, Throughout, free_half, life, offered, published}
use Rattle.dvg_log.specs.Legal.{IsLegal}
use Rattle.dvg_theorem.proofs.Bytes.{byte}
use Rattle.dvg_theorem.proofs.DrawnHalfSpared.{KeptBy, kept, same_place}
use Rattle.dvg_theorem.proofs.ToCome.{IsWrite, to_half, to_zero, to_one, is_write}
use Rattle.dvg_theorem.proofs.Words.{words_are_whole}
use Rattle.dvg_theorem.proofs.Writes.{written_at}
use Rattle.dvg_progress.specs.Progress.{ticks, PublishedInTime}
use Rattle.dvg_progress.proofs.Flipped.{EndsInFlip, here, past, frame_ends, rests_flipped}
use Rattle.dvg_progress.proofs.Lives.{IsBusy, LivesOn, lives_on, quiet, ticked}

-- how many writes a frame part has
pub frame_time : (half : Half) (F : List OpKind) (flipped : Bool)
    → length (frame_writes half F (not flipped)) ≡ 2 * size F + (if flipped then 1 else 2)
frame_time half F flipped =
    let front = addressed (2 * base half) (bytes (laid half F)) in
    let both = length-append front (word_zero half (not flipped)) in
    let front_is = addressed-length (2 * base half) (bytes (laid half F)) in
    let bytes_are = bytes-length (laid half F) in
    let words_are = laid_length half F in
    let end = zero_time half flipped in
    omega arith
  where
    zero_time : (half : Half) (flipped : Bool) → length (word_zero half (not flipped)) ≡ (if flipped then 1 else 2)
    zero_time half true = refl
    zero_time half false = refl

-- a flip is the last write
not_writing : (more : List (ℕ × ℕ)) (to : Place) → to ≡ Waiting false → to ≡ Writing more → ⊥
not_writing more to waits writes = let wrong = sym waits ∙ writes in cc

last_flips : (R image : List ℕ) (log : Log) (writes : List (ℕ × ℕ)) (a b : ℕ) (to : Place)
    → IsLegal R image log → place_of_life (life image log) ≡ Some (Writing writes)
    → after_write writes a b ≡ Some to → to ≡ Waiting false → a ≡ 1
last_flips R image log writes a b to l stands after waits =
    let k = kept R image log l (words_are_whole R image log l) in
    let at : KeptBy image log (Writing writes) =
    subst (KeptBy image log) (same_place (life image log) k.0 (Writing writes) k.1.stands
    stands) k.1 in
    by (is_write (free_half image log) (byte image log 0) writes at.here.1 a b to after)
  where
    by : IsWrite (free_half image log) (byte image log 0) a b to → a ≡ 1
    by (to_half inside more is todo) = absurd (not_writing more to waits is)
    by (to_zero at is_one more is todo) = absurd (not_writing more to waits is)
    by (to_one at is_high is z) = at

-- one more write
one_more : (writes : List (ℕ × ℕ)) (k a b : ℕ) → slice_get writes k ≡ Some (a, b)
    → reverse (wrote (take (suc k) writes)) ≡ Did (Wrote a b) ∷ reverse (wrote (take k writes))
one_more writes k a b found =
    let within = slice_get_within writes k (a, b) found in
    let item = get_or_from_slice_get writes k (a, b) (a, b) found in
    let front = take-suc writes k (a, b) within ∙ ap (λ write. take k writes ++ write ∷ []) item in
    let items = ap wrote front ∙ map-append (λ (write : ℕ × ℕ). Did (Wrote write.0 write.1))
    (take k writes) ((a, b) ∷ []) in
    ap reverse items ∙ reverse-append (wrote (take k writes)) (Did (Wrote a b) ∷ [])

-- where writes are left, the next action is the first of them
pub next_wrote : (left : List (ℕ × ℕ)) (action : Action) (to : Place) → 0 < length left
    → next_place (with_left left) (Did action) ≡ Some to → (a : ℕ) × (b : ℕ) × (action ≡ Wrote a b)
    × (after_write left a b ≡ Some to)
next_wrote [] action to some next = absurd (omega arith)
next_wrote (write ∷ left) (Wrote a b) to some next = (a, b, refl, next)
next_wrote (write ∷ left) _ to some next = absurd (cc)

left_writes : (left : List (ℕ × ℕ)) → 0 < length left → with_left left ≡ Writing left
left_writes [] some = absurd (omega arith)
left_writes (write ∷ left) some = refl

left_busy : (left : List (ℕ × ℕ)) → IsBusy (with_left left)
left_busy [] first is = absurd (cc)
left_busy (write ∷ left) first is = absurd (cc)

some_writes : (writes : List (ℕ × ℕ)) → EndsInFlip writes → 0 ≡ length writes → ⊥
some_writes writes here none = omega arith
some_writes writes (past ends) none = omega arith

module _ (R image : List ℕ) (before : Log) (F : List OpKind) where
  abbrev pub start : Log
  start = (Offer F ⟼ Offered) ∷ before

  abbrev pub all : List (ℕ × ℕ)
  all = frame_writes (free_half image before) F (not (has_flip (life image before)))

  -- what was written after this many ticks
  pub record SoFar (later : Log) : Type 0 where
    pub stands : place_of_life (life image (later ++ start)) ≡ Some (with_left (drop (ticks later) all))
    pub life_is : life image (later ++ start) ≡ reverse (wrote (take (ticks later) all)) ++ life image start
    pub accepted : offered (later ++ start) ≡ Some F
    pub flipped : ticks later ≡ length all → published (later ++ start) ≡ Some F

  begun : IsLegal R image start → SoFar []
  begun l =
      let rests = whole_rests (life image before) l.0.1 in
      let first = rests_flipped (life image before) rests.0 rests.1 in
      let half = free_half image before in
      let item : Item = Script.Offered half F in
      let front = addressed (2 * base half) (bytes (laid half F)) in
      record {
        stands = ap (option_and_then (λ p. next_place p item)) rests.1
            ∙ ap (λ flag. Some (Writing (frame_writes half F flag))) first
            ∙ ap Some (sym (with_left-append front half (not (has_flip (life image before)))));
        life_is = refl;
        accepted = refl;
        flipped = λ none. absurd (some_writes all (frame_ends half F (not (has_flip (life image before)))) none);
      }

  tick_step : (later : Log) (entry : Shown) → IsLegal R image ((Tick ⟼ entry) ∷ later ++ start)
      → ticks later < length all → SoFar later → SoFar ((Tick ⟼ entry) ∷ later)
  tick_step later entry l room so =
      let k = ticks later in
      let left = drop k all in
      let t = ticked R image (later ++ start) entry (with_left left) l so.stands in
      let count = length-drop k all in
      let some : 0 < length left = omega arith in
      let w = next_wrote left t.action t.to some t.next in
      let at = written_at all k w.0 w.1 t.to w.3 in
      let now : Some t.to ≡ Some (with_left (drop (suc k) all)) = ap Some (sym at.1) in
      let last : suc k ≡ length all → w.0 ≡ 1 =
      λ end. last_flips R image (later ++ start) left w.0 w.1 t.to l.2
      (so.stands ∙ ap Some (left_writes left some)) w.3
      (sym at.1 ∙ ap with_left (drop_all (suc k) all (omega arith))) in
      subst (λ shown. SoFar ((Tick ⟼ shown) ∷ later)) (sym (t.is ∙ ap Acted w.2)) (record {
        stands = subst (λ action. place_of_life (Did action ∷ life image (later ++ start)) ≡ Some
            (with_left (drop (suc k) all))) w.2 (t.stands ∙ now);
        life_is = ap (λ items. Did (Wrote w.0 w.1) ∷ items) so.life_is
            ∙ ap (λ items. items ++ life image start) (sym (one_more all k w.0 w.1 at.0));
        accepted = so.accepted;
        flipped = λ end. rw (last end) so.accepted;
      })

  plain_step : (later : Log) (event : Happening) (entry : Shown)
      → IsLegal R image ((event ⟼ entry) ∷ later ++ start) → LivesOn later event entry
      → ticks ((event ⟼ entry) ∷ []) ≡ 0 → ticks ((event ⟼ entry) ∷ later) ≡ ticks later → SoFar later
      → SoFar ((event ⟼ entry) ∷ later)
  plain_step later event entry l lives none same so =
      let q = quiet R image (later ++ start) event entry (with_left (drop (ticks later) all)) l
      lives none so.stands (left_busy (drop (ticks later) all)) in
      record {
        stands = ap place_of_life q.life_is ∙ so.stands ∙ ap (λ k. Some (with_left (drop k all))) (sym same);
        life_is = q.life_is ∙ so.life_is ∙ ap (λ k. reverse (wrote (take k all)) ++ life image start) (sym same);
        accepted = q.offered_is ∙ so.accepted;
        flipped = λ end. ap (option_and_then offered) q.flip_is ∙ so.flipped (sym same ∙ end);
      }

  step : (later : Log) (event : Happening) (entry : Shown)
      → IsLegal R image ((event ⟼ entry) ∷ later ++ start) → LivesOn later event entry
      → ticks ((event ⟼ entry) ∷ later) ≤ length all → SoFar later → SoFar ((event ⟼ entry) ∷ later)
  step later Tick entry l lives room so = tick_step later entry l (omega arith) so
  step later event entry l lives room so = plain_step later event entry l lives refl refl so

  fewer : (later : Log) (event : Happening) (entry : Shown)
      → ticks ((event ⟼ entry) ∷ later) ≤ length all → ticks later ≤ length all
  fewer later Tick entry room = omega arith
  fewer later event entry room = room

  pub so_far : (later : Log) → IsLegal R image (later ++ start) → Throughout LivesOn later
      → ticks later ≤ length all → SoFar later
  so_far [] l lives room = begun l
  so_far ((event ⟼ entry) ∷ later) l lives room =
      step later event entry l lives.0 room
      (so_far later l.2 lives.1 (fewer later event entry room))

  pub time_is : length all ≡ 2 * size F + (if has_flip (life image before) then 1 else 2)
  time_is = frame_time (free_half image before) F (has_flip (life image before))

pub published_in_time : PublishedInTime
published_in_time R image before later F l lives time =
    let all_is = time_is R image before F in
    let end : ticks later ≡ length (all R image before F) = time ∙ sym all_is in
    let so = so_far R image before F later l (lives_on later lives) (omega arith) in
    let whole : take (ticks later) (all R image before F) ≡ all R image before F =
    take_all (ticks later) (all R image before F) (omega arith) in (
      so.life_is ∙ ap (λ writes. reverse (wrote writes) ++ life image (start R image before F)) whole,
      so.flipped end,
    )
