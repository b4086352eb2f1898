-- From every log a frame can come to be drawn.
use Rattle.std.proofs.Common.{◌≡◌, ℕ, ◌+◌, ◌*◌, ◌≤◌, List, [], ◌∷◌, ◌++◌, length, Option, Some, None, Bool, true, refl, sym, ap, ◌∙◌, subst, arith, append_assoc}
use Rattle.std.specs.Prelude.{◌≢◌}
use Rattle.std.proofs.lemmas.List.{length-append}
use Rattle.std.proofs.lemmas.Option.{same_Some}
use Rattle.dvg_gen.specs.declared.stroke.Stroke.{Stroke}
use Rattle.dvg_frame.specs.declared.op.OpKind.{OpKind}
use Rattle.dvg_frame.specs.Ops.{IsDraft}
use Rattle.dvg_frame.specs.Faults.{Accepts}
use Rattle.dvg_frame.specs.Layout.{size}
use Rattle.dvg_frame.specs.Picture.{IsPicture, IsBound}
use Rattle.dvg_frame.proofs.Pictures.{one_picture}
use Rattle.dvg_driver.specs.Script.{has_flip}
use Rattle.dvg_driver.specs.Place.{Resting, place_of_life}
use Rattle.dvg_driver.proofs.Shapes.{rests_whole}
use Rattle.dvg_log.specs.Events.{Happening}
use Rattle.dvg_log.specs.declared.event.Event.TheVariants.{Offer, Strobe, Fetch, ResetGen, ResetCpu, ResetAll}
use Rattle.dvg_log.specs.declared.entry.Entry.TheVariants.{Offered, Started, Done}
use Rattle.dvg_log.specs.Log.{Line, ◌⟼◌, Log, Throughout, open_run, life, strobed, published}
use Rattle.dvg_log.specs.Legal.{IsLegal}
use Rattle.dvg_theorem.proofs.DrawnHalfSpared.{kept}
use Rattle.dvg_theorem.proofs.Words.{words_are_whole}
use Rattle.dvg_progress.specs.Progress.{Without, ticks, NeverStuck}
use Rattle.dvg_progress.proofs.FetchedToEnd.{Fetches, no_fetches, one_fetch, can_draw, Draws}
use Rattle.dvg_progress.proofs.Lives.{LivesOn}
use Rattle.dvg_progress.proofs.Newest.{NotAll, NotStrobe, newest_on}
use Rattle.dvg_progress.proofs.StrobeByTwoTicks.{send_on, is_sent}
use Rattle.dvg_progress.proofs.DriverTicksOn.{Ticks, no_ticks, one_tick, some_ticks, rests}
use Rattle.dvg_progress.proofs.WayOfFrame.{reached, time_low}
use Rattle.dvg_progress.proofs.WritesUntilFlip.{time_is}

-- neither end is reset
abbrev resets : List Happening
resets = ResetGen ∷ ResetCpu ∷ []

-- the newer log comes by at most this many events, with no reset
record Reaches (old new : Log) (most : ℕ) : Type 0 where
  later : Log
  split : new ≡ later ++ old
  without : Without resets later
  few : length later ≤ most

both_without : (one other : Log) → Without resets one → Without resets other → Without resets (one ++ other)
both_without [] other one_is other_is = other_is
both_without ((ResetAll bytes ⟼ entry) ∷ one) other one_is other_is = absurd one_is
both_without ((event ⟼ entry) ∷ one) other one_is other_is = (one_is.0, both_without one other one_is.1 other_is)

and_then : {old mid new : Log} {few more : ℕ} → Reaches old mid few → Reaches mid new more
    → Reaches old new (few + more)
and_then {old = old} one other =
    let long = length-append other.later one.later in
    let few_one = one.few in
    let few_other = other.few in
    record {
      later = other.later ++ one.later;
      split = other.split ∙ ap (λ log. other.later ++ log) one.split ∙ sym (append_assoc other.later one.later old);
      without = both_without other.later one.later other.without one.without;
      few = omega arith;
    }

later_reaches : (log later : Log) → Without resets later → Reaches log (later ++ log) (length later)
later_reaches log later without = record { later = later; split = refl; without = without; few = omega arith }

at_most : {old new : Log} {few most : ℕ} → few ≤ most → Reaches old new few → Reaches old new most
at_most room path =
    let few = path.few in
    record { later = path.later; split = path.split; without = path.without; few = omega arith }

fetches_without : (later : Log) → Fetches later → Without resets later
fetches_without [] no_fetches = tt
fetches_without _ (one_fetch entry only) = ((λ e. cc, (λ e. cc, tt)), fetches_without _ only)

ticks_without : (later : Log) → Ticks later → Without resets later
ticks_without [] no_ticks = tt
ticks_without _ (one_tick action only) = ((λ e. cc, (λ e. cc, tt)), ticks_without _ only)

ticks_live : (later : Log) → Ticks later → Throughout LivesOn later
ticks_live [] no_ticks = tt
ticks_live _ (one_tick action only) = (tt, ticks_live _ only)

ticks_all : (later : Log) → Ticks later → Throughout (λ log event entry. NotAll event) later
ticks_all [] no_ticks = tt
ticks_all _ (one_tick action only) = (tt, ticks_all _ only)

ticks_strobe : (later : Log) → Ticks later → Throughout (λ log event entry. NotStrobe event) later
ticks_strobe [] no_ticks = tt
ticks_strobe _ (one_tick action only) = (tt, ticks_strobe _ only)

ticks_frame : (later : Log) → Ticks later → Throughout (λ _ _ entry. entry ≢ Offered) later
ticks_frame [] no_ticks = tt
ticks_frame _ (one_tick action only) = (λ e. cc, ticks_frame _ only)

strobe_reaches : (log : Log) → Reaches log ((Strobe ⟼ Started) ∷ log) 1
strobe_reaches log = record {
  later = (Strobe ⟼ Started) ∷ [];
  split = refl;
  without = ((λ e. cc, (λ e. cc, tt)), tt);
  few = omega arith;
}

offer_reaches : (log : Log) (F : List OpKind) → Reaches log ((Offer F ⟼ Offered) ∷ log) 1
offer_reaches log F = record {
  later = (Offer F ⟼ Offered) ∷ [];
  split = refl;
  without = ((λ e. cc, (λ e. cc, tt)), tt);
  few = omega arith;
}

module _ (R image : List ℕ) where
  -- no run is open any more
  record Closes (log : Log) (most : ℕ) : Type 0 where
    now : Log
    legal : IsLegal R image now
    none : open_run now ≡ None
    reaches : Reaches log now most

  -- a frame was drawn, by one more fetch
  record Drawn (log : Log) (F : List OpKind) (n most : ℕ) : Type 0 where
    now : Log
    address : ℕ
    word : ℕ
    drew : List Stroke
    legal : IsLegal R image ((Fetch ⟼ Done address word drew) ∷ now)
    picture : IsPicture F R drew n
    reaches : Reaches log now most

  drawn_by : (log : Log) (draws : Draws R image log) → Drawn log draws.draft draws.n (2 * draws.n)
  drawn_by log draws =
      let done = draws.done in
      let long = done.count_is in
      let begun : Log = (Strobe ⟼ Started) ∷ log in
      let fetches : Reaches begun (done.later ++ begun) (length done.later) =
      later_reaches begun done.later (fetches_without done.later done.fetched_all) in
      record {
        now = done.later ++ begun;
        address = done.address;
        word = done.word;
        drew = draws.drew;
        legal = done.legal;
        picture = draws.picture;
        reaches = at_most (omega arith) (and_then (strobe_reaches log) fetches);
      }

  -- where a strobe was sent the frame that is newest can be drawn
  draws_newest : (log : Log) (F : List OpKind) (n : ℕ) → IsLegal R image log → strobed log ≡ true
      → published log ≡ Some F → IsBound F R n → Drawn log F n (2 * n)
  draws_newest log F n l sent newest bound =
      let draws = can_draw R image log l sent in
      let same : draws.draft ≡ F = same_Some _ _ (sym draws.newest ∙ newest) in
      let drawn : Drawn log F draws.n (2 * draws.n) =
      subst (λ G. Drawn log G draws.n (2 * draws.n)) same (drawn_by log draws) in
      let words : draws.n ≡ n = (one_picture F R bound.0 drawn.drew n draws.n bound.1
      drawn.picture).1 in
      subst (λ k. Drawn log F k (2 * k)) words drawn

  -- a run that is open is begun anew, and fetched to its end
  closes : (log : Log) (m : ℕ) → IsLegal R image log
      → ((G : List OpKind) (k : ℕ) → published log ≡ Some G → IsBound G R k → k ≤ m) → Closes log (2 * m + 1)
  closes log m l low = by (open_run log) refl
    where
      by : (run : Option (List (ℕ × ℕ))) → open_run log ≡ run → Closes log (2 * m + 1)
      by None o = record { now = log; legal = l; none = o; reaches = at_most (omega arith) (later_reaches log [] tt) }
      by (Some words) o =
          let draws = can_draw R image log l ((kept R image log l
          (words_are_whole R image log l)).1.started words o) in
          let short = low draws.draft draws.n draws.newest (draws.drew, draws.picture) in
          let drawn = drawn_by log draws in
          let last : Line = Fetch ⟼ Done drawn.address drawn.word drawn.drew in
          let one : Reaches drawn.now (last ∷ drawn.now) 1 =
          later_reaches drawn.now (last ∷ []) ((λ e. cc, (λ e. cc, tt)), tt) in
          record {
            now = last ∷ drawn.now;
            legal = drawn.legal;
            none = refl;
            reaches = at_most (omega arith) (and_then drawn.reaches one);
          }

  -- a frame was written and its strobe sent
  record Sends (log : Log) (F : List OpKind) (most : ℕ) : Type 0 where
    now : Log
    legal : IsLegal R image now
    newest : published now ≡ Some F
    sent : strobed now ≡ true
    reaches : Reaches log now most

  -- the driver rests
  sends_at_rest : (log : Log) (F : List OpKind) (first : Bool) → IsLegal R image log
      → open_run log ≡ None → IsDraft F → Accepts F R → place_of_life (life image log) ≡ Some (Resting first)
      → Sends log F (2 * size F + 5)
  sends_at_rest log F first l none draft accepts rests =
      let taken : Log = (Offer F ⟼ Offered) ∷ log in
      let taken_legal : IsLegal R image taken =
      ((accepts, rests_whole (life image log) first rests), draft, l) in
      let writes = some_ticks R image taken (2 * size F + 2) taken_legal in
      let written : Log = writes.later ++ taken in
      let sends = some_ticks R image written 2 writes.legal in
      let long_writes = writes.long in
      let long_sends = sends.long in
      let time = time_is R image log F in
      let most = time_low (has_flip (life image log)) in
      let count_writes = writes.count_is in
      let count_sends = sends.count_is in
      let flipped = reached R image F log writes.later writes.legal
      (ticks_live writes.later writes.only) (ticks_frame writes.later writes.only)
      (omega arith) in
      let newest = newest_on R image F written flipped.0 sends.later sends.legal
      (ticks_all sends.later sends.only) (ticks_frame sends.later sends.only) in
      let ready = send_on R image written sends.later sends.legal
      (ticks_live sends.later sends.only) (ticks_strobe sends.later sends.only)
      (writes.run_is ∙ none) flipped.1 in
      let to_written : Reaches taken written (length writes.later) =
      later_reaches taken writes.later (ticks_without writes.later writes.only) in
      let to_sent : Reaches written (sends.later ++ written) (length sends.later) =
      later_reaches written sends.later (ticks_without sends.later sends.only) in
      record {
        now = sends.later ++ written;
        legal = sends.legal;
        newest = newest.newest;
        sent = is_sent image (sends.later ++ written) (ticks sends.later) (omega arith) ready.1;
        reaches = at_most (omega arith) (and_then (offer_reaches log F) (and_then to_written to_sent));
      }

  sends_frame : (log : Log) (F : List OpKind) → IsLegal R image log → open_run log ≡ None
      → IsDraft F → Accepts F R → Sends log F (2 * size F + 1031)
  sends_frame log F l none draft accepts =
      let rest = rests R image log l none in
      let few = rest.few in
      let resting : Reaches log (rest.later ++ log) (length rest.later) =
      later_reaches log rest.later (ticks_without rest.later rest.only) in
      let sends = sends_at_rest (rest.later ++ log) F rest.first rest.legal (rest.run_is ∙ none)
      draft accepts rest.stands in
      record {
        now = sends.now;
        legal = sends.legal;
        newest = sends.newest;
        sent = sends.sent;
        reaches = at_most (omega arith) (and_then resting sends.reaches);
      }

-- the same log, by what came
as_split : (R image : List ℕ) {old new : Log} {most : ℕ} (path : Reaches old new most) (a w : ℕ)
    (drew : List Stroke) → IsLegal R image ((Fetch ⟼ Done a w drew) ∷ new)
    → IsLegal R image ((Fetch ⟼ Done a w drew) ∷ path.later ++ old)
as_split R image path a w drew l = subst (λ all. IsLegal R image ((Fetch ⟼ Done a w drew) ∷ all)) path.split l

pub never_stuck : NeverStuck
never_stuck R image log F m n l draft accepts bound low =
    let closed = closes R image log m l low in
    let sends = sends_frame R image closed.now F closed.legal closed.none draft accepts in
    let drawn = draws_newest R image sends.now F n sends.legal sends.sent sends.newest bound in
    let path = and_then closed.reaches (and_then sends.reaches drawn.reaches) in
    let few = path.few in (
      path.later,
      drawn.address,
      drawn.word,
      drawn.drew,
      as_split R image path drawn.address drawn.word drawn.drew drawn.legal,
      drawn.picture,
      path.without,
      omega arith,
    )
