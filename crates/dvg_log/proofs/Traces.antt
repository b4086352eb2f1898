-- The events of traces.
use Rattle.std.proofs.Common.{◌≡◌, ℕ, zero, suc, ◌+◌, ◌-◌, ◌<◌, ◌≤◌, ◌≢◌, ⊎_elim, List, [], ◌∷◌, ◌++◌, map, replicate, length, take, drop, get_or, set, slice_get, All, Option, Some, None, refl, sym, ap, ◌∙◌, subst, arith, append_assoc, length-append}
use Rattle.std.proofs.lemmas.Bool.Decides.{eqb_tells}
use Rattle.std.proofs.lemmas.Grind.{flat_map-append, get_or-set_at}
use Rattle.std.proofs.lemmas.List.{append-nil, replicate-append-replicate, get_or_append_left, get_or-set_other, length-replicate, map-append, take-append-le, drop-append-le, length-drop, length-map, length-take}
use Rattle.std.proofs.lemmas.List.Elements.{All-append, All-drop, All-head, All-nil, All-push, All-tail, All-take}
use Rattle.std.proofs.lemmas.List.Sums.{sum_by-append, sum_by-cons}
use Rattle.std.proofs.lemmas.Option.{get_or_from_slice_get, none-some, same_Some, slice_get_within}
use Rattle.std.proofs.Math.Seq.{drop-append_seam, get_or-append_seam, take-length}
use Rattle.std.specs.List.{sum_by}
use Rattle.dvg_mem.specs.declared.TheConstants.{MEMORY_BYTES}
use Rattle.dvg_frame.specs.declared.draft.TheConstants.{MAX_OPS}
use Rattle.dvg_frame.specs.declared.op.OpKind.{OpKind}
use Rattle.dvg_frame.specs.Ops.{IsDraft, IsOp}
use Rattle.dvg_log.specs.Events.{Happening}
use Rattle.dvg_log.specs.declared.event.Event.TheVariants.{Offer, Redraw, Tick, Strobe, Fetch, ResetGen, ResetCpu, ResetAll}
use Rattle.dvg_log.specs.declared.runs.Run.{Run}
use Rattle.dvg_log.specs.declared.trace.TheConstants.{MOST_EVENTS}
use Rattle.dvg_log.specs.Traces.{Step, all_events, ops_in, run_events, step_event}
use Rattle.dvg_log.specs.own.Kept.{AreFilled, AreRuns, IsLonger, IsOfferIn, IsRunIn, IsTrace, IsWithin}

-- there are as many events as all runs have
pub length-all_events : (runs : List Run) (offers : List (List OpKind)) (images : List (List ℕ)) → length (all_events runs offers images) ≡ sum_by (λ run. run.times) runs
length-all_events [] offers images = refl
length-all_events (run ∷ runs) offers images =
    length-append (run_events offers images run) (all_events runs offers images)
    ∙ ap (λ n. n + length (all_events runs offers images)) (length-replicate run.times (step_event offers images run.step))
    ∙ ap (λ n. run.times + n) (length-all_events runs offers images)
    ∙ sym (sum_by-cons (λ (run : Run). run.times) run runs)

-- the events of one run more
pub one_run_more : (runs : List Run) (run : Run) (offers : List (List OpKind)) (images : List (List ℕ)) → all_events (runs ++ run ∷ []) offers images ≡ all_events runs offers images ++ run_events offers images run
one_run_more runs run offers images =
    flat_map-append (run_events offers images) runs (run ∷ []) ∙ ap (λ events. all_events runs offers images ++ events) (append-nil (run_events offers images run))

-- more operations change no offer before them
same_range : (ops more : List OpKind) (range : ℕ × ℕ) → range.0 + range.1 ≤ length ops → ops_in (ops ++ more) range ≡ ops_in ops range
same_range ops more (first, count) low =
    ap (take (first + count - first)) (drop-append-le first ops more (omega arith))
    ∙ take-append-le (first + count - first) (drop first ops) more (omega (arith, length-drop first ops))

same_offers : (ops more : List OpKind) (ranges : List (ℕ × ℕ)) → All (IsOfferIn ops) ranges → map (ops_in (ops ++ more)) ranges ≡ map (ops_in ops) ranges
same_offers ops more [] lie = refl
same_offers ops more (range ∷ ranges) lie =
    ap (λ F. F ∷ map (ops_in (ops ++ more)) ranges) (same_range ops more range (All-head (IsOfferIn ops) range ranges lie).0)
    ∙ ap (λ offers. ops_in ops range ∷ offers) (same_offers ops more ranges (All-tail (IsOfferIn ops) range ranges lie))

-- the last offer has the last operations
last_range : (ops F : List OpKind) (first count : ℕ) → first ≡ length ops → count ≡ length F → ops_in (ops ++ F) (first, count) ≡ F
last_range ops F first count begins counts =
    ap (λ n. take n (drop first (ops ++ F))) (let len : first + count - first ≡ length F = omega arith in len)
    ∙ (ap (λ k. take (length F) (drop k (ops ++ F))) begins ∙ (ap (take (length F)) (drop-append_seam ops F) ∙ take-length F))

-- the operations of one offer more are its own
one_draft_more : (ops F : List OpKind) (ranges : List (ℕ × ℕ)) (first count : ℕ) → All (IsOfferIn ops) ranges → first ≡ length ops → count ≡ length F
    → map (ops_in (ops ++ F)) (ranges ++ (first, count) ∷ []) ≡ map (ops_in ops) ranges ++ F ∷ []
one_draft_more ops F ranges first count lie begins counts =
    map-append (ops_in (ops ++ F)) ranges ((first, count) ∷ [])
    ∙ ap (λ G. map (ops_in (ops ++ F)) ranges ++ G ∷ []) (last_range ops F first count begins counts)
    ∙ ap (λ offers. offers ++ F ∷ []) (same_offers ops F ranges lie)

-- more offers and images change no step before them
same_step : (offers more : List (List OpKind)) (images others : List (List ℕ)) (s : Step) → IsWithin (length offers) (length images) s → step_event (offers ++ more) (images ++ others) s ≡ step_event offers images s
same_step offers more images others (Offer number) within = ap Offer (get_or_append_left offers more [] number within)
same_step offers more images others Redraw within = refl
same_step offers more images others Tick within = refl
same_step offers more images others Strobe within = refl
same_step offers more images others Fetch within = refl
same_step offers more images others ResetGen within = refl
same_step offers more images others ResetCpu within = refl
same_step offers more images others (ResetAll number) within = ap ResetAll (get_or_append_left images others [] number within)

same_events : (runs : List Run) (offers more : List (List OpKind)) (images others : List (List ℕ)) → All (IsRunIn (length offers) (length images)) runs → all_events runs (offers ++ more) (images ++ others) ≡ all_events runs offers images
same_events [] offers more images others within = refl
same_events (run ∷ runs) offers more images others within =
    let is_within = IsRunIn (length offers) (length images) in
    ap (λ event. replicate run.times event ++ all_events runs (offers ++ more) (images ++ others)) (same_step offers more images others run.step (All-head is_within run runs within).1)
    ∙ ap (λ events. run_events offers images run ++ events) (same_events runs offers more images others (All-tail is_within run runs within))

-- offers more, with their draft after all others
pub one_offer_more : (runs : List Run) (ops F : List OpKind) (ranges : List (ℕ × ℕ)) (images : List (List ℕ)) (first count number times : ℕ) → AreRuns runs ranges ops images → first ≡ length ops → count ≡ length F → number ≡ length ranges
    → all_events (runs ++ record { step = Offer number; times = times } ∷ []) (map (ops_in (ops ++ F)) (ranges ++ (first, count) ∷ [])) images ≡ all_events runs (map (ops_in ops) ranges) images ++ replicate times (Offer F)
one_offer_more runs ops F ranges images first count number times are begins counts last =
    let offers = map (ops_in ops) ranges in
    let run : Run = record { step = Offer number; times = times } in
    let same : length offers ≡ length ranges = length-map ranges (ops_in ops) in
    let within = subst (λ n. All (IsRunIn n (length images)) runs) (sym same) are.within in
    ap (λ all. all_events (runs ++ run ∷ []) all images) (one_draft_more ops F ranges first count are.lie begins counts)
    ∙ one_run_more runs run (offers ++ F ∷ []) images
    ∙ ap (λ kept. all_events runs (offers ++ F ∷ []) kept ++ run_events (offers ++ F ∷ []) images run) (sym (append-nil images))
    ∙ ap (λ events. events ++ run_events (offers ++ F ∷ []) images run) (same_events runs offers (F ∷ []) images [] within)
    ∙ ap (λ G. all_events runs offers images ++ replicate times (Offer G)) (ap (λ n. get_or (offers ++ F ∷ []) n []) (last ∙ sym same) ∙ get_or-append_seam offers F [] [])

-- resets more, with their image after all others
pub one_reset_more : (runs : List Run) (offers : List (List OpKind)) (images : List (List ℕ)) (image : List ℕ) (number times : ℕ) → All (IsRunIn (length offers) (length images)) runs → number ≡ length images
    → all_events (runs ++ record { step = ResetAll number; times = times } ∷ []) offers (images ++ image ∷ []) ≡ all_events runs offers images ++ replicate times (ResetAll image)
one_reset_more runs offers images image number times within last =
    let run : Run = record { step = ResetAll number; times = times } in
    one_run_more runs run offers (images ++ image ∷ [])
    ∙ ap (λ all. all_events runs all (images ++ image ∷ []) ++ run_events offers (images ++ image ∷ []) run) (sym (append-nil offers))
    ∙ ap (λ events. events ++ run_events offers (images ++ image ∷ []) run) (same_events runs offers [] images (image ∷ []) within)
    ∙ ap (λ bytes. all_events runs offers images ++ replicate times (ResetAll bytes)) (ap (λ n. get_or (images ++ image ∷ []) n []) last ∙ get_or-append_seam images image [] [])

-- more offers and images are as many or more
wider_step : (offers images more others : ℕ) → offers ≤ more → images ≤ others → (s : Step) → IsWithin offers images s → IsWithin more others s
wider_step offers images more others le also (Offer number) within = omega (arith, within, le)
wider_step offers images more others le also Redraw within = tt
wider_step offers images more others le also Tick within = tt
wider_step offers images more others le also Strobe within = tt
wider_step offers images more others le also Fetch within = tt
wider_step offers images more others le also ResetGen within = tt
wider_step offers images more others le also ResetCpu within = tt
wider_step offers images more others le also (ResetAll number) within = omega (arith, within, also)

wider : (offers images more others : ℕ) → offers ≤ more → images ≤ others → (runs : List Run) → All (IsRunIn offers images) runs → All (IsRunIn more others) runs
wider offers images more others le also runs within = λ k d low. let run = within k d low in (run.0, wider_step offers images more others le also (get_or runs k d).step run.1)

-- one run more, of offers and images that are there
pub keeps_run : {count : ℕ} {runs : List Run} {offers : List (ℕ × ℕ)} {ops : List OpKind} {images : List (List ℕ)} {numbers : List (Option ℕ)} (step : Step) (times : ℕ) → IsTrace count runs offers ops images numbers
    → 1 ≤ times → count + times ≤ MOST_EVENTS → IsWithin (length offers) (length images) step → IsTrace (count + times) (runs ++ record { step = step; times = times } ∷ []) offers ops images numbers
keeps_run {count = count} {runs = runs} {offers = offers} {ops = ops} {images = images} step times trace some room within =
    let run : Run = record { step = step; times = times } in
    let size = length-append runs (run ∷ []) in
    let sum = sum_by-append (λ (run : Run). run.times) runs (run ∷ []) in
    let total = trace.total in
    let before = trace.some in
    let offered = trace.offered in
    let few = trace.few in
    let reset = trace.reset in
    record {
      are = record { valid = trace.are.valid; lie = trace.are.lie; within = All-push (IsRunIn (length offers) (length images)) runs run trace.are.within (some, within) };
      total = omega (arith, sum, total);
      most = room;
      some = omega (arith, size, before, some);
      offered = omega (arith, size, offered);
      few = omega (arith, size, few);
      reset = omega (arith, size, reset);
      filled = trace.filled;
    }

-- an offer's operations are still among all of them
same_lie : (ops more : List OpKind) (ranges : List (ℕ × ℕ)) → All (IsOfferIn ops) ranges → All (IsOfferIn (ops ++ more)) ranges
same_lie ops more ranges lie = λ k d low. let range = lie k d low in (omega (arith, length-append ops more, range.0), range.1)

get_front : {X : Type 0} (xs ys : List X) (n : ℕ) (x : X) → slice_get xs n ≡ Some x → slice_get (xs ++ ys) n ≡ Some x
get_front [] ys n x at = absurd (none-some x at)
get_front (y ∷ xs) ys zero x at = at
get_front (y ∷ xs) ys (suc n) x at = get_front xs ys n x at

get_last : {X : Type 0} (xs : List X) (x : X) → slice_get (xs ++ x ∷ []) (length xs) ≡ Some x
get_last [] x = refl
get_last (y ∷ xs) x = get_last xs x

none_there : (size byte : ℕ) → get_or (replicate {A = Option ℕ} size None) byte None ≡ None
none_there zero byte = refl
none_there (suc size) zero = refl
none_there (suc size) (suc byte) = none_there size byte

-- no number says nothing
pub none_filled : (images : List (List ℕ)) → AreFilled (replicate 256 None) images
none_filled images = record { found = λ byte n at. absurd (none-some n (sym (none_there 256 byte) ∙ at)) }

-- more images change none before them
filled_on : (numbers : List (Option ℕ)) (images more : List (List ℕ)) → AreFilled numbers images → AreFilled numbers (images ++ more)
filled_on numbers images more filled = record { found = λ byte n at. get_front images more n (replicate MEMORY_BYTES byte) (filled.found byte n at) }

-- offers more, with one draft after all others
pub keeps_offer : {count : ℕ} {runs : List Run} {offers : List (ℕ × ℕ)} {ops : List OpKind} {images : List (List ℕ)} {numbers : List (Option ℕ)} (F : List OpKind) (first size number times : ℕ) → IsTrace count runs offers ops images numbers
    → 1 ≤ times → count + times ≤ MOST_EVENTS → first ≡ length ops → size ≡ length F → IsDraft F → number ≡ length offers
    → IsTrace (count + times) (runs ++ record { step = Offer number; times = times } ∷ []) (offers ++ (first, size) ∷ []) (ops ++ F) images numbers
keeps_offer {count = count} {runs = runs} {offers = offers} {ops = ops} {images = images} F first size number times trace some room begins counts draft last =
    let short = draft.count in
    let run : Run = record { step = Offer number; times = times } in
    let longer = length-append runs (run ∷ []) in
    let sum = sum_by-append (λ (run : Run). run.times) runs (run ∷ []) in
    let more = length-append offers ((first, size) ∷ []) in
    let all = length-append ops F in
    let total = trace.total in
    let before = trace.some in
    let offered = trace.offered in
    let few = trace.few in
    let reset = trace.reset in
    let there : number < length (offers ++ (first, size) ∷ []) = omega (arith, more, last) in
    record {
      are = record {
        valid = All-append IsOp ops F trace.are.valid draft.ops;
        lie = All-push (IsOfferIn (ops ++ F)) offers (first, size) (same_lie ops F offers trace.are.lie) (omega (arith, all, begins, counts), omega (arith, counts, short));
        within = All-push (IsRunIn (length (offers ++ (first, size) ∷ [])) (length images)) runs run
            (wider (length offers) (length images) (length (offers ++ (first, size) ∷ [])) (length images) (omega (arith, more)) (omega arith) runs trace.are.within) (some, there);
      };
      total = omega (arith, sum, total);
      most = room;
      some = omega (arith, longer, before, some);
      offered = omega (arith, longer, offered, more);
      few = omega (arith, longer, few, all, short);
      reset = omega (arith, longer, reset);
      filled = trace.filled;
    }

-- resets more, with one image after all others
pub keeps_image : {count : ℕ} {runs : List Run} {offers : List (ℕ × ℕ)} {ops : List OpKind} {images : List (List ℕ)} {numbers : List (Option ℕ)} (image : List ℕ) (number times : ℕ) → IsTrace count runs offers ops images numbers
    → 1 ≤ times → count + times ≤ MOST_EVENTS → number ≡ length images
    → IsTrace (count + times) (runs ++ record { step = ResetAll number; times = times } ∷ []) offers ops (images ++ image ∷ []) numbers
keeps_image {count = count} {runs = runs} {offers = offers} {ops = ops} {images = images} {numbers = numbers} image number times trace some room last =
    let run : Run = record { step = ResetAll number; times = times } in
    let longer = length-append runs (run ∷ []) in
    let sum = sum_by-append (λ (run : Run). run.times) runs (run ∷ []) in
    let more = length-append images (image ∷ []) in
    let total = trace.total in
    let before = trace.some in
    let offered = trace.offered in
    let few = trace.few in
    let reset = trace.reset in
    let there : number < length (images ++ image ∷ []) = omega (arith, more, last) in
    record {
      are = record {
        valid = trace.are.valid;
        lie = trace.are.lie;
        within = All-push (IsRunIn (length offers) (length (images ++ image ∷ []))) runs run
            (wider (length offers) (length images) (length offers) (length (images ++ image ∷ [])) (omega arith) (omega (arith, more)) runs trace.are.within) (some, there);
      };
      total = omega (arith, sum, total);
      most = room;
      some = omega (arith, longer, before, some);
      offered = omega (arith, longer, offered);
      few = omega (arith, longer, few);
      reset = omega (arith, longer, reset, more);
      filled = filled_on numbers images (image ∷ []) trace.filled;
    }

-- the last image has this byte everywhere, and is noted
filled_last : (numbers : List (Option ℕ)) (images : List (List ℕ)) (byte n : ℕ) → byte < length numbers → n ≡ length images → AreFilled numbers (images ++ replicate MEMORY_BYTES byte ∷ []) → AreFilled (set numbers byte (Some n)) (images ++ replicate MEMORY_BYTES byte ∷ [])
filled_last numbers images byte n low last filled = record { found = λ other m at. ⊎_elim (λ h. this other m h.1 at) (λ h. another other m h.1 at) (eqb_tells other byte) }
  where
    new : List (List ℕ)
    new = images ++ replicate MEMORY_BYTES byte ∷ []

    this : (other m : ℕ) → other ≡ byte → get_or (set numbers byte (Some n)) other None ≡ Some m → slice_get new m ≡ Some (replicate MEMORY_BYTES other)
    this other m same at =
        let number : m ≡ length images = sym (same_Some n m (sym (get_or-set_at numbers byte other (Some n) None same low) ∙ at)) ∙ last in
        ap (slice_get new) number ∙ (get_last images (replicate MEMORY_BYTES byte) ∙ ap (λ b. Some (replicate MEMORY_BYTES b)) (sym same))

    another : (other m : ℕ) → other ≢ byte → get_or (set numbers byte (Some n)) other None ≡ Some m → slice_get new m ≡ Some (replicate MEMORY_BYTES other)
    another other m apart at = filled.found other m (sym (get_or-set_other numbers byte other (Some n) None apart) ∙ at)

pub keeps_filled : {count : ℕ} {runs : List Run} {offers : List (ℕ × ℕ)} {ops : List OpKind} {images : List (List ℕ)} {numbers : List (Option ℕ)} (byte number times : ℕ) → IsTrace count runs offers ops images numbers
    → 1 ≤ times → count + times ≤ MOST_EVENTS → number ≡ length images → byte < length numbers
    → IsTrace (count + times) (runs ++ record { step = ResetAll number; times = times } ∷ []) offers ops (images ++ replicate MEMORY_BYTES byte ∷ []) (set numbers byte (Some number))
keeps_filled {images = images} {numbers = numbers} byte number times trace some room last low =
    let kept = keeps_image (replicate MEMORY_BYTES byte) number times trace some room last in
    record {
      are = kept.are;
      total = kept.total;
      most = kept.most;
      some = kept.some;
      offered = kept.offered;
      few = kept.few;
      reset = kept.reset;
      filled = filled_last numbers images byte number low last kept.filled;
    }

-- a step that brings nothing is the same event whatever lies elsewhere
pub same_simple : (offers : List (List OpKind)) (images : List (List ℕ)) (s : Step) → IsWithin 0 0 s → step_event offers images s ≡ step_event [] [] s
same_simple offers images s within = same_step [] offers [] images s within

pub any_within : (offers images : ℕ) (s : Step) → IsWithin 0 0 s → IsWithin offers images s
any_within offers images s within = wider_step 0 0 offers images (omega arith) (omega arith) s within

-- one run more, of events that bring nothing
pub simple_more : (runs : List Run) (offers : List (List OpKind)) (images : List (List ℕ)) (step : Step) (times : ℕ) → IsWithin 0 0 step
    → all_events (runs ++ record { step = step; times = times } ∷ []) offers images ≡ all_events runs offers images ++ replicate times (step_event [] [] step)
simple_more runs offers images step times within =
    one_run_more runs (record { step = step; times = times }) offers images ∙ ap (λ event. all_events runs offers images ++ replicate times event) (same_simple offers images step within)

-- there are as many events as were counted
pub count_of : {count : ℕ} {runs : List Run} {offers : List (ℕ × ℕ)} {ops : List OpKind} {images : List (List ℕ)} {numbers : List (Option ℕ)} → IsTrace count runs offers ops images numbers
    → (events : List Happening) → all_events runs (map (ops_in ops) offers) images ≡ events → count ≡ length events
count_of {runs = runs} {offers = offers} {ops = ops} {images = images} trace events view =
    trace.total ∙ sym (length-all_events runs (map (ops_in ops) offers) images) ∙ ap length view

-- nothing is kept of no event
pub none_kept : (runs : List Run) (offers : List (ℕ × ℕ)) (ops : List OpKind) (images : List (List ℕ)) (numbers : List (Option ℕ)) → runs ≡ [] → offers ≡ [] → ops ≡ [] → images ≡ [] → numbers ≡ replicate 256 None
    → IsTrace 0 runs offers ops images numbers
none_kept runs offers ops images numbers no_runs no_offers no_ops no_images no_numbers = rw (no_runs, no_offers, no_ops, no_images, no_numbers) (record {
  are = record { valid = All-nil IsOp; lie = All-nil (IsOfferIn []); within = All-nil (IsRunIn 0 0) };
  total = refl;
  most = omega arith;
  some = omega arith;
  offered = omega arith;
  few = omega arith;
  reset = omega arith;
  filled = none_filled [];
})

-- resets more with an image that is there
pub filled_more : (runs : List Run) (offers : List (List OpKind)) (images : List (List ℕ)) (numbers : List (Option ℕ)) (byte number times : ℕ) → AreFilled numbers images → get_or numbers byte None ≡ Some number
    → all_events (runs ++ record { step = ResetAll number; times = times } ∷ []) offers images ≡ all_events runs offers images ++ replicate times (ResetAll (replicate MEMORY_BYTES byte))
filled_more runs offers images numbers byte number times filled at =
    one_run_more runs (record { step = ResetAll number; times = times }) offers images
    ∙ ap (λ bytes. all_events runs offers images ++ replicate times (ResetAll bytes)) (get_or_from_slice_get images number (replicate MEMORY_BYTES byte) [] (filled.found byte number at))

-- and it is among them
pub filled_within : (images : List (List ℕ)) (numbers : List (Option ℕ)) (byte number : ℕ) → AreFilled numbers images → get_or numbers byte None ≡ Some number → number < length images
filled_within images numbers byte number filled at = slice_get_within images number (replicate MEMORY_BYTES byte) (filled.found byte number at)

-- the last of a list, and another in its place
pub last_of : {X : Type 0} (xs : List X) (n : ℕ) (x y d : X) → length xs ≡ n + 1 → x ≡ get_or xs n d → (xs ≡ take n xs ++ x ∷ []) × (set xs n y ≡ take n xs ++ y ∷ [])
last_of [] n x y d size is = absurd (omega (arith, size))
last_of (a ∷ []) zero x y d size is = (ap (λ z. z ∷ []) (sym is), refl)
last_of (a ∷ b ∷ xs) zero x y d size is = absurd (omega (arith, size))
last_of (a ∷ xs) (suc n) x y d size is =
    let rest = last_of xs n x y d (omega (arith, size)) is in
    (ap (λ xs. a ∷ xs) rest.0, ap (λ xs. a ∷ xs) rest.1)

-- a last run that is longer has its events more
pub longer_more : (old new : List Run) (step : Step) (times : ℕ) (offers : List (List OpKind)) (images : List (List ℕ)) → IsLonger old new step times → IsWithin 0 0 step
    → all_events new offers images ≡ all_events old offers images ++ replicate times (step_event [] [] step)
longer_more old new step times offers images longer within =
    let event = step_event [] [] step in
    let front = all_events longer.front offers images in
    ap (λ runs. all_events runs offers images) longer.is
    ∙ simple_more longer.front offers images step (longer.before + times) within
    ∙ ap (λ events. front ++ events) (sym (replicate-append-replicate longer.before times event))
    ∙ sym (append_assoc front (replicate longer.before event) (replicate times event))
    ∙ ap (λ events. events ++ replicate times event) (sym (ap (λ runs. all_events runs offers images) longer.was ∙ simple_more longer.front offers images step longer.before within))

-- and the trace is kept
pub keeps_longer : {count : ℕ} {offers : List (ℕ × ℕ)} {ops : List OpKind} {images : List (List ℕ)} {numbers : List (Option ℕ)} (old new : List Run) (step : Step) (times : ℕ) → IsTrace count old offers ops images numbers
    → count + times ≤ MOST_EVENTS → IsLonger old new step times → IsTrace (count + times) new offers ops images numbers
keeps_longer {offers = offers} {images = images} old new step times trace room longer =
    let last : Run = record { step = step; times = longer.before } in
    let run : Run = record { step = step; times = longer.before + times } in
    let front = longer.front in
    let is_within = IsRunIn (length offers) (length images) in
    let before = subst (All is_within) longer.was trace.are.within in
    let old_size = ap length longer.was ∙ length-append front (last ∷ []) in
    let new_size = ap length longer.is ∙ length-append front (run ∷ []) in
    let old_sum = ap (sum_by (λ (run : Run). run.times)) longer.was ∙ sum_by-append (λ (run : Run). run.times) front (last ∷ []) in
    let new_sum = ap (sum_by (λ (run : Run). run.times)) longer.is ∙ sum_by-append (λ (run : Run). run.times) front (run ∷ []) in
    let total = trace.total in
    let some = trace.some in
    let offered = trace.offered in
    let few = trace.few in
    let reset = trace.reset in
    let end : is_within last = subst is_within (get_or-append_seam front last [] last) (before (length front) last (let size = length-append front (last ∷ []) in omega (arith, size))) in
    let first : All is_within front = λ k d low. subst is_within (get_or_append_left front (last ∷ []) d k low) (before k d (let size = length-append front (last ∷ []) in omega (arith, size, low))) in
    let ends : 1 ≤ longer.before + times = (let some = end.0 in omega (arith, some)) in
    record {
      are = record { valid = trace.are.valid; lie = trace.are.lie; within = subst (All is_within) (sym longer.is) (All-push is_within front run first (ends, end.1)) };
      total = omega (arith, old_sum, new_sum, total);
      most = room;
      some = omega (arith, old_size, new_size, some);
      offered = omega (arith, old_size, new_size, offered);
      few = omega (arith, old_size, new_size, few);
      reset = omega (arith, old_size, new_size, reset);
      filled = trace.filled;
    }

-- the operations of an offer are those of a draft
pub draft_of : (ops : List OpKind) (range : ℕ × ℕ) (F : List OpKind) → All IsOp ops → IsOfferIn ops range → F ≡ ops_in ops range → IsDraft F
draft_of ops (first, count) F valid within is =
    let count_is : first + count - first ≡ count = omega arith in
    let few : length (take (first + count - first) (drop first ops)) ≤ MAX_OPS =
    (let front = length-take (first + count - first) (drop first ops) in omega (arith, within.1)) in
    subst IsDraft (sym is) (record {
      count = few;
      ops = All-take IsOp (first + count - first) (drop first ops) (All-drop IsOp first ops valid);
    })
