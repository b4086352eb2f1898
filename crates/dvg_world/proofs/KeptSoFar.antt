-- What is kept of the events of a trace, one run after the other.
use Rattle.std.proofs.Common.{◌≡◌, ℕ, zero, suc, ◌+◌, ◌-◌, ◌<◌, List, [], ◌∷◌, ◌++◌, replicate, reverse, length, refl, sym, ap, ◌∙◌, inl, inr, Bool, true, false, append_assoc, arith}
use Rattle.std.proofs.lemmas.List.{replicate-append-replicate, reverse-append}
use Rattle.dvg_log.specs.Events.{Happening}
use Rattle.dvg_log.specs.Legal.{IsLegal}
use Rattle.dvg_log.specs.Log.{Log, events_of}
use Rattle.dvg_theorem.proofs.Headline.{headline}
use Rattle.dvg_world.specs.Keeping.{Happened}
use Rattle.dvg_world.specs.Standing.{State, WorldAfter}
use Rattle.dvg_world.specs.own.Running.{AddsRun, StopsRun}

-- what holds before the later ones of the events: the world stands after a log of those before, of which this is kept
pub record IsKeptSoFar (R image : List ℕ) (events later : List Happening) (IsKept : Log → Type 0) (n : ℕ) (world : State) : Type 0 where
  pub log : Log
  pub after : WorldAfter R image log world
  pub in_order : events ≡ reverse (events_of log) ++ later
  pub kept : IsKept log
  pub count : length log ≡ n

pub keeps_none : {R image : List ℕ} {events later : List Happening} {IsKept : Log → Type 0} {world : State} → WorldAfter R image [] world → IsKept [] → later ≡ events → IsKeptSoFar R image events later IsKept 0 world
keeps_none after kept all = record {
  log = [];
  after = after;
  in_order = sym all;
  kept = kept;
  count = refl;
}

-- one event, again and again, is the same from its end
reverse-replicate : (n : ℕ) (event : Happening) → reverse (replicate n event) ≡ replicate n event
reverse-replicate zero event = refl
reverse-replicate (suc n) event =
    reverse-append (event ∷ []) (replicate n event)
    ∙ ap (λ events. events ++ event ∷ []) (reverse-replicate n event)
    ∙ replicate-append-replicate n 1 event
    ∙ ap (λ k. replicate k event) (let k : n + 1 ≡ suc n = omega arith in k)

-- the events of a longer log, and then the later ones
longer_in_order : (log more : Log) (event : Happening) (times : ℕ) (later : List Happening) → events_of more ≡ replicate times event ++ events_of log → reverse (events_of log) ++ (replicate times event ++ later) ≡ reverse (events_of more) ++ later
longer_in_order log more event times later grown =
    sym (append_assoc (reverse (events_of log)) (replicate times event) later)
    ∙ ap (λ events. (reverse (events_of log) ++ events) ++ later) (sym (reverse-replicate times event))
    ∙ ap (λ events. events ++ later) (sym (reverse-append (replicate times event) (events_of log)))
    ∙ ap (λ events. reverse events ++ later) (sym grown)

-- one run more
pub keeps_run : {R image : List ℕ} {events later rest : List Happening} {IsKept Later : Log → Type 0} {n : ℕ} {world world' : State} (event : Happening) (times : ℕ)
    → IsKeptSoFar R image events later IsKept n world → later ≡ replicate times event ++ rest
    → ((log : Log) → WorldAfter R image log world → IsKept log → length log ≡ n → AddsRun R image log event times Later world') → IsKeptSoFar R image events rest Later (n + times) world'
keeps_run {rest = rest} {n = n} event times so_far next adds =
    let run = adds so_far.log so_far.after so_far.kept so_far.count in
    record {
      log = run.later;
      after = run.after;
      in_order = so_far.in_order ∙ ap (λ later. reverse (events_of so_far.log) ++ later) next ∙ longer_in_order so_far.log run.later event times rest run.events;
      kept = run.kept;
      count = (let count = run.count in let before = so_far.count in omega (arith, count, before));
    }

-- all events happened
pub happened_all : {R image : List ℕ} {events later : List Happening} {IsKept : Log → Type 0} {n : ℕ} {world : State} → IsKeptSoFar R image events later IsKept n world → later ≡ [] → Happened R image events true IsKept
happened_all {R = R} {image = image} {later = later} so_far none = record {
  log = so_far.log;
  later = later;
  in_order = so_far.in_order;
  legal = so_far.after.legal;
  headline = headline R image so_far.log so_far.after.legal;
  kept = so_far.kept;
  ends = none;
}

-- an event that comes so many times comes so many times less after some of them
times_left : (event : Happening) (done times : ℕ) (rest : List Happening) → done < times → replicate times event ++ rest ≡ replicate done event ++ (event ∷ (replicate (times - done - 1) event ++ rest))
times_left event done times rest inside =
    ap (λ k. replicate k event ++ rest) (let k : times ≡ done + suc (times - done - 1) = omega arith in k)
    ∙ ap (λ events. events ++ rest) (sym (replicate-append-replicate done (suc (times - done - 1)) event))
    ∙ append_assoc (replicate done event) (replicate (suc (times - done - 1)) event) rest

-- or the next one takes memory
pub happened_part : {R image : List ℕ} {events later : List Happening} {IsKept Later : Log → Type 0} {n : ℕ} {world world' : State} (event : Happening) (times : ℕ) (rest : List Happening)
    → IsKeptSoFar R image events later IsKept n world → later ≡ replicate times event ++ rest
    → ((log : Log) → WorldAfter R image log world → IsKept log → length log ≡ n → StopsRun R image log event times Later world') → Happened R image events false Later
happened_part {R = R} {image = image} event times rest so_far next stops =
    let stop = stops so_far.log so_far.after so_far.kept so_far.count in
    let left = event ∷ (replicate (times - stop.done - 1) event ++ rest) in
    record {
      log = stop.run.later;
      later = left;
      in_order = so_far.in_order
          ∙ ap (λ later. reverse (events_of so_far.log) ++ later) (next ∙ times_left event stop.done times rest stop.before)
          ∙ longer_in_order so_far.log stop.run.later event stop.done left stop.run.events;
      legal = stop.run.after.legal;
      headline = headline R image stop.run.later stop.run.after.legal;
      kept = stop.run.kept;
      ends = inr stop.takes;
    }

-- or none happened
pub happened_none : {R image : List ℕ} {events : List Happening} {IsKept : Log → Type 0} → IsLegal R image [] → IsKept [] → Happened R image events false IsKept
happened_none {R = R} {image = image} {events = events} legal kept = record {
  log = [];
  later = events;
  in_order = refl;
  legal = legal;
  headline = headline R image [] legal;
  kept = kept;
  ends = inl refl;
}

-- what is kept in another form
pub happened_so : {R image : List ℕ} {events : List Happening} {is_whole same : Bool} {IsKept Later : Log → Type 0} → same ≡ is_whole → ((log : Log) → IsKept log → Later log) → Happened R image events is_whole IsKept → Happened R image events same Later
happened_so {R = R} {image = image} is later happened = rw is (record {
  log = happened.log;
  later = happened.later;
  in_order = happened.in_order;
  legal = happened.legal;
  headline = happened.headline;
  kept = later happened.log happened.kept;
  ends = happened.ends;
})
