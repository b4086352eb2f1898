-- Several lines more, all of one event.
use Rattle.std.proofs.Common.{◌≡◌, ℕ, zero, suc, ◌+◌, ◌-◌, ◌<◌, ◌≤◌, List, ◌∷◌, ◌++◌, length, replicate, refl, sym, ap, ◌∙◌, subst, arith}
use Rattle.dvg_log.specs.Entries.{Shown}
use Rattle.dvg_log.specs.Events.{Happening}
use Rattle.dvg_log.specs.Log.{Log, ◌⟼◌, events_of}
use Rattle.dvg_world.specs.Standing.{AddsLine, KeepsLogs, State, WorldAfter}
use Rattle.dvg_world.specs.own.Running.{AddsRun, KeepsRun, StopsKeeping, StopsRun}
use Rattle.dvg_world.specs.own.Stepping.{WantsMemory}
use Rattle.dvg_world.proofs.EventsAddLines.{then_keeps}

-- no line more
pub adds_none : {R image : List ℕ} {log : Log} {IsKept : Log → Type 0} {world : State} (event : Happening) → WorldAfter R image log world → IsKept log → AddsRun R image log event 0 IsKept world
adds_none {log = log} event after kept = record { later = log; after = after; events = refl; count = omega arith; kept = kept }

-- one line more
pub adds_more : {R image : List ℕ} {log : Log} {event : Happening} {IsKept Later : Log → Type 0} {n : ℕ} {world world' : State} (entry : Shown)
    → AddsRun R image log event n IsKept world → AddsLine world event entry world' → ((log' : Log) → IsKept log' → length log' ≡ n + length log → Later ((event ⟼ entry) ∷ log')) → AddsRun R image log event (n + 1) Later world'
adds_more {R = R} {image = image} {log = log} {event = event} {n = n} entry run line keeps = record {
  later = (event ⟼ entry) ∷ run.later;
  after = line R image run.later run.after;
  events = ap (λ events. event ∷ events) run.events ∙ ap (λ k. replicate k event ++ events_of log) (let k : suc n ≡ n + 1 = omega arith in k);
  count = (let count = run.count in omega (arith, count));
  kept = keeps run.later run.kept run.count;
}

-- a line that changes nothing, so many times more
repeats : {R image : List ℕ} {log : Log} {event : Happening} {IsKept : Log → Type 0} {n : ℕ} {world : State} (entry : Shown) (k : ℕ)
    → AddsRun R image log event n IsKept world → AddsLine world event entry world → ((log' : Log) → IsKept log' → IsKept ((event ⟼ entry) ∷ log')) → AddsRun R image log event (n + k) IsKept world
repeats {R = R} {image = image} {log = log} {event = event} {IsKept = IsKept} {n = n} {world = world} entry zero run line keeps =
    subst (λ m. AddsRun R image log event m IsKept world) (let m : n ≡ n + 0 = omega arith in m) run
repeats {R = R} {image = image} {log = log} {event = event} {IsKept = IsKept} {n = n} {world = world} entry (suc k) run line keeps =
    subst (λ m. AddsRun R image log event m IsKept world) (let m : n + k + 1 ≡ n + suc k = omega arith in m)
    (adds_more entry (repeats entry k run line keeps) line (λ log' kept count. keeps log' kept))

pub repeats_to : {R image : List ℕ} {log : Log} {event : Happening} {IsKept : Log → Type 0} {n : ℕ} {world : State} (entry : Shown) (m : ℕ) → n ≤ m
    → AddsRun R image log event n IsKept world → AddsLine world event entry world → ((log' : Log) → IsKept log' → IsKept ((event ⟼ entry) ∷ log')) → AddsRun R image log event m IsKept world
repeats_to {R = R} {image = image} {log = log} {event = event} {IsKept = IsKept} {n = n} {world = world} entry m le run line keeps =
    subst (λ m. AddsRun R image log event m IsKept world) (let e : n + (m - n) ≡ m = omega arith in e) (repeats entry (m - n) run line keeps)

-- what is kept in another form
pub adds_so : {R image : List ℕ} {log : Log} {event : Happening} {IsKept Later : Log → Type 0} {n : ℕ} {world : State} → ((log' : Log) → IsKept log' → Later log') → AddsRun R image log event n IsKept world → AddsRun R image log event n Later world
adds_so so run = record { later = run.later; after = run.after; events = run.events; count = run.count; kept = so run.later run.kept }

-- then the event takes memory
pub stops_there : {R image : List ℕ} {log : Log} {event : Happening} {IsKept : Log → Type 0} {n times : ℕ} {world : State} → AddsRun R image log event n IsKept world → n < times → WantsMemory event world → StopsRun R image log event times IsKept world
stops_there {R = R} {image = image} {n = n} run inside wants = record { done = n; before = inside; run = run; takes = wants R image run.later run.after }

-- a longer log, by so many equal lines after one of which this is kept
abbrev IsKeptBefore : (times : ℕ) (event : Happening) (entry : Shown) (IsKept : Log → Type 0) (longer : Log) → Type 0
IsKeptBefore times event entry IsKept longer =
    (before : Log) × IsKept before × (longer ≡ replicate times (event ⟼ entry) ++ before)

-- so many lines that change nothing
times_more : {R image : List ℕ} {log : Log} {event : Happening} {IsKept : Log → Type 0} {n : ℕ} {world : State}
    (entry : Shown) (times : ℕ) → AddsRun R image log event n IsKept world → AddsLine world event entry world
    → AddsRun R image log event (n + times) (IsKeptBefore times event entry IsKept) world
times_more {R = R} {image = image} {log = log} {event = event} {IsKept = IsKept} {n = n} {world = world}
    entry zero run line =
    subst (λ m. AddsRun R image log event m (IsKeptBefore 0 event entry IsKept) world)
    (let m : n ≡ n + 0 = omega arith in m)
    (adds_so (λ longer kept. (longer, kept, refl)) run)
times_more {R = R} {image = image} {log = log} {event = event} {IsKept = IsKept} {n = n} {world = world}
    entry (suc k) run line =
    subst (λ m. AddsRun R image log event m (IsKeptBefore (suc k) event entry IsKept) world)
    (let m : n + k + 1 ≡ n + suc k = omega arith in m)
    (adds_more entry (times_more entry k run line) line
    (λ longer kept count. (kept.0, kept.1, ap (λ lines. (event ⟼ entry) ∷ lines) kept.2)))

module _ {old world : State} {IsKept Before : Log → Type 0} {number done : ℕ} {event : Happening} (so_far : KeepsRun old IsKept number event done world Before) where
  -- the next line is kept
  pub keeps_next : {mid new : State} {Later : Log → Type 0} (entry : Shown) → AddsLine world event entry mid → KeepsLogs mid new
      → ((event : Happening) (log : Log) → Before log → length log ≡ number + done → Later ((event ⟼ entry) ∷ log))
      → KeepsRun old IsKept number event (done + 1) new Later
  keeps_next entry line same keeps = λ R image log after kept count.
      adds_more entry (so_far R image log after kept count) (then_keeps line same)
      (λ log' before longer. keeps event log' before (omega (arith, longer, count)))

  -- as many lines as are left, all of one entry, and nothing changes
  pub keeps_rest : {new : State} {Later : Log → Type 0} (times : ℕ) (entry : Shown) → done < times
      → AddsLine world event entry new → new ≡ world
      → ((event : Happening) (log : Log) → Before log → Later (replicate (times - done) (event ⟼ entry) ++ log))
      → KeepsRun old IsKept number event times new Later
  keeps_rest {new = new} {Later = Later} times entry inside line same keeps = λ R image log after kept count.
      let still : AddsLine new event entry new = subst (λ world. AddsLine world event entry new) (sym same) line in
      let run = subst (AddsRun R image log event done Before) (sym same) (so_far R image log after kept count) in
      subst (λ n. AddsRun R image log event n Later new)
      (let n : done + (times - done) ≡ times = omega (arith, inside) in n)
      (adds_so (λ longer before. subst Later (sym before.2) (keeps event before.0 before.1))
      (times_more entry (times - done) run still))

  -- the event is refused memory
  pub keeps_stops : {new : State} (times : ℕ) → done < times → WantsMemory event world → new ≡ world
      → StopsKeeping old IsKept number event times new Before
  keeps_stops times inside wants same = λ R image log after kept count.
      subst (StopsRun R image log event times Before) (sym same)
      (stops_there (so_far R image log after kept count) inside wants)

-- no line yet
pub keeps_begin : {world : State} {IsKept : Log → Type 0} (number : ℕ) (event : Happening)
    → KeepsRun world IsKept number event 0 world IsKept
keeps_begin number event = λ R image log after kept count. adds_none event after kept
