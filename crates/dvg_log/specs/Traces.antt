-- The events of traces.
use Rattle.std.specs.Prelude.{◌≡◌, ◌+◌, ◌++◌, ◌≤◌, ℕ, List, [], get_or, replicate, slice_range}
use Rattle.std.specs.Prelude.{Option, Some, None}
use Rattle.std.specs.List.{flat_map}
use Rattle.std.specs.Borrow.{Bor}
use Rattle.dvg_frame.specs.declared.op.OpKind.{OpKind}
use Rattle.dvg_frame.specs.Ops.{IsDraft}
use Rattle.dvg_log.specs.declared.event.Event.{Event}
use Rattle.dvg_log.specs.declared.event.Event.TheVariants.{Offer}
use Rattle.dvg_log.specs.declared.runs.Run.{Run}
use Rattle.dvg_log.specs.Events.{Happening, map_event}

-- an event that says which offer it is, and which image it has
abbrev pub Step : Type 0
Step = Event ℕ ℕ

-- the operations of an offer: where they begin among those of all offers, and how many they are
abbrev pub ops_in : List OpKind → ℕ × ℕ → List OpKind
ops_in ops range = slice_range ops range.0 (range.0 + range.1)

-- the event of a step, by all offers and the images of all resets
abbrev pub step_event : List (List OpKind) → List (List ℕ) → Step → Happening
step_event offers images step =
    map_event (λ number. get_or offers number []) (λ number. get_or images number []) step

-- the events of a run: one, so many times
abbrev pub run_events : List (List OpKind) → List (List ℕ) → Run → List Happening
run_events offers images run = replicate run.times (step_event offers images run.step)

-- the events of runs
abbrev pub all_events : List Run → List (List OpKind) → List (List ℕ) → List Happening
all_events runs offers images = flat_map (run_events offers images) runs

-- an event whose draft and image lie elsewhere
abbrev pub Seen : Type 0
Seen = Event (Bor (List OpKind)) (Bor (List ℕ))

-- an event of a trace, as it lies there
abbrev pub seen_as : Seen → Happening
seen_as event = map_event (λ ops. ops.now) (λ image. image.now) event

-- what an offer brings is a draft
abbrev pub BringsDraft : Seen → Type 0
BringsDraft (Offer ops) = IsDraft ops.now
BringsDraft event = Unit {0}

-- the next run of the events that are left: None exactly where there is none, else an event, and how many times it
-- comes before the others
abbrev pub NextRun : List Happening → Option (Seen × ℕ) → List Happening → Type 0
NextRun old None new = (old ≡ []) × (new ≡ [])
NextRun old (Some run) new = BringsDraft run.0 × (1 ≤ run.1) × (old ≡ replicate run.1 (seen_as run.0) ++ new)
