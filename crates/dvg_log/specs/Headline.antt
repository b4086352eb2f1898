-- What every legal log shows. A half holds its frame without the jump to it, as a flip may come
-- before the run has ended.
use Rattle.std.specs.Prelude.{◌≡◌, ℕ, suc, ◌+◌, ◌*◌, ◌/◌, ◌^◌, ◌≤◌, ◌<◌, true, List, [], ◌∷◌, length, Option, Some}
use Rattle.std.specs.Prelude.{None}
use Rattle.dvg_mem.specs.declared.half.Half.{Half}
use Rattle.dvg_mem.specs.Areas.{IsInHalf}
use Rattle.dvg_gen.specs.declared.stroke.Stroke.{Stroke}
use Rattle.dvg_frame.specs.declared.op.OpKind.{OpKind}
use Rattle.dvg_frame.specs.Ops.{IsDraft}
use Rattle.dvg_frame.specs.Steps.{Closed}
use Rattle.dvg_frame.specs.Faults.{Accepts}
use Rattle.dvg_frame.specs.Picture.{IsBound, IsPicture}
use Rattle.dvg_driver.specs.declared.action.Action.TheVariants.{Wrote}
use Rattle.dvg_log.specs.Events.{Happening}
use Rattle.dvg_log.specs.declared.event.Event.TheVariants.{Fetch}
use Rattle.dvg_log.specs.Entries.{Shown}
use Rattle.dvg_log.specs.declared.entry.Entry.TheVariants.{Acted, Started, Done, Broke}
use Rattle.dvg_log.specs.Held.{HoldsDraft, HoldsFrame}
use Rattle.dvg_log.specs.Log.{◌⟼◌, Log, Throughout, ram, low_byte, open_run, IsBeingDrawn, published, publication}
use Rattle.dvg_log.specs.Log.{has_fetched, at_zero}
use Rattle.dvg_log.specs.Legal.{IsLegal}

-- a byte that is written isn't in a half being drawn
abbrev pub SparesDrawn : Log → Happening → Shown → Type 0
SparesDrawn log event (Acted (Wrote a byte)) = (half : Half) → IsBeingDrawn log half → ¬ IsInHalf half (a / 2)
SparesDrawn log event entry = Unit {0}

-- the generator doesn't fault
abbrev pub NoFault : Log → Happening → Shown → Type 0
NoFault log event (Broke address fault) = ⊥
NoFault log event entry = Unit {0}

-- this draft is shown: the one newest published when the open run fetched word zero, or now, where no open run has
abbrev pub IsShown : Log → List OpKind → Type 0
IsShown log F = published (at_zero log) ≡ Some F

-- a run that reaches HALT drew exactly the picture of what it shows, in as many words as it fetched
abbrev pub DrewPublished : List ℕ → Log → Happening → Shown → Type 0
DrewPublished R log event (Done address word drew) = (F : List OpKind) × (fetches : List (ℕ × ℕ)) × IsShown log F
    × Accepts F R × (open_run log ≡ Some fetches) × IsPicture F R drew (suc (length fetches))
DrewPublished R log event entry = Unit {0}

-- a run that reaches HALT shows no publication with a number above n
abbrev pub IsNoLater : ℕ → Log → Happening → Shown → Type 0
IsNoLater n log event (Done address word drew) = (m : ℕ) → publication (at_zero log) ≡ Some m → m ≤ n
IsNoLater n log event entry = Unit {0}

-- a run that reaches HALT shows no publication older than one that was shown before
abbrev pub IsNoOlder : Log → Happening → Shown → Type 0
IsNoOlder log event (Done a word drew) = (n : ℕ) → publication (at_zero log) ≡ Some n → Throughout (IsNoLater n) log
IsNoOlder log event entry = Unit {0}

-- how many bytes the open run has fetched: two for each word, and the low byte that waits
abbrev pub fetch_count : List (ℕ × ℕ) → Option ℕ → ℕ
fetch_count words None = 2 * length words
fetch_count words (Some low) = 2 * length words + 1

-- in a run whose picture has n words this fetch goes on, below number 2n, or is number 2n and ends it with the picture
abbrev pub EndsAt : ℕ → List Stroke → ℕ → Shown → Type 0
EndsAt number drew n (Done address word strokes) = (number ≡ 2 * n) × (strokes ≡ drew)
EndsAt number drew n (Broke address fault) = ⊥
EndsAt number drew n entry = number < 2 * n

-- for each picture of what the open run shows, of n words: the run's fetch number 2n finishes it, with these strokes
abbrev pub KeepsTime : List ℕ → Log → Happening → Shown → Type 0
KeepsTime R log Fetch entry = (words : List (ℕ × ℕ)) (F : List OpKind) (drew : List Stroke) (n : ℕ)
    → open_run log ≡ Some words → IsShown log F → IsPicture F R drew n
    → EndsAt (suc (fetch_count words (low_byte log))) drew n entry
KeepsTime R log event entry = Unit {0}

-- no byte was written since the newest run began
abbrev pub IsUntouched : Log → Type 0
IsUntouched [] = Unit {0}
IsUntouched ((event ⟼ Started) ∷ log) = Unit {0}
IsUntouched ((event ⟼ Acted (Wrote a byte)) ∷ log) = ⊥
IsUntouched (line ∷ log) = IsUntouched log

-- a run that reaches HALT drew the picture of the checked frame that the RAM held, with the jump to it, since it began
abbrev pub DrewHeld : List ℕ → List ℕ → Log → Happening → Shown → Type 0
DrewHeld R image log event (Done address word drew) = (half : Half) (F : List OpKind) (fetches : List (ℕ × ℕ))
    → IsDraft F → Closed F R → HoldsFrame (ram image log) half F → IsUntouched log
    → open_run log ≡ Some fetches → IsPicture F R drew (suc (length fetches))
DrewHeld R image log event entry = Unit {0}

-- the open run is drawing a half, shows a draft that was accepted, and the half holds it
pub record DrawsHalf (R image : List ℕ) (log : Log) : Type 0 where
  pub half : Half
  pub drawn : IsBeingDrawn log half
  pub draft : List OpKind
  pub shown : IsShown log draft
  pub accepts : Accepts draft R
  pub holds : HoldsDraft (ram image log) half draft

-- the headline, of one line of a log: its event and its entry, over the log before it
pub record KeepsHeadline (R image : List ℕ) (log : Log) (event : Happening) (entry : Shown) : Type 0 where
  -- no byte is written in the half being drawn
  pub never_torn : SparesDrawn log event entry
  -- the generator doesn't fault
  pub never_faults : NoFault log event entry
  -- a run that reaches HALT drew exactly the picture of the frame that was newest published when it fetched word zero
  pub draws_published : DrewPublished R log event entry
  -- and shows no older publication than a run before it did
  pub never_older : IsNoOlder log event entry
  -- what a run shows has a picture, of fewer than 2^63 words
  pub always_bounded : (F : List OpKind) → IsShown log F → (n : ℕ) × IsBound F R n × (n < 2 ^ 63)
  -- with the last fetch of the picture a run is finished: after two bytes for each of its words
  pub always_in_time : KeepsTime R log event entry
  -- a run that reaches HALT, in which nothing was written and the RAM held a checked frame, drew the frame's picture
  pub draws_undisturbed : DrewHeld R image log event entry
  -- after the line, an open run that has fetched word zero is drawing a half, which holds the draft that the run shows
  pub draws_a_half : has_fetched (open_run ((event ⟼ entry) ∷ log)) ≡ true → DrawsHalf R image ((event ⟼ entry) ∷ log)

-- a run that has fetched word zero is drawing a half, which holds the draft that the run shows
abbrev pub DrawsAHalf : Type 0
DrawsAHalf = (R image : List ℕ) (log : Log) → IsLegal R image log → has_fetched (open_run log) ≡ true
    → DrawsHalf R image log
