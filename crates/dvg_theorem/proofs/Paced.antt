-- How fast a run goes, by each picture of what it shows.
use Rattle.std.proofs.Common.{◌≡◌, ℕ, suc, ◌*◌, ◌<◌, List, Some}
use Rattle.dvg_gen.specs.declared.stroke.Stroke.{Stroke}
use Rattle.dvg_frame.specs.declared.op.OpKind.{OpKind}
use Rattle.dvg_frame.specs.Picture.{IsPicture}
use Rattle.dvg_log.specs.Events.{Happening}
use Rattle.dvg_log.specs.Entries.{Shown}
use Rattle.dvg_log.specs.declared.entry.Entry.TheVariants.{Low, Fetched, Done, Broke}
use Rattle.dvg_log.specs.Headline.{IsShown, fetch_count}
use Rattle.dvg_log.specs.Log.{Log, low_byte, open_run}

-- this holds of the number of the open run's next fetch, for each picture of what it shows: its strokes, and its words
abbrev pub ByPicture : List ℕ → Log → (ℕ → List Stroke → ℕ → Type 0) → Type 0
ByPicture R log P = (words : List (ℕ × ℕ)) (F : List OpKind) (drew : List Stroke) (n : ℕ) → open_run log ≡ Some words → IsShown log F → IsPicture F R drew n
    → P (suc (fetch_count words (low_byte log))) drew n

-- where what a run shows has a picture of n words, its fetch number 2n is the one that finishes it, with the picture's strokes, and no fetch breaks it
abbrev pub KeepsPace : List ℕ → Log → Happening → Shown → Type 0
KeepsPace R log event (Low address byte) = ByPicture R log (λ number drew n. number < 2 * n)
KeepsPace R log event (Fetched address word) = ByPicture R log (λ number drew n. number < 2 * n)
KeepsPace R log event (Broke address fault) = ⊥
KeepsPace R log event (Done address word strokes) = ByPicture R log (λ number drew n. (number ≡ 2 * n) × (strokes ≡ drew))
KeepsPace R log event entry = Unit {0}
