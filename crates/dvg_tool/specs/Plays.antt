-- What `play` answers and writes.
use Rattle.std.specs.Prelude.{◌≡◌, ℕ, ◌⊎◌, List, [], ◌∷◌, ◌++◌, length, map, flat_map, replicate, reverse, codes}
use Rattle.std.specs.Prelude.{decimal, Bool, true, false, Option, Result, Ok, Err}
use Rattle.std.specs.Io.KnownBytes.{Appends}
use Rattle.dvg_gen.specs.declared.stroke.Stroke.{Stroke}
use Rattle.dvg_log.specs.Entries.{Shown}
use Rattle.dvg_log.specs.Events.{Happening}
use Rattle.dvg_log.specs.Headline.{KeepsHeadline}
use Rattle.dvg_log.specs.Legal.{IsLegal}
use Rattle.dvg_log.specs.Log.{Line, Log, Throughout, ◌⟼◌}
use Rattle.dvg_world.specs.declared.logging.Logged.{Logged}
use Rattle.dvg_world.specs.declared.pictures.Drawn.{Drawn}
use Rattle.dvg_world.specs.Keeping.{IsEndOf, TakesMemoryNext}
use Rattle.dvg_world.specs.Kept.{picture_seen}
use Rattle.dvg_io.specs.declared.fault.ToolFault.{ToolFault}
use Rattle.dvg_io.specs.declared.fault.ToolFault.TheVariants.{Text, Reader, Writer, Memory}
use Rattle.dvg_io.specs.Faults.{StopsBeforeWriting}
use Rattle.dvg_print.specs.Lines.{spaced}
use Rattle.dvg_print.specs.Shows.{shown, stroke_line}
use Rattle.dvg_read.specs.TraceGives.{GivesTrace}
use Rattle.dvg_read.specs.TraceTexts.{HasTraceFault}
use Rattle.dvg_io.specs.Watching.{BeginsToWrite}

-- the bytes of a memory of zeros
abbrev pub zeros : List ℕ
zeros = replicate 2048 0

-- the event of a line
abbrev pub event_of : Line → Happening
event_of (event ⟼ entry) = event

-- the entry of a line
abbrev pub entry_of : Line → Shown
entry_of (event ⟼ entry) = entry

-- what is shown of a log: of its entries, the oldest first
abbrev pub log_text : Bool → Log → List ℕ
log_text all log = shown all 0 (map entry_of (reverse log))

-- the next event is one that takes memory
abbrev pub StopsNext : (R : List ℕ) → Log → (later : List Happening) → Type 0
StopsNext R log later = TakesMemoryNext R zeros log later

-- no event comes later, or none came before, or the next one takes memory
abbrev pub IsEnd : (R : List ℕ) → Log → (later : List Happening) → Type 0
IsEnd R log later = (later ≡ []) ⊎ ((log ≡ []) ⊎ StopsNext R log later)

-- the text denotes the events of this legal log, and then these, over the ROM that it denotes and
-- from a memory of zeros; and each line of the log keeps the headline
pub record PlaysTrace (text : List ℕ) (log : Log) (later : List Happening) : Type 0 where
  pub events : List Happening
  pub R : List ℕ
  pub gives : GivesTrace text events R
  pub legal : IsLegal R zeros log
  pub headline : Throughout (KeepsHeadline R zeros) log
  pub in_order : events ≡ map event_of (reverse log) ++ later

-- this holds of what is shown of a log that was played and ends in this way
pub record ShowsUntil (all : Bool) (text : List ℕ) (Ends : List ℕ → Log → List Happening → Type 0)
    (Holds : List ℕ → Type 0) : Type 0 where
  pub log : Log
  pub later : List Happening
  pub played : PlaysTrace text log later
  pub ends : Ends played.R log later
  pub holds : Holds (log_text all log)

-- this is what is shown of a log that was played, which is whole, or stopped for want of memory
-- (for a private contract)
abbrev pub IsShown : (all is_whole : Bool) → (text : List ℕ) → (shown : List ℕ) → Type 0
IsShown all is_whole text shown =
    ShowsUntil all text (λ R log later. IsEndOf is_whole R zeros log later) (λ log. shown ≡ log)

-- what is shown of entries, one by one (for a private contract)
abbrev pub logged_shown : {A : Type 0} → Logged A → List ℕ
logged_shown logged = shown true 0 logged.entries

-- the entries of a log that was played are shown in this way (for a private contract)
abbrev pub IsLogged : {A : Type 0} → (text : List ℕ) → Logged A → Type 0
IsLogged text logged = IsShown true logged.is_whole text (logged_shown logged)

-- the text of a picture: its line, and one for each of its strokes
abbrev pub picture_text : ℕ × List Stroke → List ℕ
picture_text picture = codes "picture" ++ spaced (decimal picture.0 ∷ decimal (length picture.1) ∷ []) ++ 10 ∷ []
    ++ flat_map stroke_line picture.1

-- what is shown of pictures (for a private contract)
abbrev pub drawn_shown : {A : Type 0} → Drawn A → List ℕ
drawn_shown drawn = flat_map picture_text (map picture_seen drawn.pictures.items)

-- the pictures of a log that was played are shown in this way (for a private contract)
abbrev pub ArePicturesShown : {A : Type 0} → (text : List ℕ) → Drawn A → Type 0
ArePicturesShown text drawn = IsShown false drawn.is_whole text (drawn_shown drawn)

-- the faults that come before the first write; want of memory may come after it
abbrev pub StopsBeforeShowing : ToolFault → Type 0
StopsBeforeShowing Memory = ⊥
StopsBeforeShowing fault = StopsBeforeWriting fault

-- what `play` answers to an input, and what went out: what is shown of the log, or at `Memory` and
-- `Writer` of its front (that nothing went out at the first two faults is a part of `Serves`)
abbrev pub Plays : {T : Type 0} → Bool → Result T ToolFault → (input : List ℕ) → Option (List ℕ) → Option (List ℕ)
    → Type 0
Plays all (Ok done) input old new = (log : Log) × PlaysTrace input log [] × Appends old new (log_text all log)
Plays all (Err (Text fault)) input old new = HasTraceFault input fault
Plays all (Err Reader) input old new = Unit {0}
Plays all (Err Memory) input old new = Appends old new [] ⊎ ShowsUntil all input StopsNext (Appends old new)
Plays all (Err Writer) input old new = ShowsUntil all input IsEnd (λ text. BeginsToWrite text old new)
