-- Consistent runs, in any log.
use Rattle.std.specs.Prelude.{◌≡◌, ◌≢◌, ℕ, ◌+◌, ◌*◌, ◌/◌, ◌%◌, ◌<◌, ◌==◌, nat_lt, ◌&&◌, ◌++◌, List, [], ◌∷◌, Option}
use Rattle.std.specs.Prelude.{Some, None, ◌⊎◌, Bool, false, not, if◌then◌else◌, slice_index}
use Rattle.std.specs.Option.{option_or}
use Rattle.dvg_driver.specs.declared.action.Action.TheVariants.{Wrote}
use Rattle.dvg_log.specs.Events.{Happening}
use Rattle.dvg_log.specs.declared.event.Event.TheVariants.{ResetAll}
use Rattle.dvg_log.specs.Entries.{Shown}
use Rattle.dvg_log.specs.declared.entry.Entry.TheVariants.{Acted, Started, Low, Fetched, Done}
use Rattle.dvg_log.specs.Log.{◌⟼◌, Log, Throughout, ram, waiting, open_run}

-- what is known of memory: after a log, the byte at an address
abbrev pub Known : Type 0
Known = Log → ℕ → Option ℕ

-- in a world each byte is known
abbrev pub stands : List ℕ → Known
stands image log a = Some (slice_index (ram image log) a)

-- a low byte that was fetched at this address waits for its high byte
abbrev pub waits : Option (ℕ × ℕ) → ℕ → Bool
waits None address = false
waits (Some low) address = low.0 == address

-- what a fetch that completes a word reads of byte a: the word's high byte, and its low one, if that doesn't wait
abbrev pub word_reads : (low_waits : Bool) → (address word a : ℕ) → Option ℕ
word_reads low_waits address word a =
    if a == 2 * address + 1 then Some (word / 256)
    else if a == 2 * address && not low_waits then Some (word % 256) else None

-- what a line reads of byte a
abbrev pub reads : Log → Shown → ℕ → Option ℕ
reads log (Low address byte) a = if a == 2 * address then Some byte else None
reads log (Fetched address word) a = word_reads (waits (waiting log) address) address word a
reads log (Done address word drew) a = word_reads (waits (waiting log) address) address word a
reads log entry a = None

-- what a log alone tells of a byte: what was written or read there last, since the last reset of the whole system; from
-- 800 on there is no RAM, and what is written there changes nothing
abbrev pub told : Known
told [] a = None
told ((ResetAll bytes ⟼ entry) ∷ log) a = None
told ((event ⟼ Acted (Wrote b byte)) ∷ log) a = if a == b && nat_lt a 0x800 then Some byte else told log a
told ((event ⟼ entry) ∷ log) a = option_or (reads log entry a) (told log a)

-- a line reads a byte as another than the log told, of the RAM or of the ROM: at an address that words of 12 bits have
abbrev pub ReadsAnother : Log → Shown → Type 0
ReadsAnother log entry = (a byte other : ℕ) × (a < 0x2000) × (reads log entry a ≡ Some byte)
    × (told log a ≡ Some other) × (byte ≢ other)

-- the low byte that waits for its high byte at this address is another one
abbrev pub WaitsAsAnother : Option (ℕ × ℕ) → (address byte : ℕ) → Type 0
WaitsAsAnother None address byte = ⊥
WaitsAsAnother (Some low) address byte = (low.0 ≡ address) × (low.1 ≢ byte)

-- a line contradicts the log: it reads another byte than was told, or completes a word whose low byte was read as another
abbrev pub Contradicts : Log → Shown → Type 0
Contradicts log (Fetched address word) = ReadsAnother log (Fetched address word)
    ⊎ WaitsAsAnother (waiting log) address (word % 256)
Contradicts log (Done address word drew) = ReadsAnother log (Done address word drew)
    ⊎ WaitsAsAnother (waiting log) address (word % 256)
Contradicts log entry = ReadsAnother log entry

-- a byte of the RAM changes where one is written that isn't known to be what stood there
abbrev pub Changes : Known → ℕ → Log → Shown → Type 0
Changes known a log (Acted (Wrote b byte)) = (a ≡ b) × (a < 0x800) × (known log a ≢ Some byte)
Changes known a log entry = ⊥

-- the newest run has read byte a
abbrev pub HasRead : ℕ → Log → Type 0
HasRead a [] = ⊥
HasRead a ((event ⟼ Started) ∷ log) = ⊥
HasRead a ((event ⟼ entry) ∷ log) = (reads log entry a ≢ None) ⊎ HasRead a log

-- byte a changed in this part of a log, after the log before
abbrev pub HasChanged : Known → ℕ → (part before : Log) → Type 0
HasChanged known a [] before = ⊥
HasChanged known a ((event ⟼ entry) ∷ part) before = Changes known a (part ++ before) entry
    ⊎ HasChanged known a part before

-- no byte changed since the newest run read it
abbrev pub StillStands : Known → Log → Type 0
StillStands known [] = Unit {0}
StillStands known ((event ⟼ Started) ∷ log) = Unit {0}
StillStands known ((event ⟼ entry) ∷ log) = ((a : ℕ) → HasRead a log → ¬ Changes known a log entry)
    × StillStands known log

-- a line since a moment begins no run, and reads no byte that changed since the moment
abbrev pub ReadsThen : Known → (moment since : Log) → Happening → Shown → Type 0
ReadsThen known moment since event entry = (entry ≢ Started)
    × ((a : ℕ) → reads (since ++ moment) entry a ≢ None → ¬ HasChanged known a since moment)

-- what the newest run of a log reads stands in memory at this moment of it: no byte changes between the two
pub record IsMoment (known : Known) (log since moment : Log) : Type 0 where
  pub split : log ≡ since ++ moment
  pub read_before : StillStands known moment
  pub read_since : Throughout (ReadsThen known moment) since

-- the newest run of a log is consistent
abbrev pub OfOneMoment : Known → Log → Type 0
OfOneMoment known log = (since : Log) × (moment : Log) × IsMoment known log since moment

-- a run that reaches HALT is consistent
abbrev pub IsOfOneMoment : Known → Log → Happening → Shown → Type 0
IsOfOneMoment known log event (Done address word drew) = open_run log ≢ None
    → OfOneMoment known ((event ⟼ Done address word drew) ∷ log)
IsOfOneMoment known log event entry = Unit {0}
