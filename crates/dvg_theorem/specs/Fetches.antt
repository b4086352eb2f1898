-- What the fetches of every legal log show: words are whole, though they are fetched in two parts.
use Rattle.std.specs.Prelude.{◌≡◌, ◌≢◌, ℕ, suc, ◌+◌, ◌*◌, ◌%◌, ◌^◌, ◌<◌, ◌≤◌, ◌⊎◌, true, false, All, List, ◌∷◌}
use Rattle.std.specs.Prelude.{slice_get, Some, None}
use Rattle.dvg_mem.specs.declared.half.Half.{Half}
use Rattle.dvg_mem.specs.Areas.{base}
use Rattle.dvg_mem.specs.Memory.{fetched, fetched_byte, rom_word}
use Rattle.dvg_gen.specs.Bytes.{Whole}
use Rattle.dvg_gen.specs.Position.{IsStroke}
use Rattle.dvg_frame.specs.declared.op.OpKind.{OpKind}
use Rattle.dvg_frame.specs.Layout.{laid}
use Rattle.dvg_frame.specs.Picture.{IsBound}
use Rattle.dvg_log.specs.Events.{Happening}
use Rattle.dvg_log.specs.declared.event.Event.TheVariants.{Fetch}
use Rattle.dvg_log.specs.Entries.{Shown}
use Rattle.dvg_log.specs.declared.entry.Entry.TheVariants.{Acted, Low, Fetched, Done, Broke}
use Rattle.dvg_log.specs.Log.{◌⟼◌, Log, IsBeingDrawn, ram, waiting, low_byte, meets, open_run, history}
use Rattle.dvg_log.specs.Headline.{IsShown, fetch_count}
use Rattle.dvg_log.specs.Legal.{IsWanted}

-- a word is the one that memory has when its high byte is fetched
abbrev pub IsInMemory : List ℕ → List ℕ → Log → Happening → Shown → Type 0
IsInMemory R image log event (Fetched address word) = fetched (ram image log) R address ≡ Some word
IsInMemory R image log event (Done address word drew) = fetched (ram image log) R address ≡ Some word
IsInMemory R image log event (Broke address fault) = meets R image log address
    ≡ Whole (fetched (ram image log) R address)
IsInMemory R image log event entry = Unit {0}

-- a word comes right after its own low byte, from the same address, and a low byte after no other
abbrev pub IsPaired : Log → Happening → Shown → Type 0
IsPaired log event (Low address byte) = waiting log ≡ None
IsPaired log event (Fetched address word) = waiting log ≡ Some (address, word % 256)
IsPaired log event (Done address word drew) = waiting log ≡ Some (address, word % 256)
IsPaired log event entry = Unit {0}

-- while a run is open, an action changes no byte of the word that is fetched next, but for the high byte of word zero
abbrev pub KeepsNext : List ℕ → List ℕ → Log → Happening → Shown → Type 0
KeepsNext R image log event (Acted action) = (address : ℕ) → IsWanted (history R image log) address
    → (fetched_byte (ram image ((event ⟼ Acted action) ∷ log)) R address false
    ≡ fetched_byte (ram image log) R address false)
    × (address ≢ 0 → fetched_byte (ram image ((event ⟼ Acted action) ∷ log)) R address true
    ≡ fetched_byte (ram image log) R address true)
KeepsNext R image log event entry = Unit {0}

-- while a half is being drawn, the word that is fetched is one of the layout of what the run shows, in its place in the
-- half, or the ROM's word at this address
abbrev pub FromLayout : List ℕ → Log → ℕ → ℕ → Type 0
FromLayout R log address word = (half : Half) (F : List OpKind) → IsBeingDrawn log half → IsShown log F
    → ((k : ℕ) × (address ≡ base half + k) × (slice_get (laid half F) k ≡ Some word)) ⊎ (rom_word R address ≡ Some word)

-- this holds of each word that a run fetches
abbrev pub ReadsOneFrame : List ℕ → Log → Happening → Shown → Type 0
ReadsOneFrame R log event (Fetched address word) = FromLayout R log address word
ReadsOneFrame R log event (Done address word drew) = FromLayout R log address word
ReadsOneFrame R log event entry = Unit {0}

-- what the open run shows has a bound, and each fetch of the run stays within it: two bytes for each word
abbrev pub WithinBound : List ℕ → Log → Happening → Shown → Type 0
WithinBound R log Fetch entry = (words : List (ℕ × ℕ)) (F : List OpKind) → open_run log ≡ Some words → IsShown log F
    → (n : ℕ) × IsBound F R n × (n < 2 ^ 63) × (suc (fetch_count words (low_byte log)) ≤ 2 * n)
WithinBound R log event entry = Unit {0}

-- the strokes of a run that reaches HALT are in range
abbrev pub DrewInRange : Log → Happening → Shown → Type 0
DrewInRange log event (Done address word drew) = All IsStroke drew
DrewInRange log event entry = Unit {0}
