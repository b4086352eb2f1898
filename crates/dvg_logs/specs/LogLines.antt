-- The lines of a log's text, and the log that they give.
use Rattle.std.specs.Prelude.{◌≡◌, ℕ, ◌+◌, ◌<◌, ◌≤◌, Option, Some, None, List, [], ◌∷◌, length, map, reverse}
use Rattle.std.specs.Prelude.{codes, true, false}
use Rattle.std.specs.Char.{to_ascii_lowercase}
use Rattle.std.specs.Str.Lines.{strip_carriage_return}
use Rattle.std.specs.List.{AllZip}
use Rattle.dvg_driver.specs.declared.action.Action.TheVariants.{Wrote, Idle}
use Rattle.dvg_log.specs.declared.entry.Entry.TheVariants.{Acted, Started, Low, Fetched, Done, Cleared}
use Rattle.dvg_log.specs.declared.event.Event.TheVariants.{Tick, Strobe, Fetch, ResetGen}
use Rattle.dvg_log.specs.Log.{◌⟼◌, Line, Log}
use Rattle.dvg_read.specs.Texts.{IsHex, is_passed, parts}

-- the digits of a byte address of the RAM: three; or with a base, from which on the processor has the RAM, the four of
-- its address there
abbrev pub IsWrittenAt : (base : Option ℕ) → ℕ → List ℕ → Type 0
IsWrittenAt None a digits = IsHex 3 a digits
IsWrittenAt (Some base) a digits = IsHex 4 (base + a) digits

-- the parts of a line that stands for this line of a log; a byte is written in the RAM; a HALT's word, address and
-- strokes aren't given: for these stand 0 and none
pub data LogRow (base : Option ℕ) : Line → List (List ℕ) → Type 0 where
  started : LogRow base (Strobe ⟼ Started) (codes "started" ∷ [])
  fetched : {a word : ℕ} {address digits : List ℕ} → IsHex 3 a address → IsHex 4 word digits
      → LogRow base (Fetch ⟼ Fetched a word) (codes "fetched" ∷ address ∷ digits ∷ [])
  low : {a byte : ℕ} {address digits : List ℕ} → IsHex 3 a address → IsHex 2 byte digits
      → LogRow base (Fetch ⟼ Low a byte) (codes "low" ∷ address ∷ digits ∷ [])
  wrote : {a byte : ℕ} {address digits : List ℕ} → a < 0x800 → IsWrittenAt base a address → IsHex 2 byte digits
      → LogRow base (Tick ⟼ Acted (Wrote a byte)) (codes "wrote" ∷ address ∷ digits ∷ [])
  halted : LogRow base (Fetch ⟼ Done 0 0 []) (codes "halted" ∷ [])
  reset : LogRow base (ResetGen ⟼ Cleared) (codes "reset" ∷ [])

-- a line as it is read: in small letters
abbrev pub small : List ℕ → List ℕ
small = map to_ascii_lowercase

-- a line of at most 64 bytes says what its parts say, without a CR at its end and in small letters; or it is passed
-- over, which counts as an idle tick
pub data IsLineOf (base : Option ℕ) : Line → List ℕ → Type 0 where
  passed : {text : List ℕ} → length text ≤ 64 → is_passed (strip_carriage_return text) ≡ true
      → IsLineOf base (Tick ⟼ Acted Idle) text
  logged : {line : Line} {text : List ℕ} → length text ≤ 64 → is_passed (strip_carriage_return text) ≡ false
      → LogRow base line (parts (small (strip_carriage_return text))) → IsLineOf base line text

-- these lines of text give this log, a line each
abbrev pub IsLogOf : (base : Option ℕ) → Log → List (List ℕ) → Type 0
IsLogOf base log texts = AllZip (IsLineOf base) (reverse log) texts
