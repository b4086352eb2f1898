-- What a line says, as a reader has it.
use Rattle.std.specs.Prelude.{◌≡◌, ◌<◌, ℕ, Option, List, [], ◌∷◌, ◌++◌}
use Rattle.dvg_driver.specs.declared.action.Action.TheVariants.{Wrote, Idle}
use Rattle.dvg_log.specs.declared.entry.Entry.TheVariants.{Acted, Started, Low, Fetched, Done, Cleared}
use Rattle.dvg_log.specs.declared.event.Event.TheVariants.{Tick, Strobe, Fetch, ResetGen}
use Rattle.dvg_log.specs.Log.{◌⟼◌, Line}
use Rattle.dvg_read.specs.Texts.{IsHex}
use Rattle.dvg_logs.specs.LogLines.{IsWrittenAt}
use Rattle.dvg_logs.specs.declared.log_line.LogLine.{LogLine}
use Rattle.dvg_logs.specs.declared.log_line.LogLine.TheVariants as code

-- the line of a log that a line of text stands for
abbrev pub line_of : LogLine → Line
line_of code.Passed = Tick ⟼ Acted Idle
line_of code.Started = Strobe ⟼ Started
line_of (code.Fetched address word) = Fetch ⟼ Fetched address word
line_of (code.Low address byte) = Fetch ⟼ Low address byte
line_of (code.Wrote address byte) = Tick ⟼ Acted (Wrote address byte)
line_of code.Halted = Fetch ⟼ Done 0 0 []
line_of code.Reset = ResetGen ⟼ Cleared

-- an address of so many hexadecimal digits and a number of this many, with one space between them; 32 is the space
pub record AreNumbers (width count a n : ℕ) (bytes : List ℕ) : Type 0 where
  pub front : List ℕ
  pub back : List ℕ
  pub split : bytes ≡ front ++ 32 ∷ back
  pub address : IsHex width a front
  pub number : IsHex count n back

-- the address and the byte of a write in the RAM, as a log gives them
pub record AreWritten (base : Option ℕ) (a byte : ℕ) (bytes : List ℕ) : Type 0 where
  pub front : List ℕ
  pub back : List ℕ
  pub split : bytes ≡ front ++ 32 ∷ back
  pub ram : a < 0x800
  pub address : IsWrittenAt base a front
  pub byte_is : IsHex 2 byte back

-- such numbers, of an address of three digits, and a line's end stand at the head of a text, and then comes the rest;
-- 10 is LF
pub record BeginsWithNumbers (count a n : ℕ) (text rest : List ℕ) : Type 0 where
  pub bytes : List ℕ
  pub split : text ≡ bytes ++ 10 ∷ rest
  pub numbers : AreNumbers 3 count a n bytes
