-- What is said of the text of a log.
use Rattle.std.specs.Prelude.{◌≡◌, ◌+◌, ◌-◌, ◌^◌, ◌<◌, ℕ, List, ◌∷◌, ◌++◌, length, Option, Some, None, Result, Ok, Err}
use Rattle.dvg_driver.specs.declared.action.Action.TheVariants.{Wrote}
use Rattle.dvg_log.specs.declared.entry.Entry.TheVariants.{Acted}
use Rattle.dvg_log.specs.declared.event.Event.TheVariants.{Tick}
use Rattle.dvg_log.specs.Log.{◌⟼◌, Line, Log, Throughout}
use Rattle.dvg_log.specs.Torn.{IsTorn, IsUntorn}
use Rattle.dvg_read.specs.Texts.{lines}
use Rattle.dvg_read.specs.declared.fault.TextFault.{TextFault}
use Rattle.dvg_read.specs.declared.fault.TextFault.TheVariants.{TooLong, Syntax}
use Rattle.dvg_print.specs.declared.log_verdict.LogFinding.TheVariants.{Torn}
use Rattle.dvg_print.specs.declared.log_verdict.LogVerdict.{LogVerdict}
use Rattle.dvg_logs.specs.LogCounts.{counts_of, said_of}
use Rattle.dvg_logs.specs.LogLines.{IsLineOf, IsLogOf}

-- the lines give this log, of which this holds
pub record IsLogSo (base : Option ℕ) (Holds : Log → Type 0) (log : Log) (texts : List (List ℕ)) : Type 0 where
  pub tells : IsLogOf base log texts
  pub holds : Holds log

-- line n is the first that says nothing that a line may say, and of the log before it this holds
pub record MeetsSyntax (base : Option ℕ) (Holds : Log → Type 0) (texts : List (List ℕ)) (n : ℕ) : Type 0 where
  pub before : List (List ℕ)
  pub line : List ℕ
  pub after : List (List ℕ)
  pub cut : texts ≡ before ++ line ∷ after
  pub number : n ≡ length before + 1
  pub log : Log
  pub fine : IsLogSo base Holds log before
  pub wrong : (logged : Line) → ¬ IsLineOf base logged line

-- there are more than 2 ^ 64 - 1 lines, none of the first 2 ^ 64 - 1 is at fault, and of their log this holds
pub record MeetsTooMany (base : Option ℕ) (Holds : Log → Type 0) (texts : List (List ℕ)) : Type 0 where
  pub before : List (List ℕ)
  pub line : List ℕ
  pub after : List (List ℕ)
  pub cut : texts ≡ before ++ line ∷ after
  pub number : length before ≡ 2 ^ 64 - 1
  pub log : Log
  pub fine : IsLogSo base Holds log before

-- the lines give this log, of which this holds, and they are fewer than 2 ^ 64
pub record IsWhole (base : Option ℕ) (Holds : Log → Type 0) (texts : List (List ℕ)) (log : Log) : Type 0 where
  pub fine : IsLogSo base Holds log texts
  pub fits : length texts < 2 ^ 64

-- at line n of a text this is found, by the log of the lines before it, of which this holds
pub record IsFoundAt {V : Type 0} (base : Option ℕ) (Passes : Log → Type 0) (Finds : V → Line → Log → Type 0)
    (texts : List (List ℕ)) (n : ℕ) (verdict : V) : Type 0 where
  pub before : List (List ℕ)
  pub text : List ℕ
  pub after : List (List ℕ)
  pub cut : texts ≡ before ++ text ∷ after
  pub number : n ≡ length before + 1
  pub log : Log
  pub fine : IsLogSo base Passes log before
  pub line : Line
  pub tells : IsLineOf base line text
  pub finds : Finds verdict line log

-- this is said of lines: where it is found at line n, or by their log, as nothing is found in it
abbrev pub Says : {V : Type 0} → (base : Option ℕ) → (Log → Type 0) → (V → Line → Log → Type 0) → (V → Log → Type 0)
    → V → List (List ℕ) → Option ℕ → Type 0
Says base Passes Finds Ends verdict texts None = (log : Log) × IsWhole base Passes texts log × Ends verdict log
Says base Passes Finds Ends verdict texts (Some n) = IsFoundAt base Passes Finds texts n verdict

-- the fault of a log's text, where this holds of the log before it
abbrev pub HasFaultIn : (base : Option ℕ) → (Log → Type 0) → List ℕ → TextFault → Type 0
HasFaultIn base Holds text (Syntax n) = MeetsSyntax base Holds (lines text) n
HasFaultIn base Holds text TooLong = MeetsTooMany base Holds (lines text)
HasFaultIn base Holds text _ = ⊥

-- the fault of a log's text, before which no line is torn
abbrev pub HasLogFault : (base : Option ℕ) → List ℕ → TextFault → Type 0
HasLogFault base = HasFaultIn base (Throughout IsUntorn)

-- the line is torn
abbrev pub IsTornLine : Log → Line → Type 0
IsTornLine log (event ⟼ entry) = IsTorn log event entry

-- a line is torn: its number and what it wrote are said, and what is counted up to it
pub record FindsTorn (verdict : LogVerdict) (line : Line) (log : Log) : Type 0 where
  pub address : ℕ
  pub byte : ℕ
  pub is : line ≡ Tick ⟼ Acted (Wrote address byte)
  pub torn : IsTornLine log line
  pub finding : verdict.finding ≡ Torn (length log + 1) address byte
  pub counts : verdict.counts ≡ counts_of (line ∷ log)

-- what is said where no line is
abbrev pub EndsUntorn : LogVerdict → Log → Type 0
EndsUntorn verdict log = verdict ≡ said_of (counts_of log)

-- this is said of the text of a log by the rule of halves: at line n, or at its end
abbrev pub JudgesHalves : (base : Option ℕ) → (text : List ℕ) → LogVerdict → Option ℕ → Type 0
JudgesHalves base text verdict decided =
    Says base (Throughout IsUntorn) FindsTorn EndsUntorn verdict (lines text) decided

-- the same, wherever it is decided
abbrev pub JudgesLog : (base : Option ℕ) → (text : List ℕ) → LogVerdict → Type 0
JudgesLog base text verdict = (decided : Option ℕ) × JudgesHalves base text verdict decided

-- `torn` says this of a text, or the text has this fault
abbrev pub AnswersTorn : (base : Option ℕ) → (text : List ℕ) → Result LogVerdict TextFault → Type 0
AnswersTorn base text (Ok verdict) = JudgesLog base text verdict
AnswersTorn base text (Err fault) = HasLogFault base text fault
