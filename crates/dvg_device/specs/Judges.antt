-- What a judge of moments answers to a request.
use Rattle.std.specs.Prelude.{◌≡◌, ◌≢◌, ◌↔◌, [], ◌∷◌, IsTrue, None, Bool}
use Rattle.dvg_driver.specs.declared.action.Action.TheVariants as actions
use Rattle.dvg_log.specs.declared.entry.Entry.TheVariants as entries
use Rattle.dvg_log.specs.declared.event.Event.TheVariants.{Tick, Strobe, Fetch, ResetGen, ResetAll}
use Rattle.dvg_log.specs.Log.{◌⟼◌, Line, Log, open_run}
use Rattle.dvg_moment.specs.declared.judge.MomentJudge.{MomentJudge}
use Rattle.dvg_moment.specs.Judging.{IsTorn, StandsAfter}
use Rattle.dvg_moment.specs.Moment.{Contradicts, IsOfOneMoment, told}
use Rattle.dvg_device.specs.declared.judging.JudgeLine.{JudgeLine}
use Rattle.dvg_device.specs.declared.judging.JudgeLine.TheVariants.{Passed, Started, Low, Fetched, Done, Wrote}
use Rattle.dvg_device.specs.declared.judging.JudgeLine.TheVariants.{Ended, Reset}
use Rattle.dvg_device.specs.declared.reply.Reply.{Reply}
use Rattle.dvg_device.specs.declared.reply.Reply.TheVariants.{Judged, Unknown}
use Rattle.dvg_device.specs.declared.reply.RunState.{RunState}
use Rattle.dvg_device.specs.declared.reply.RunState.TheVariants.{NoRun, OneMoment, NoMoment, Whole, Torn}
use Rattle.dvg_device.specs.declared.request.Request.{Request}
use Rattle.dvg_device.specs.declared.request.Request.TheVariants as requests

-- the line of a log that a judge is told; strokes aren't told
abbrev pub line_of : JudgeLine → Line
line_of Passed = Tick ⟼ entries.Acted actions.Idle
line_of Started = Strobe ⟼ entries.Started
line_of (Low address byte) = Fetch ⟼ entries.Low address byte
line_of (Fetched address word) = Fetch ⟼ entries.Fetched address word
line_of (Done address word) = Fetch ⟼ entries.Done address word []
line_of (Wrote address byte) = Tick ⟼ entries.Acted (actions.Wrote address byte)
line_of Ended = ResetGen ⟼ entries.Cleared
line_of Reset = ResetAll [] ⟼ entries.Cleared

-- a line reads what was not written
abbrev pub IsWrong : Log → Line → Type 0
IsWrong log (event ⟼ entry) = Contradicts log entry

-- the newest run of a log stands so
abbrev pub StandsNow : Log → RunState → Type 0
StandsNow log NoRun = open_run log ≡ None
StandsNow log OneMoment = (open_run log ≢ None) × ¬ IsTorn log
StandsNow log NoMoment = IsTorn log
StandsNow log _ = ⊥

-- a judge says so how the newest run of a log stands, and whether its newest line is wrong
abbrev pub IsJudged : Log → Bool → Reply → Type 0
IsJudged log wrong (Judged run flag) = StandsNow log run × (flag ≡ wrong)
IsJudged log wrong reply = ⊥

-- a HALT ends the run that is open, if one is
abbrev pub Halts : Log → Line → RunState → Type 0
Halts log line NoRun = open_run log ≡ None
Halts log (event ⟼ entry) Whole = (open_run log ≢ None) × ¬ ¬ IsOfOneMoment told log event entry
Halts log (event ⟼ entry) Torn = ¬ IsOfOneMoment told log event entry
Halts log line _ = ⊥

-- so the newest run stands after this line, by the log before it
abbrev pub RunIs : Log → Line → RunState → Type 0
RunIs log (event ⟼ entries.Done address word drew) state = Halts log (event ⟼ entries.Done address word drew) state
RunIs log line state = StandsNow (line ∷ log) state

-- what a judge says of a line after this log
abbrev pub Says : Log → Line → Reply → Type 0
Says log line (Judged run wrong) = RunIs log line run × (IsTrue wrong ↔ IsWrong log line)
Says log line reply = ⊥

-- a judge was told a line, and says how the newest run stands, and whether the line reads what was not written
pub record JudgesLine (line : Line) (judge later : MomentJudge) (reply : Reply) : Type 0 where
  pub stands : (log : Log) → StandsAfter judge log → StandsAfter later (line ∷ log)
  pub says : (log : Log) → StandsAfter judge log → Says log line reply

-- what a judge comes to by a request
abbrev pub JudgeAnswers : Request → MomentJudge → MomentJudge → Reply → Type 0
JudgeAnswers (requests.Tell line) judge later reply = JudgesLine (line_of line) judge later reply
JudgeAnswers requests.ResetGenerator judge later reply = JudgesLine (line_of Ended) judge later reply
JudgeAnswers requests.ResetProcessor judge later reply = JudgesLine (line_of Passed) judge later reply
JudgeAnswers requests.ResetAll judge later reply = JudgesLine (line_of Reset) judge later reply
JudgeAnswers request judge later reply = (later ≡ judge) × (reply ≡ Unknown)
