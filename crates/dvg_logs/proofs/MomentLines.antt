-- What lines make of what is known of a log, by the rule of moments.
use Rattle.std.proofs.Common.{◌≡◌, ◌≢◌, ◌≤◌, ◌<◌, ◌+◌, ◌%◌, ◌^◌, ◌-◌, ℕ, suc, List, [], ◌∷◌, length, Option, Some, None, Bool, true, false, ◌&&◌, cond, inl, inr, refl, sym, ap, ◌∙◌, arith}
use Rattle.std.specs.Prelude.{IsTrue, ◌↔◌, option_map, is_some}
use Rattle.std.proofs.lemmas.Option.{none-some}
use Rattle.dvg_log.specs.Entries.{Shown}
use Rattle.dvg_log.specs.Events.{Happening}
use Rattle.dvg_driver.specs.declared.action.Action.TheVariants.{Idle, Wrote}
use Rattle.dvg_log.specs.declared.entry.Entry.TheVariants.{Acted, Cleared, Started}
use Rattle.dvg_log.specs.declared.event.Event.TheVariants.{Fetch, ResetGen, Strobe, Tick}
use Rattle.dvg_print.specs.declared.moment_verdict.MomentVerdict.{MomentVerdict}
use Rattle.dvg_logs.specs.LogLineTells.{line_of}
use Rattle.dvg_logs.specs.declared.log_line.LogLine.{LogLine}
use Rattle.dvg_logs.specs.declared.log_line.LogLine.TheVariants as code
use Rattle.dvg_log.specs.Log.{◌⟼◌, Line, Log, open_run}
use Rattle.dvg_moment.specs.Judging.{IsTorn}
use Rattle.dvg_moment.specs.Moment.{OfOneMoment, reads, told}
use Rattle.dvg_moment.proofs.Latest.{past_on, torn_on}
use Rattle.dvg_print.specs.declared.moment_verdict.Reading.{Reading}
use Rattle.dvg_print.specs.declared.moment_verdict.Reading.TheVariants as of
use Rattle.dvg_logs.specs.MomentLogs.{AreDecided, IsSound, TornSince, judged_log, halted_of, halts_run, is_past_zero, judged_of, reading_entry}
use Rattle.dvg_logs.specs.MomentLines.{TearsSo}
use Rattle.dvg_logs.specs.declared.moment_lines.Tear.{Tear}

-- a log has as many lines as it is judged by
pub judged_length : (log : Log) → length (judged_log log) ≡ length log
judged_length [] = refl
judged_length (line ∷ log) = ap suc (judged_length log)

-- ---- what is torn

pub torn_of : (log : Log) (n : ℕ) (last : Line) → TornSince log n last → IsTorn log
torn_of [] n last since = absurd since
torn_of (line ∷ log) n last since = since.0

module _ (log : Log) (event : Happening) (entry : Shown) (goes : entry ≢ Started) where
  -- no moment comes back
  stays : open_run ((event ⟼ entry) ∷ log) ≢ None → IsTorn log → IsTorn ((event ⟼ entry) ∷ log)
  stays opened torn = (opened, torn_on told log event entry goes torn.1)

  since_on : (n : ℕ) (last : Line) → (open_run log ≢ None → open_run ((event ⟼ entry) ∷ log) ≢ None) → TornSince log n last → TornSince ((event ⟼ entry) ∷ log) n last
  since_on n last opened since = let torn = torn_of log n last since in (stays (opened torn.0) torn, inl (torn, since))

  -- a line that reads nothing leaves a moment
  keeps : ((a : ℕ) → reads log entry a ≡ None) → OfOneMoment told log → OfOneMoment told ((event ⟼ entry) ∷ log)
  keeps none one = ((event ⟼ entry) ∷ one.0, one.1, past_on told log event entry goes one.0 one.1 one.2 (λ a read changed. absurd (read (none a))))

  -- so it tears no run
  pub silent_tears : (tear : Option Tear) → ((a : ℕ) → reads log entry a ≡ None) → (open_run log ≡ open_run ((event ⟼ entry) ∷ log)) → TearsSo tear log → TearsSo tear ((event ⟼ entry) ∷ log)
  silent_tears None none same whole = λ torn. whole ((λ e. torn.0 (sym same ∙ e)), λ one. torn.1 (keeps none one))
  silent_tears (Some tear) none same since = since_on tear.line (Fetch ⟼ reading_entry tear.reading) (λ opened e. opened (same ∙ e)) since

-- a line that reads may leave no moment
open_on : (reading : Reading) (log : Log) → open_run log ≢ None → open_run ((Fetch ⟼ reading_entry reading) ∷ log) ≢ None
open_on (of.Low address byte) log opened = opened
open_on (of.Fetched address word) log opened = by_case (open_run log) opened
  where
    by_case : (run : Option (List (ℕ × ℕ))) → run ≢ None → option_map (λ fetches. (address, word) ∷ fetches) run ≢ None
    by_case None opened e = opened refl
    by_case (Some fetches) opened e = none-some _ (sym e)

reading_goes : (reading : Reading) → reading_entry reading ≢ Started
reading_goes (of.Low address byte) e = cc
reading_goes (of.Fetched address word) e = cc

pub reading_on : (reading : Reading) (log : Log) (tear : Tear) → TearsSo (Some tear) log → TearsSo (Some tear) ((Fetch ⟼ reading_entry reading) ∷ log)
reading_on reading log tear since = since_on log Fetch (reading_entry reading) (reading_goes reading) tear.line (Fetch ⟼ reading_entry tear.reading) (open_on reading log) since

pub torn_by : (reading : Reading) (log : Log) (line : ℕ) → ¬ IsTorn log → IsTorn ((Fetch ⟼ reading_entry reading) ∷ log) → line ≡ length log + 1
    → TearsSo (Some (record { line = line; reading = reading })) ((Fetch ⟼ reading_entry reading) ∷ log)
torn_by reading log line whole torn at = (torn, inr (whole, at, refl))

-- ---- what is counted

pub halted_few : (log : Log) → halted_of log ≤ length log
halted_few [] = omega arith
halted_few (line ∷ log) = by_case (halts_run line log) (halted_few log)
  where
    by_case : (one : Bool) → halted_of log ≤ length log → cond one 1 0 + halted_of log ≤ suc (length log)
    by_case true few = omega (arith, few)
    by_case false few = omega (arith, few)

-- a line by which no run comes to its HALT
pub halted_same : (line : Line) (log : Log) → halts_run line log ≡ false → halted_of (line ∷ log) ≡ halted_of log
halted_same line log none =
    let same : halted_of (line ∷ log) ≡ 0 + halted_of log = ap (λ b. cond b 1 0 + halted_of log) none in
    omega (arith, same)

pub halted_more : (line : Line) (log : Log) → halts_run line log ≡ true → halted_of (line ∷ log) ≡ 1 + halted_of log
halted_more line log one = ap (λ b. cond b 1 0 + halted_of log) one

-- no more runs are judged than came to their HALT
pub judged_few : (log : Log) → judged_of log ≤ halted_of log
judged_few [] = omega arith
judged_few (line ∷ log) = by_case (halts_run line log) (is_past_zero log) (judged_few log)
  where
    by_case : (one past : Bool) → judged_of log ≤ halted_of log → cond (one && past) 1 0 + judged_of log ≤ cond one 1 0 + halted_of log
    by_case true true few = omega (arith, few)
    by_case true false few = omega (arith, few)
    by_case false past few = omega (arith, few)

pub judged_same : (line : Line) (log : Log) → halts_run line log ≡ false → judged_of (line ∷ log) ≡ judged_of log
judged_same line log none =
    let same : judged_of (line ∷ log) ≡ 0 + judged_of log = ap (λ b. cond (b && is_past_zero log) 1 0 + judged_of log) none in
    omega (arith, same)

-- whether a run is open
pub halts_is : (halts : Bool) (run : Option (List (ℕ × ℕ))) → IsTrue halts ↔ (run ≢ None) → halts ≡ is_some run
halts_is true None tells = absurd (tells.0 refl refl)
halts_is true (Some fetches) tells = refl
halts_is false None tells = refl
halts_is false (Some fetches) tells = tells.1 (λ e. none-some _ (sym e))

-- the counts after a line by which a run comes to its HALT or none does
pub halted_on : (line : Line) (log : Log) (halts : Bool) (count : ℕ) → halts ≡ halts_run line log → count ≡ halted_of log → length log < 2 ^ 64 - 1 → cond halts ((count + 1) % 2 ^ 64) count ≡ halted_of (line ∷ log)
halted_on line log true count is so few = let more = halted_more line log (sym is) in omega (arith, so, more, halted_few log, few)
halted_on line log false count is so few = so ∙ sym (halted_same line log (sym is))

-- and the count of those that are judged
pub judged_on : (line : Line) (log : Log) (is_one : Bool) (count : ℕ) → is_one ≡ (halts_run line log && is_past_zero log) → count ≡ judged_of log → length log < 2 ^ 64 - 1
    → cond is_one ((count + 1) % 2 ^ 64) count ≡ judged_of (line ∷ log)
judged_on line log true count is so few =
    let more : judged_of (line ∷ log) ≡ 1 + judged_of log = ap (λ b. cond b 1 0 + judged_of log) (sym is) in
    omega (arith, so, more, judged_few log, halted_few log, few)
judged_on line log false count is so few =
    let same : judged_of (line ∷ log) ≡ 0 + judged_of log = ap (λ b. cond b 1 0 + judged_of log) (sym is) in
    omega (arith, so, same)

-- ---- what is said of lines that decide

pub sound_more : (said : List MomentVerdict) (event : Happening) (entry : Shown) (log : Log) → IsSound log event entry → AreDecided said log → AreDecided said ((event ⟼ entry) ∷ log)
sound_more [] event entry log sound are = (sound, are)
sound_more (one ∷ said) event entry log sound are = inl (sound, are)

-- a line that reads nothing, and ends no run, decides nothing
pub quiet_more : (logged : LogLine) (said : List MomentVerdict) (log : Log) → ((address byte : ℕ) → logged ≡ code.Low address byte → ⊥) → ((address word : ℕ) → logged ≡ code.Fetched address word → ⊥) → (logged ≡ code.Halted → ⊥) → AreDecided said log → AreDecided said (line_of logged ∷ log)
quiet_more code.Passed said log low fetched halted are = sound_more said Tick (Acted Idle) log (λ contradicts. let (a, byte, other, ram, read, told, differs) = contradicts in absurd cc) are
quiet_more code.Started said log low fetched halted are = sound_more said Strobe Started log (λ contradicts. let (a, byte, other, ram, read, told, differs) = contradicts in absurd cc) are
quiet_more (code.Wrote address byte) said log low fetched halted are = sound_more said Tick (Acted (Wrote address byte)) log (λ contradicts. let (a, byte, other, ram, read, told, differs) = contradicts in absurd cc) are
quiet_more code.Reset said log low fetched halted are = sound_more said ResetGen Cleared log (λ contradicts. let (a, byte, other, ram, read, told, differs) = contradicts in absurd cc) are
quiet_more (code.Low address byte) said log low fetched halted are = absurd (low address byte refl)
quiet_more (code.Fetched address word) said log low fetched halted are = absurd (fetched address word refl)
quiet_more code.Halted said log low fetched halted are = absurd (halted refl)
