-- What is done for a job.
use Rattle.std.specs.Prelude.{◌+◌, ℕ, List, Option, Result, IfSome, IsErrAnd}
use Rattle.std.specs.Prelude.{false, true}
use Rattle.dvg_io.specs.Faults.{ComesBeforeText, StopsBeforeWriting}
use Rattle.dvg_io.specs.Serving.{Meaning}
use Rattle.dvg_io.specs.Watching.{TakesAtMost}
use Rattle.dvg_io.specs.declared.fault.ToolFault.{ToolFault}
use Rattle.dvg_explain.specs.Findings.{Explains}
use Rattle.dvg_game.specs.Telling.{JudgesGame}
use Rattle.dvg_game.specs.declared.engine.TheConstants.{GAME_BYTES}
use Rattle.dvg_lay.specs.Checks.{ChecksSketch}
use Rattle.dvg_lay.specs.DrawnSketches.{Draws}
use Rattle.dvg_lay.specs.Sketches.{Lays}
use Rattle.dvg_logs.specs.AllTears.{AllTakes, AllTears}
use Rattle.dvg_logs.specs.MomentTears.{MomentTakes, MomentTears}
use Rattle.dvg_logs.specs.Tears.{Takes, Tears}
use Rattle.dvg_picture.specs.Pictures.{Pictures}
use Rattle.dvg_picture.specs.Svgs.{DrawsSvg}
use Rattle.dvg_tool.specs.Lists.{Lists}
use Rattle.dvg_tool.specs.Roms.{WritesRom}
use Rattle.dvg_tool.specs.Checks.{Checks, ChecksBound}
use Rattle.dvg_tool.specs.Plays.{Plays, StopsBeforeShowing}
use Rattle.dvg_tool.specs.PlaysSvg.{PlaysSvg}
use Rattle.dvg_tool.specs.Reports.{Reports, of_bounded, of_explained, of_frames, of_log, of_made, of_moments}
use Rattle.dvg_tool.specs.Reports.{of_outcome, of_told, of_undrawn, of_verdict, written}
use Rattle.dvg_tool.specs.declared.outcome.Done.{Done}
use Rattle.dvg_job.specs.declared.task.Job.{Job}
use Rattle.dvg_job.specs.declared.task.Job.TheVariants.{List as list_job, ListAt, Rom, Picture, PictureSvg, Check}
use Rattle.dvg_job.specs.declared.task.Job.TheVariants.{Play, PlaySvg, Torn, Render, RenderCheck, Lay, Explain, Game}
use Rattle.dvg_job.specs.declared.form.LogRule.TheVariants.{Halves, Moments, AllMoments}
use Rattle.dvg_read.specs.declared.draft_text.TheConstants.{MOST_TEXT_BYTES}
use Rattle.dvg_tool.specs.declared.lists.TheConstants.{MOST_LIST_BYTES}
use Rattle.dvg_dump.specs.declared.dump.TheConstants.{LARGE_DUMP_BYTES}
use Rattle.dvg_mem.specs.declared.TheConstants.{LARGE_ROM_BYTES}

-- what is kept of a job: what is reported and written of an input, what is taken of the reader's bytes, and at which
-- reports nothing is written
pub record Task (A : Type 0) : Type 1 where
  pub Means : Meaning (Done A)
  pub Takes : Result (Done A) ToolFault → (old new : Option (List ℕ)) → Type 0
  pub IsEarly : Result (Done A) ToolFault → Type 0

-- that of an engine which reads at most so many bytes, and one more to see whether there are more
abbrev pub served : {A V : Type 0} → (most : ℕ) → (IsEarly : ToolFault → Type 0) → (V → Done A) → Meaning V → Task A
served most IsEarly done Means = record {
  Means = Reports done Means;
  Takes = λ answer old new. TakesAtMost (most + 1) old new;
  IsEarly = λ answer. IsErrAnd answer IsEarly;
}

-- that of one which judges a log: what it takes of the input is said of an answer of which that is reported
abbrev pub judging : {A V : Type 0} → (IsEarly : ToolFault → Type 0) → (V → Done A) → (Means Takes : Meaning V) → Task A
judging IsEarly done Means Takes = record {
  Means = Reports done Means;
  Takes = λ answer old new. IfSome old (λ input. Reports done Takes answer input old new);
  IsEarly = λ answer. IsErrAnd answer IsEarly;
}

-- no fault is early: lines are written while the input is read
abbrev pub NeverEarly : ToolFault → Type 0
NeverEarly fault = ⊥

-- what is kept of each job
abbrev pub task_of : {A : Type 0} → Job → Task A
task_of list_job = served MOST_LIST_BYTES StopsBeforeWriting written (Lists {T = Unit {0}} 0)
task_of (ListAt address) = served MOST_LIST_BYTES StopsBeforeWriting written (Lists {T = Unit {0}} address)
task_of Rom = served LARGE_ROM_BYTES ComesBeforeText written (WritesRom {T = Unit {0}})
task_of (Picture form) = served LARGE_DUMP_BYTES ComesBeforeText of_outcome (Pictures form)
task_of (PictureSvg percent) = served LARGE_DUMP_BYTES ComesBeforeText of_undrawn (DrawsSvg percent)
task_of (Check false) = served MOST_TEXT_BYTES ComesBeforeText of_verdict Checks
task_of (Check true) = served MOST_TEXT_BYTES ComesBeforeText of_bounded ChecksBound
task_of (Play all banked) = served MOST_TEXT_BYTES StopsBeforeShowing written (Plays {T = Unit {0}} all)
task_of (PlaySvg banked show) = served MOST_TEXT_BYTES ComesBeforeText written (PlaysSvg {T = Unit {0}} show)
task_of (Torn Halves base) = judging StopsBeforeWriting of_log (Tears base) (Takes base)
task_of (Torn Moments base) = judging StopsBeforeWriting of_moments (MomentTears base) (MomentTakes base)
task_of (Torn AllMoments base) = judging NeverEarly of_moments (AllTears base) (AllTakes base)
task_of {A} (Render show) = served MOST_TEXT_BYTES ComesBeforeText of_made (Draws {A = A} show)
task_of {A} RenderCheck =
    served MOST_TEXT_BYTES ComesBeforeText (λ said. of_frames said.verdicts.items) (ChecksSketch {A = A})
task_of {A} (Lay form) = served MOST_TEXT_BYTES ComesBeforeText of_made (Lays {A = A} form)
task_of {A} Explain = served MOST_TEXT_BYTES ComesBeforeText of_explained (Explains {A = A})
task_of {A} (Game notes) = served GAME_BYTES ComesBeforeText of_told (JudgesGame {A = A})
