-- What `picture` answers and writes.
use Rattle.std.specs.Prelude.{◌≡◌, ◌<◌, ◌≤◌, ℕ, List, Bool, Option, Result, Ok, Err, length}
use Rattle.std.specs.Io.KnownBytes.{Appends}
use Rattle.dvg_gen.specs.Run.{Visit}
use Rattle.dvg_read.specs.declared.fault.TextFault.{TextFault}
use Rattle.dvg_read.specs.declared.fault.TextFault.TheVariants.{DumpSize, LongDump}
use Rattle.dvg_read.specs.declared.fault.Unread.{Unread}
use Rattle.dvg_read.specs.declared.fault.Unread.TheVariants as unread
use Rattle.dvg_io.specs.declared.fault.ToolFault.{ToolFault}
use Rattle.dvg_io.specs.declared.fault.ToolFault.TheVariants.{Text, Writer}
use Rattle.dvg_io.specs.Watching.{BeginsToWrite}
use Rattle.dvg_dump.specs.declared.ending.Outcome.{Outcome}
use Rattle.dvg_dump.specs.declared.ran.Ran.{Ran}
use Rattle.dvg_dump.specs.Endings.{outcome_of}
use Rattle.dvg_dump.specs.Ends.{End, Ends}
use Rattle.dvg_dump.specs.Following.{TellsRun}
use Rattle.dvg_dump.specs.Memory.{HasDumpSize, memory_of, parts_of}
use Rattle.dvg_job.specs.declared.form.PictureForm.{PictureForm}
use Rattle.dvg_picture.specs.Texts.{picture_text}
use Rattle.dvg_dump.specs.declared.dump.TheConstants.{LARGE_DUMP_BYTES}

-- the input is a dump, whose run ends so, and this holds of that end and of the text that is shown
-- of the run
pub record ShowsRun (form : PictureForm) (input : List ℕ) (Holds : End → List ℕ → Type 0) : Type 0 where
  pub size : HasDumpSize input
  pub visits : List Visit
  pub end : End
  pub ends : Ends (memory_of (parts_of input)) visits end
  pub holds : Holds end (picture_text form (memory_of (parts_of input)) visits end)

-- the fault of an input that isn't a dump: how many bytes it has, or that these are more than a dump's
abbrev pub HasDumpFault : List ℕ → TextFault → Type 0
HasDumpFault input (DumpSize bytes) =
    (length input ≡ bytes) × (bytes ≤ LARGE_DUMP_BYTES) × ¬ HasDumpSize input
HasDumpFault input LongDump = LARGE_DUMP_BYTES < length input
HasDumpFault input _ = ⊥

-- what `picture` answers of an input, and what went out: the text, or at `Writer` a beginning of it
-- (that nothing went out at the other faults is a part of `Serves`)
abbrev pub Pictures : PictureForm → Result Outcome ToolFault → (input : List ℕ) → Option (List ℕ) → Option (List ℕ)
    → Type 0
Pictures form (Ok outcome) input old new = ShowsRun form input
    (λ end text. (outcome ≡ outcome_of end) × Appends old new text)
Pictures form (Err (Text fault)) input old new = HasDumpFault input fault
Pictures form (Err Writer) input old new = ShowsRun form input (λ end text. BeginsToWrite text old new)
Pictures form _ input old new = Unit {0}

-- a dump of a good size, whose run is recorded so (for a private contract)
abbrev pub IsRunOf : Bool → List ℕ → List Ran → End → Type 0
IsRunOf traces dump ran end = HasDumpSize dump × TellsRun traces (memory_of (parts_of dump)) ran end

-- a fault at which no run is recorded: that of the size, or want of memory for a dump of a right
-- size (for a private contract)
abbrev pub IsDumpFault : List ℕ → Unread → Type 0
IsDumpFault dump (unread.Text fault) = HasDumpFault dump fault
IsDumpFault dump unread.Memory = HasDumpSize dump
