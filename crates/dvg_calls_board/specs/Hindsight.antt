-- Machines whose programs build frames, and know of no draft beforehand.
use Rattle.std.specs.Prelude.{ℕ, List}
use Rattle.dvg_frame.specs.declared.op.OpKind.{OpKind}
use Rattle.dvg_frame.specs.Ops.{IsDraft}
use Rattle.dvg_frame.specs.Faults.{Accepts}
use Rattle.dvg_log.specs.Log.{Log, Throughout}
use Rattle.dvg_log.specs.Legal.{IsLegal}
use Rattle.dvg_log.specs.Headline.{KeepsHeadline}
use Rattle.dvg_calls_6502.specs.Calls
use Rattle.dvg_calls_6502.specs.Calls.{Routine, Call}
use Rattle.dvg_calls_6502.specs.Programs.{CallBrings, with_drafts}
use Rattle.dvg_cells_board.specs.Board.{Bus}
use Rattle.dvg_calls_board.specs.Machine.{IsMachineBy, IsMachine}

-- the check accepts the draft of each table that is offered
abbrev pub IsCheckedTable : List ℕ → Routine → Type 0
IsCheckedTable R (Calls.Offer F) = IsDraft F × Accepts F R
IsCheckedTable R routine = Unit {0}

-- a machine whose program tells what each call puts; dvg_open may be of any draft, in the calls and in the log
abbrev pub IsProgram : (R image : List ℕ) (held : ℕ → ℕ) → List Call → Log → List Bus → Type 0
IsProgram R image held = IsMachineBy (CallBrings R) (IsCheckedTable R) R image held

-- there are the drafts that were built, with which it is a machine that the laws speak of: the same clocks, the same
-- calls but for these drafts, and a log that is legal and keeps the headline
abbrev pub HindsightKeeps : Type 0
HindsightKeeps = (R image : List ℕ) (held : ℕ → ℕ) (calls : List Call) (log : Log) (clocks : List Bus)
    → IsProgram R image held calls log clocks
    → (drafts : List (List OpKind)) × (named : Log) × IsMachine R image held (with_drafts calls drafts) named clocks
    × IsLegal R image named × Throughout (KeepsHeadline R image) named
