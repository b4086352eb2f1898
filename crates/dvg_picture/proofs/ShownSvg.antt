-- From the run that is recorded to what it draws.
use Rattle.std.proofs.Common.{◌≡◌, ℕ, List, true, Option, Result, Ok, Err, IfOk, IfErr, ap, sym, ◌∙◌, subst}
use Rattle.dvg_gen.specs.declared.stroke.Stroke.{Stroke}
use Rattle.dvg_read.specs.declared.fault.Unread.{Unread}
use Rattle.dvg_read.specs.declared.fault.Unread.TheVariants as unread
use Rattle.dvg_io.specs.declared.fault.ToolFault.{ToolFault}
use Rattle.dvg_io.specs.declared.fault.ToolFault.TheVariants.{Text, Reader, Writer, Memory}
use Rattle.dvg_io.specs.Serving.{Answers, IsFinding, OfInput}
use Rattle.dvg_io.proofs.Inputs.{whole}
use Rattle.dvg_dump.specs.declared.ran.Ran.{Ran}
use Rattle.dvg_dump.specs.Ends.{End}
use Rattle.dvg_dump.specs.Memory.{memory_of, parts_of}
use Rattle.dvg_dump.proofs.OneStroke.{strokes_of_trace}
use Rattle.dvg_picture.specs.declared.svg.DumpPicture.{DumpPicture}
use Rattle.dvg_picture.specs.declared.undrawn.Undrawn.{Undrawn}
use Rattle.dvg_picture.specs.Pictures.{HasDumpFault, IsDumpFault, IsRunOf}
use Rattle.dvg_picture.specs.Svgs.{DrawsDump, DrawsSvg, run_svg, strokes_of}
use Rattle.dvg_picture.specs.Undrawn.{undrawn_by}
use Rattle.dvg_picture.proofs.PictureOfInput.{faulted, short}
use Rattle.dvg_dump.specs.declared.dump.TheConstants.{LARGE_DUMP_BYTES}

-- what a run that is recorded draws
pub draws : (dump : List ℕ) (ran : List Ran) (end : End) (drew : List Stroke) (undrawn : Option Undrawn) → IsRunOf true dump ran end → drew ≡ strokes_of ran
    → undrawn ≡ undrawn_by end → DrawsDump dump drew undrawn
draws dump ran end drew undrawn run recorded called = record {
  size = run.0;
  visits = run.1.0;
  end = end;
  ends = run.1.1;
  strokes = recorded ∙ ap strokes_of run.1.2 ∙ sym (strokes_of_trace (memory_of (parts_of dump)) run.1.0);
  called = called;
}

-- what is found of what was read is found of the input
pub finds : {A : Type 0} (read : List ℕ) (answer : Result (DumpPicture A) Unread)
    → IfOk answer (λ drawn. DrawsDump read drawn.strokes.items drawn.undrawn) → IfErr answer (IsDumpFault read)
    → OfInput LARGE_DUMP_BYTES read (λ input. IsFinding (λ drawn. DrawsDump input drawn.strokes.items drawn.undrawn) (HasDumpFault input) answer)
finds read (Ok drawn) ok err input e =
    subst (λ dump. DrawsDump dump drawn.strokes.items drawn.undrawn) (whole LARGE_DUMP_BYTES read input e (short read ok.size)) ok
finds read (Err (unread.Text fault)) ok err input e = faulted fault input read e err
finds read (Err unread.Memory) ok err input e = tt

-- where it stops
pub stops : (A : Type 0) (percent : ℕ) (fault : ToolFault) (old new : Option (List ℕ)) (input : List ℕ)
    → Answers {F = DumpPicture A} (λ input drawn. DrawsDump input drawn.strokes.items drawn.undrawn) HasDumpFault (λ drawn. run_svg percent drawn.undrawn drawn.strokes.items) (Err fault) input old new
    → DrawsSvg percent (Err fault) input old new
stops A percent (Text fault) old new input h = h
stops A percent Reader old new input h = tt
stops A percent Memory old new input h = tt
stops A percent Writer old new input (drawn, found, begun) = (drawn.strokes.items, drawn.undrawn, found, begun)
