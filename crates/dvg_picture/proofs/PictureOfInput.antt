-- From the run that is recorded to what is shown of the input.
use Rattle.std.proofs.Common.{◌≡◌, ℕ, ◌+◌, ◌<◌, ◌≤◌, List, ◌++◌, inl, inr, Bool, Option, Result, Ok, Err, IfOk, IfErr, length, take, drop, get_or, flat_map, ap, sym, ◌∙◌, subst, arith}
use Rattle.std.proofs.lemmas.List.{drop_more, length-take}
use Rattle.std.specs.Io.KnownBytes.{Appends}
use Rattle.dvg_read.specs.declared.fault.TextFault.{TextFault}
use Rattle.dvg_read.specs.declared.fault.TextFault.TheVariants.{DumpSize, LongDump}
use Rattle.dvg_read.specs.declared.fault.Unread.{Unread}
use Rattle.dvg_read.specs.declared.fault.Unread.TheVariants as unread
use Rattle.dvg_io.specs.declared.fault.ToolFault.{ToolFault}
use Rattle.dvg_io.specs.declared.fault.ToolFault.TheVariants.{Text, Reader, Writer, Memory}
use Rattle.dvg_io.specs.Watching.{BeginsToWrite}
use Rattle.dvg_io.specs.Serving.{Answers, IsFinding, OfInput}
use Rattle.dvg_io.proofs.Inputs.{whole}
use Rattle.dvg_dump.specs.declared.ending.Outcome.{Outcome}
use Rattle.dvg_dump.specs.declared.ran.Ran.{Ran}
use Rattle.dvg_dump.specs.declared.runs.Traced.{Traced}
use Rattle.dvg_dump.specs.Endings.{end_of, outcome_of}
use Rattle.dvg_dump.specs.Ends.{End}
use Rattle.dvg_dump.specs.Memory.{HasDumpSize}
use Rattle.dvg_job.specs.declared.form.PictureForm.{PictureForm}
use Rattle.dvg_picture.specs.Pictures.{HasDumpFault, IsDumpFault, IsRunOf, Pictures, ShowsRun}
use Rattle.dvg_dump.specs.declared.dump.TheConstants.{LARGE_DUMP_BYTES}
use Rattle.dvg_picture.specs.Texts.{ran_text, recorded_text, traces}
use Rattle.dvg_picture.proofs.Recorded.{recorded_as}

-- the next instruction is that at this index
pub next_ran : (trace : List Ran) (i : ℕ) (ran : Ran) → i < length trace → ran ≡ get_or trace i ran
    → flat_map ran_text (drop i trace) ≡ ran_text ran ++ flat_map ran_text (drop (i + 1) trace)
next_ran trace i ran low is = ap (flat_map ran_text) (drop_more trace i ran low) ∙ ap (λ r. ran_text r ++ flat_map ran_text (drop (i + 1) trace)) (sym is)

-- what was read is the input, if it has the size of a dump
pub short : (size : List ℕ) → HasDumpSize size → length size ≤ LARGE_DUMP_BYTES
short dump (inl small) = omega arith
short dump (inr large) = omega arith

-- the fault of what was read is that of the input
pub faulted : (fault : TextFault) (input read : List ℕ) → read ≡ take (LARGE_DUMP_BYTES + 1) input → HasDumpFault read fault → HasDumpFault input fault
faulted (DumpSize bytes) input read e h =
    subst (λ dump. HasDumpFault dump (DumpSize bytes)) (whole LARGE_DUMP_BYTES read input e (omega (arith, h.0, h.1))) h
faulted LongDump input read e h = omega (arith, h, ap length e, length-take (LARGE_DUMP_BYTES + 1) input)
faulted _ input read e h = absurd h

-- the run over what was read is that over the input
pub run_of : (recorded : Bool) (input read : List ℕ) (ran : List Ran) (end : End) → read ≡ take (LARGE_DUMP_BYTES + 1) input → IsRunOf recorded read ran end → IsRunOf recorded input ran end
run_of recorded input read ran end e run = subst (λ dump. IsRunOf recorded dump ran end) (whole LARGE_DUMP_BYTES read input e (short read run.0)) run

-- what is found of what was read is found of the input
pub finds : {A : Type 0} (recorded : Bool) (read : List ℕ) (answer : Result (Traced A) Unread)
    → IfOk answer (λ run. IsRunOf recorded read run.ran.items (end_of run.ending)) → IfErr answer (IsDumpFault read)
    → OfInput LARGE_DUMP_BYTES read (λ input. IsFinding (λ run. IsRunOf recorded input run.ran.items (end_of run.ending)) (HasDumpFault input) answer)
finds recorded read (Ok run) ok err input e = run_of recorded input read run.ran.items (end_of run.ending) e ok
finds recorded read (Err (unread.Text fault)) ok err input e = faulted fault input read e err
finds recorded read (Err unread.Memory) ok err input e = tt

-- a run is shown
shows : (form : PictureForm) (input : List ℕ) (ran : List Ran) (end : End) (Holds : End → List ℕ → Type 0) → IsRunOf (traces form) input ran end
    → Holds end (recorded_text form ran end) → ShowsRun form input Holds
shows form input ran end Holds run holds = record {
  size = run.0;
  visits = run.1.0;
  end = end;
  ends = run.1.1;
  holds = subst (Holds end) (ap (λ recorded. recorded_text form recorded end) run.1.2 ∙ recorded_as form _ run.1.0 end) holds;
}

pub drew : (form : PictureForm) (outcome : Outcome) (ran : List Ran) (end : End) (old new : Option (List ℕ)) (input : List ℕ) → outcome ≡ outcome_of end
    → IsRunOf (traces form) input ran end × Appends old new (recorded_text form ran end) → Pictures form (Ok outcome) input old new
drew form outcome ran end old new input called run = shows form input ran end (λ end text. (outcome ≡ outcome_of end) × Appends old new text) run.0 (called, run.1)

-- where it stops
pub stops : (A : Type 0) (form : PictureForm) (fault : ToolFault) (old new : Option (List ℕ)) (input : List ℕ)
    → Answers {F = Traced A} (λ input run. IsRunOf (traces form) input run.ran.items (end_of run.ending)) HasDumpFault
    (λ run. recorded_text form run.ran.items (end_of run.ending)) (Err fault) input old new
    → Pictures form (Err fault) input old new
stops A form (Text fault) old new input h = h
stops A form Reader old new input h = tt
stops A form Memory old new input h = tt
stops A form Writer old new input (run, found, begun) = shows form input run.ran.items (end_of run.ending) (λ end text. BeginsToWrite text old new) found begun
