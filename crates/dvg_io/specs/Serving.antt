-- What an engine finds of its input, and what it is to serve an input with it.
use Rattle.std.specs.Prelude.{◌≡◌, ℕ, ◌+◌, ◌≤◌, ◌↔◌, List, take, Option, Result, Ok, Err, IfErr, IfSome, IsErrOf}
use Rattle.std.specs.Io.KnownBytes.{Appends}
use Rattle.dvg_read.specs.declared.fault.TextFault.{TextFault}
use Rattle.dvg_read.specs.declared.fault.Unread.{Unread}
use Rattle.dvg_read.specs.declared.fault.Unread.TheVariants as unread
use Rattle.dvg_io.specs.declared.fault.ToolFault.{ToolFault}
use Rattle.dvg_io.specs.declared.fault.ToolFault.TheVariants.{Text, Reader, Writer}
use Rattle.dvg_io.specs.declared.watched.Watched.{Watched}
use Rattle.dvg_io.specs.Watching.{BeginsToWrite, TakesAtMost, failures_of, stream_of}

-- this holds of each input of which these bytes are read: the whole input, or its first
-- `most` + 1 bytes
abbrev pub OfInput : (most : ℕ) → (read : List ℕ) → (List ℕ → Type 0) → Type 0
OfInput most read Holds = (input : List ℕ) → read ≡ take (most + 1) input → Holds input

-- what is found, or why nothing is: a fault of the text, or want of memory
abbrev pub IsFinding : {F : Type 0} → (Finds : F → Type 0) → (HasFault : TextFault → Type 0)
    → Result F Unread → Type 0
IsFinding Finds HasFault (Ok found) = Finds found
IsFinding Finds HasFault (Err (unread.Text fault)) = HasFault fault
IsFinding Finds HasFault (Err unread.Memory) = Unit {0}

-- what an answer to an input says, with what was written before it and after it
abbrev pub Meaning : Type 0 → Type 1
Meaning V = Result V ToolFault → (input : List ℕ) → (old new : Option (List ℕ)) → Type 0

-- the answer to an input, and what went out: the text of what is found, or at `Writer` a beginning
-- of it (that nothing went out at the other faults is a part of `Serves`)
abbrev pub Answers : {F : Type 0} → (Finds : List ℕ → F → Type 0)
    → (HasFault : List ℕ → TextFault → Type 0) → (text : F → List ℕ)
    → Result F ToolFault → (input : List ℕ) → (old new : Option (List ℕ)) → Type 0
Answers Finds HasFault text (Ok found) input old new =
    Finds input found × Appends old new (text found)
Answers Finds HasFault text (Err (Text fault)) input old new = HasFault input fault
Answers {F} Finds HasFault text (Err Writer) input old new =
    (found : F) × Finds input found × BeginsToWrite (text found) old new
Answers Finds HasFault text (Err _) input old new = Unit {0}

-- neither of the two streams has failed
abbrev pub AreFresh : {R W : Type 0} → Watched R → Watched W → Type 0
AreFresh reader writer = (failures_of reader ≡ 0) × (failures_of writer ≡ 0)

-- what an engine keeps: where a reader's bytes are known, this is answered and went out; no more
-- than one byte above the most is taken; at an early fault the writer is as it was; and a stream's
-- failure is counted and answered
pub record Serves {R W V : Type 0}
    (remaining : R → Option (List ℕ)) (contents : W → Option (List ℕ)) (most : ℕ)
    (IsEarly : ToolFault → Type 0) (Means : Meaning V) (answer : Result V ToolFault)
    (old_reader new_reader : Watched R) (old_writer new_writer : Watched W) : Type 0 where
  pub means : IfSome (remaining (stream_of old_reader)) (λ input.
      Means answer input (contents (stream_of old_writer)) (contents (stream_of new_writer)))
  pub took : TakesAtMost (most + 1)
      (remaining (stream_of old_reader)) (remaining (stream_of new_reader))
  pub unwritten : IfErr answer (λ fault. IsEarly fault → new_writer ≡ old_writer)
  pub reader : IsErrOf answer Reader ↔ (failures_of new_reader ≡ 1)
  pub writer : IsErrOf answer Writer ↔ (failures_of new_writer ≡ 1)
  pub stops : (failures_of new_reader ≤ 1) × (failures_of new_writer ≤ 1)
