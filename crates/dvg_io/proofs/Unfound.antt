-- Where nothing is found of an input, it is served all the same.
use Rattle.std.proofs.Common.{◌≡◌, ℕ, ◌+◌, List, Option, None, Some, IfSome, Result, Err, IsErrOf, refl, sym, subst, arith}
use Rattle.dvg_read.specs.declared.fault.TextFault.{TextFault}
use Rattle.dvg_read.specs.declared.fault.Unread.{Unread}
use Rattle.dvg_read.specs.declared.fault.Unread.TheVariants as unread
use Rattle.dvg_io.specs.Faults.{ComesBeforeText, called}
use Rattle.dvg_io.specs.Serving.{Answers, IsFinding, OfInput, Serves}
use Rattle.dvg_io.specs.Watching.{TakesAtMost, failures_of, stream_of}
use Rattle.dvg_io.specs.declared.fault.ToolFault.{ToolFault}
use Rattle.dvg_io.specs.declared.fault.ToolFault.TheVariants.{Reader, Writer}
use Rattle.dvg_io.specs.declared.watched.Watched.{Watched}
use Rattle.dvg_io.proofs.Inputs.{Read}

pub same_err : {T : Type 0} (fault other : ToolFault) → IsErrOf {T = T} (Err fault) other → fault ≡ other
same_err fault other is = cc

not_reader : (stop : Unread) → called stop ≡ Reader → ⊥
not_reader (unread.Text fault) is = cc
not_reader unread.Memory is = cc

not_writer : (stop : Unread) → called stop ≡ Writer → ⊥
not_writer (unread.Text fault) is = cc
not_writer unread.Memory is = cc

module _ {F : Type 0} (most : ℕ) (Finds : List ℕ → F → Type 0) (HasFault : List ℕ → TextFault → Type 0) (text : F → List ℕ) where
  -- so nothing is found in what was read
  abbrev pub IsUnfound : (read : List ℕ) → Unread → Type 0
  IsUnfound read stop = OfInput most read (λ input. IsFinding {F = F} (Finds input) (HasFault input) (Err stop))

  -- what is answered then
  answers : (stop : Unread) (known old : Option (List ℕ)) (read : List ℕ) → Read most known read → IsUnfound read stop
      → IfSome known (λ input. Answers Finds HasFault text (Err (called stop)) input old old)
  answers stop None old read e h = tt
  answers (unread.Text fault) (Some input) old read e h = h input e
  answers unread.Memory (Some input) old read e h = tt

  module _ {R W : Type 0} (remaining : R → Option (List ℕ)) (contents : W → Option (List ℕ)) where
    serves : (stop : Unread) (read : List ℕ) (old_reader new_reader : Watched R) (writer : Watched W)
        → Read most (remaining (stream_of old_reader)) read
        → TakesAtMost (most + 1) (remaining (stream_of old_reader)) (remaining (stream_of new_reader))
        → failures_of new_reader ≡ 0 → failures_of writer ≡ 0 → IsUnfound read stop
        → Serves {V = F} remaining contents most ComesBeforeText (Answers Finds HasFault text) (Err (called stop)) old_reader new_reader writer writer
    serves stop read old_reader new_reader writer e took reader writes h = record {
      means = answers stop (remaining (stream_of old_reader)) (contents (stream_of writer)) read e h;
      took = took;
      unwritten = λ early. refl;
      reader = (λ is. absurd (not_reader stop (same_err {T = F} (called stop) Reader is)), λ one. absurd (omega arith));
      writer = (λ is. absurd (not_writer stop (same_err {T = F} (called stop) Writer is)), λ one. absurd (omega arith));
      stops = (omega arith, omega arith);
    }

    pub unfound : (answer : Result F ToolFault) (stop : Unread) (read : List ℕ) (old_reader new_reader : Watched R) (writer : Watched W)
        → answer ≡ Err (called stop) → Read most (remaining (stream_of old_reader)) read
        → TakesAtMost (most + 1) (remaining (stream_of old_reader)) (remaining (stream_of new_reader))
        → failures_of new_reader ≡ 0 → failures_of writer ≡ 0 → IsUnfound read stop
        → Serves remaining contents most ComesBeforeText (Answers Finds HasFault text) answer old_reader new_reader writer writer
    unfound answer stop read old_reader new_reader writer is e took reader writes h =
        subst (λ answer. Serves remaining contents most ComesBeforeText (Answers Finds HasFault text) answer old_reader new_reader writer writer) (sym is)
        (serves stop read old_reader new_reader writer e took reader writes h)
