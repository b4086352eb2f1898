-- What was served, described in an engine's own terms.
use Rattle.std.proofs.Common.{◌≡◌, ℕ, List, Option, None, Some, IfSome, Result, Ok, Err, IsErrOf, ◌⊎◌, ⊎_elim, inl, inr, sym, ap, subst}
use Rattle.dvg_io.specs.Serving.{Meaning, Serves}
use Rattle.dvg_io.specs.Watching.{stream_of}
use Rattle.dvg_io.specs.declared.fault.ToolFault.{ToolFault}
use Rattle.dvg_io.specs.declared.fault.ToolFault.TheVariants.{Reader, Writer, Memory}
use Rattle.dvg_io.specs.declared.watched.Watched.{Watched}
use Rattle.dvg_io.proofs.Unfound.{same_err}

-- what follows of each input follows of the one that a reader tells
each : (P Q : List ℕ → Type 0) (known : Option (List ℕ)) → ((input : List ℕ) → P input → Q input) → IfSome known P → IfSome known Q
each P Q None follows p = tt
each P Q (Some input) follows p = follows input p

not_err : {F : Type 0} (found : F) (fault : ToolFault) → IsErrOf (Ok found) fault → ⊥
not_err found fault is = cc

not_memory : {V : Type 0} → IsErrOf {T = V} (Err Memory) Reader ⊎ IsErrOf {T = V} (Err Memory) Writer → ⊥
not_memory is = ⊎_elim (λ e. cc) (λ e. cc) is

module _ {R W F V : Type 0} (remaining : R → Option (List ℕ)) (contents : W → Option (List ℕ)) (most : ℕ)
    (IsEarly IsEarlier : ToolFault → Type 0) (Means : Meaning F) (Tells : Meaning V)
    (old_reader new_reader : Watched R) (old_writer new_writer : Watched W) where
  abbrev IsServed : Result F ToolFault → Type 0
  IsServed answer = Serves remaining contents most IsEarly Means answer old_reader new_reader old_writer new_writer

  abbrev IsDescribed : Result V ToolFault → Type 0
  IsDescribed answer = Serves remaining contents most IsEarlier Tells answer old_reader new_reader old_writer new_writer

  abbrev Follows : Result F ToolFault → Result V ToolFault → Type 0
  Follows answer described = (input : List ℕ) → Means answer input (contents (stream_of old_writer)) (contents (stream_of new_writer))
      → Tells described input (contents (stream_of old_writer)) (contents (stream_of new_writer))

  -- where it is done
  pub served : (found : F) (value : V) → Follows (Ok found) (Ok value) → IsServed (Ok found) → IsDescribed (Ok value)
  served found value follows s = record {
    means = each _ _ (remaining (stream_of old_reader)) follows s.means;
    took = s.took;
    unwritten = tt;
    reader = (λ is. absurd (not_err value Reader is), λ one. absurd (not_err found Reader (s.reader.1 one)));
    writer = (λ is. absurd (not_err value Writer is), λ one. absurd (not_err found Writer (s.writer.1 one)));
    stops = s.stops;
  }

  -- where it is done, and wants memory all the same
  pub served_wanting : (found : F) → (IsEarlier Memory → ⊥) → Follows (Ok found) (Err Memory) → IsServed (Ok found) → IsDescribed (Err Memory)
  served_wanting found late follows s = record {
    means = each _ _ (remaining (stream_of old_reader)) follows s.means;
    took = s.took;
    unwritten = λ early. absurd (late early);
    reader = (λ is. absurd (not_memory (inl is)), λ one. absurd (not_err found Reader (s.reader.1 one)));
    writer = (λ is. absurd (not_memory (inr is)), λ one. absurd (not_err found Writer (s.writer.1 one)));
    stops = s.stops;
  }

  described_fault : (fault : ToolFault) → (IsEarlier fault → IsEarly fault) → Follows (Err fault) (Err fault) → IsServed (Err fault) → IsDescribed (Err fault)
  described_fault fault early follows s = record {
    means = each _ _ (remaining (stream_of old_reader)) follows s.means;
    took = s.took;
    unwritten = λ is. s.unwritten (early is);
    reader = (λ is. s.reader.0 (ap Err (same_err {T = V} fault Reader is)), λ one. ap Err (same_err {T = F} fault Reader (s.reader.1 one)));
    writer = (λ is. s.writer.0 (ap Err (same_err {T = V} fault Writer is)), λ one. ap Err (same_err {T = F} fault Writer (s.writer.1 one)));
    stops = s.stops;
  }

  -- where it stops
  pub unserved : (answer : Result V ToolFault) (fault : ToolFault) → answer ≡ Err fault → (IsEarlier fault → IsEarly fault)
      → Follows (Err fault) (Err fault) → IsServed (Err fault) → IsDescribed answer
  unserved answer fault is early follows s = subst IsDescribed (sym is) (described_fault fault early follows s)
