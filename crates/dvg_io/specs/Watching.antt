-- Readers and writers whose failures are counted, and what goes through them.
use Rattle.std.specs.Prelude.{◌≡◌, ℕ, ◌+◌, ◌-◌, ◌^◌, ◌≤◌, min, List, length, ◌++◌, Option, Result, MatchResult}
use Rattle.std.specs.Io.KnownBytes.{Appends, Consumes}
use Rattle.dvg_io.specs.declared.watched.Watched.{Watched}

-- the reader or writer that is watched
abbrev pub stream_of : {T : Type 0} → Watched T → T
stream_of watched = watched.stream

-- the number of its failures so far
abbrev pub failures_of : {T : Type 0} → Watched T → ℕ
failures_of watched = watched.failures

-- one more failure, unless the count is at its greatest value
abbrev pub one_more : ℕ → ℕ
one_more count = min (count + 1) (2 ^ 32 - 1)

-- an error is one failure, and nothing else is
abbrev pub CountsErrors : {V E : Type 0} → Result V E → ℕ → ℕ → Type 0
CountsErrors answer old new = MatchResult answer (λ _. new ≡ old) (λ _. new ≡ one_more old)

-- some bytes were taken from the front of those that a reader is known to have left: at most this
-- many of them
abbrev pub TakesAtMost : ℕ → Option (List ℕ) → Option (List ℕ) → Type 0
TakesAtMost most old new = (taken : List ℕ) × (length taken ≤ most) × Consumes old new taken

-- a beginning of the text went out
pub record BeginsToWrite (text : List ℕ) (old new : Option (List ℕ)) : Type 0 where
  pub front : List ℕ
  pub rest : List ℕ
  pub parts : text ≡ front ++ rest
  pub wrote : Appends old new front

-- the text went out but for this end of it
pub record Went (text left : List ℕ) (old new : Option (List ℕ)) : Type 0 where
  pub front : List ℕ
  pub parts : text ≡ front ++ left
  pub wrote : Appends old new front

-- the text went out, or a beginning of it with one more failure
abbrev pub Writes : {W V E : Type 0} → (contents : W → Option (List ℕ)) → (text : List ℕ)
    → Result V E → (old new : Watched W) → Type 0
Writes contents text answer old new = MatchResult answer
    (λ _. Appends (contents (stream_of old)) (contents (stream_of new)) text
    × (failures_of new ≡ failures_of old))
    (λ _. BeginsToWrite text (contents (stream_of old)) (contents (stream_of new))
    × (failures_of new ≡ one_more (failures_of old)))
