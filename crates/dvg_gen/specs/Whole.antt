-- All instructions that a history completed.
use Rattle.std.specs.Prelude.{ℕ, List, [], ◌∷◌, ◌++◌, Option, Some, None}
use Rattle.dvg_gen.specs.Run.{Visit, Adds}
use Rattle.dvg_gen.specs.Told.{Told, Start, Reset, Fed, Newest, Leaves}

-- the whole instructions of a history, newest first, whatever run they stand in
pub data Completed : List Told → List Visit → Type 0 where
  new : Completed [] []
  starts : {history : List Told} {all : List Visit} → Completed history all → Completed (Start ∷ history) all
  resets : {history : List Told} {all : List Visit} → Completed history all → Completed (Reset ∷ history) all
  meets_hole : {history : List Told} {all : List Visit} → Completed history all → Completed (Fed None ∷ history) all
  takes : {history : List Told} {all : List Visit} {run : Newest} {word : ℕ} {held : Option ℕ} (added : List Visit)
      → Completed history all → Leaves history run
      → Adds run.visits run.held word (added ++ run.visits) held → Completed (Fed (Some word) ∷ history) (added ++ all)
