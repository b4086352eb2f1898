-- What the judge says of a program.
use Rattle.std.specs.Prelude.{ℕ, List, Option}
use Rattle.dvg_game_check.specs.declared.judging.Judged.{Judged}
use Rattle.dvg_game_check.specs.declared.judging.Verdict.{Verdict}
use Rattle.dvg_game_check.specs.declared.judging.Verdict.TheVariants.{Keeps, Unseen, Refused, Unsettled}
use Rattle.dvg_game_check.specs.declared.note.Note.{Note}
use Rattle.dvg_game_check.specs.Brought.{BringsOnly, IsUnseen}
use Rattle.dvg_game_check.specs.Offered.{TablesFine, WordsFine}
use Rattle.dvg_game_check.specs.Program.{HasNone, IsAccepted, IsRefused, IsWhy}

-- it is accepted with some notes, and what it offers and puts is in lists of tables and words that are accepted, too
pub record IsSafe (bytes R : List ℕ) (start : ℕ) : Type 0 where
  pub notes : List (Option Note)
  pub ways : List ℕ
  pub tables : List ℕ
  pub words : List ℕ
  pub accepted : IsAccepted bytes notes start
  pub only : BringsOnly bytes notes ways tables words start
  pub tables_fine : TablesFine R bytes tables
  pub words_fine : WordsFine R words

-- what an answer means, of a program and a vector ROM, with these notes and lists
abbrev pub Says : (bytes R : List ℕ) → List (Option Note) → (ways tables words : List ℕ) → Verdict → Type 0
Says bytes R notes ways tables words (Keeps start) = IsSafe bytes R start
Says bytes R notes ways tables words (Unseen start why) =
    IsAccepted bytes notes start × IsUnseen bytes notes ways tables words start why
Says bytes R notes ways tables words (Refused why) = HasNone bytes × IsWhy bytes notes why
Says bytes R notes ways tables words (Unsettled why) = IsRefused bytes notes × IsWhy bytes notes why

abbrev pub Means : {A : Type 0} → (bytes R : List ℕ) → Judged A → Type 0
Means bytes R judged =
    Says bytes R judged.notes.items judged.ways.items judged.tables.items judged.words.items judged.verdict
