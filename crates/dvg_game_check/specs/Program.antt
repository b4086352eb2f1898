-- What the check says of a program and its notes.
use Rattle.std.specs.Prelude.{◌≡◌, ℕ, ◌+◌, ◌<◌, ◌≤◌, ◌&&◌, Bool, true, false, List, Option}
use Rattle.dvg_game_words.specs.Code.{code}
use Rattle.dvg_game_words.specs.Checker.{Notes, accepts, all_under, boot_most, boots, fine_at, first, interrupts, noted, places}
use Rattle.dvg_game_words.specs.Checker.{stand_at, starts}
use Rattle.dvg_game_words.specs.Machine.{nmi_vector, reset_vector, word_at}
use Rattle.dvg_game_check.specs.declared.note.Note.{Note}
use Rattle.dvg_game_check.specs.declared.program.Refusal.{Refusal}
use Rattle.dvg_game_check.specs.declared.program.Refusal.TheVariants.{Boot, Driver, Start, Nmi, At}
use Rattle.dvg_game_check.specs.Rules.{HasBytes, notes_in}

-- each ROM with these bytes is accepted, with these notes
abbrev pub IsAccepted : (bytes : List ℕ) → List (Option Note) → (start : ℕ) → Type 0
IsAccepted bytes notes start = (rom : ℕ → ℕ) → HasBytes bytes rom → accepts rom start (notes_in notes) ≡ true

-- none is, wherever it starts
abbrev pub IsRefused : (bytes : List ℕ) → List (Option Note) → Type 0
IsRefused bytes notes =
    (rom : ℕ → ℕ) (start : ℕ) → HasBytes bytes rom → accepts rom start (notes_in notes) ≡ false

-- each place is fine
abbrev pub AreFine : (bytes : List ℕ) → List (Option Note) → Type 0
AreFine bytes notes = (rom : ℕ → ℕ) → HasBytes bytes rom
    → all_under places (λ i. fine_at (notes_in notes) rom (first + i) (noted (notes_in notes) (first + i))) ≡ true

-- this one isn't
abbrev pub IsBadAt : (bytes : List ℕ) → List (Option Note) → ℕ → Type 0
IsBadAt bytes notes at =
    (rom : ℕ → ℕ) → HasBytes bytes rom → fine_at (notes_in notes) rom at (noted (notes_in notes) at) ≡ false

-- as boots, not to be unfolded in goals
unfoldable pub way : ℕ → (rom : ℕ → ℕ) → (at start : ℕ) → Bool
way n rom at start = boots n rom at start

-- the reset leads to this start
abbrev pub BootsTo : (bytes : List ℕ) → ℕ → Type 0
BootsTo bytes start = (rom : ℕ → ℕ) → HasBytes bytes rom → way boot_most rom (word_at rom reset_vector) start ≡ true

abbrev pub BootsNowhere : (bytes : List ℕ) → Type 0
BootsNowhere bytes =
    (rom : ℕ → ℕ) (start : ℕ) → HasBytes bytes rom → way boot_most rom (word_at rom reset_vector) start ≡ false

-- as stand_at of the driver's code, not to be unfolded in goals
unfoldable pub has_driver : (rom : ℕ → ℕ) → Bool
has_driver rom = stand_at code rom 0x6800

abbrev pub HasDriver : (bytes : List ℕ) → Type 0
HasDriver bytes = (rom : ℕ → ℕ) → HasBytes bytes rom → has_driver rom ≡ true

-- whatever the notes: none of the ROMs with these bytes is accepted
abbrev pub HasNone : (bytes : List ℕ) → Type 0
HasNone bytes = (rom : ℕ → ℕ) (start : ℕ) (notes : Notes) → HasBytes bytes rom → accepts rom start notes ≡ false

-- what is against a program
abbrev pub IsWhy : (bytes : List ℕ) → List (Option Note) → Refusal → Type 0
IsWhy bytes notes (Boot at) = BootsNowhere bytes
IsWhy bytes notes Driver = (rom : ℕ → ℕ) → HasBytes bytes rom → has_driver rom ≡ false
IsWhy bytes notes Start =
    (start : ℕ) × BootsTo bytes start × (starts (noted (notes_in notes) start) ≡ false)
IsWhy bytes notes Nmi =
    (rom : ℕ → ℕ) → HasBytes bytes rom → interrupts (noted (notes_in notes) (word_at rom nmi_vector)) ≡ false
IsWhy bytes notes (At at) = IsBadAt bytes notes at × (first ≤ at) × (at < first + places)
