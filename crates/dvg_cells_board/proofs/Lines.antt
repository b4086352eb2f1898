-- What the lines of a clock, up to the core's, leave of the RAM and of the driver's life.
use Rattle.std.proofs.Common.{◌≡◌, ℕ, Bool, true, false, List, [], ◌∷◌, Option, Some, None, refl, ◌∙◌}
use Rattle.std.specs.Prelude.{nat_eq, if◌then◌else◌}
use Rattle.dvg_gen.specs.Bytes.{Met, Waits, Whole, met}
use Rattle.dvg_gen.specs.Told.{Reply, More, Drew, Fails}
use Rattle.dvg_log.specs.declared.event.Event.TheVariants.{Strobe, Fetch, ResetGen, ResetAll}
use Rattle.dvg_log.specs.Entries.{Shown}
use Rattle.dvg_log.specs.declared.entry.Entry.TheVariants.{Started, Low, Still, Cleared}
use Rattle.dvg_log.specs.Log.{◌⟼◌, Log, ram, low_byte, life, strobed}
use Rattle.dvg_cells_core.specs.Core.{halted}
use Rattle.dvg_cells_core.specs.Refines.{byte_of}
use Rattle.dvg_cells_board.specs.Board.{Board, Bus, pins, takes, clock}
use Rattle.dvg_cells_board.specs.Fetches.{drew, entry, entry_by, entry_of, says}
use Rattle.dvg_cells_board.specs.Clocks.{after, looks}
use Rattle.dvg_cells_board.specs.Logs.{did, answered}
use Rattle.dvg_cells_board.proofs.Wires.{looks_ram, entry_ram, core_ram}

module _ (image : List ℕ) where
  of_life : (address : ℕ) (word : Option ℕ) (answer : Reply) (log : Log)
      → life image ((Fetch ⟼ entry_of address word answer) ∷ log) ≡ life image log
  of_life address (Some word) More log = refl
  of_life address (Some word) (Drew lines) log = refl
  of_life address (Some word) (Fails fault) log = refl
  of_life address None More log = refl
  of_life address None (Drew lines) log = refl
  of_life address None (Fails fault) log = refl

  low_life : (b : Bool) (address byte : ℕ) (log : Log)
      → life image ((Fetch ⟼ (if b then Still else Low address byte)) ∷ log) ≡ life image log
  low_life true address byte log = refl
  low_life false address byte log = refl

  word_life : (b : Bool) (address : ℕ) (word : Option ℕ) (answer : Reply) (log : Log)
      → life image ((Fetch ⟼ (if b then Still else entry_of address word answer)) ∷ log) ≡ life image log
  word_life true address word answer log = refl
  word_life false address word answer log = of_life address word answer log

  entry_life : (closed address : ℕ) (m : Met) (answer : Reply) (log : Log)
      → life image ((Fetch ⟼ entry_by closed address m answer) ∷ log) ≡ life image log
  entry_life closed address (Waits byte) answer log = low_life (nat_eq closed 1) address byte log
  entry_life closed address (Whole word) answer log = word_life (nat_eq closed 1) address word answer log

  -- a reset of the whole system begins a life anew
  core_life : (r s p whole : Bool) (bytes : List ℕ) (shown : Shown) (log : Log)
      → life image ((Fetch ⟼ shown) ∷ log) ≡ life image log
      → life image (if r then if s then if p then log else (Fetch ⟼ shown) ∷ log else (Strobe ⟼ Started) ∷ log
      else if whole then (ResetAll bytes ⟼ Cleared) ∷ log else (ResetGen ⟼ Cleared) ∷ log)
      ≡ (if r then life image log else if whole then [] else life image log)
  core_life true true true whole bytes shown log e = refl
  core_life true true false whole bytes shown log e = e
  core_life true false p whole bytes shown log e = refl
  core_life false s p true bytes shown log e = refl
  core_life false s p false bytes shown log e = refl

-- a fetch sends no strobe
of_sent : (address : ℕ) (word : Option ℕ) (answer : Reply) (log : Log)
    → strobed ((Fetch ⟼ entry_of address word answer) ∷ log) ≡ strobed log
of_sent address (Some word) More log = refl
of_sent address (Some word) (Drew lines) log = refl
of_sent address (Some word) (Fails fault) log = refl
of_sent address None More log = refl
of_sent address None (Drew lines) log = refl
of_sent address None (Fails fault) log = refl

low_sent : (b : Bool) (address byte : ℕ) (log : Log)
    → strobed ((Fetch ⟼ (if b then Still else Low address byte)) ∷ log) ≡ strobed log
low_sent true address byte log = refl
low_sent false address byte log = refl

word_sent : (b : Bool) (address : ℕ) (word : Option ℕ) (answer : Reply) (log : Log)
    → strobed ((Fetch ⟼ (if b then Still else entry_of address word answer)) ∷ log) ≡ strobed log
word_sent true address word answer log = refl
word_sent false address word answer log = of_sent address word answer log

entry_sent : (closed address : ℕ) (m : Met) (answer : Reply) (log : Log)
    → strobed ((Fetch ⟼ entry_by closed address m answer) ∷ log) ≡ strobed log
entry_sent closed address (Waits byte) answer log = low_sent (nat_eq closed 1) address byte log
entry_sent closed address (Whole word) answer log = word_sent (nat_eq closed 1) address word answer log

core_sent : (r s p whole : Bool) (bytes : List ℕ) (shown : Shown) (log : Log)
    → strobed ((Fetch ⟼ shown) ∷ log) ≡ strobed log
    → strobed (if r then if s then if p then log else (Fetch ⟼ shown) ∷ log else (Strobe ⟼ Started) ∷ log
    else if whole then (ResetAll bytes ⟼ Cleared) ∷ log else (ResetGen ⟼ Cleared) ∷ log)
    ≡ (if r then strobed log else if whole then false else strobed log)
core_sent true true true whole bytes shown log e = refl
core_sent true true false whole bytes shown log e = e
core_sent true false p whole bytes shown log e = refl
core_sent false s p true bytes shown log e = refl
core_sent false s p false bytes shown log e = refl

module _ (image : List ℕ) (held : ℕ → ℕ) (older : List Bus) (bus : Bus) (whole : Bool) (log : Log) where
  abbrev board : Board
  board = after held older

  abbrev looked : Log
  looked = did (looks board bus) log

  abbrev now : Board
  now = clock board bus

  abbrev answer : Reply
  answer = says now.core.done now.core.fault (drew held (bus ∷ older))

  pub answered_ram : ram image (answered image held older bus whole log) ≡ ram image log
  answered_ram =
      core_ram image (nat_eq bus.reset 0) (nat_eq board.starting 0) (nat_eq (takes board bus) 0) whole
      (entry held looked older bus) looked
      (entry_ram image (halted board.core) board.core.at (met (low_byte looked) (byte_of (pins board bus))) answer looked)
      ∙ looks_ram image board bus log

  pub answered_life : life image (answered image held older bus whole log)
      ≡ (if nat_eq bus.reset 0 then life image looked else if whole then [] else life image looked)
  answered_life =
      core_life image (nat_eq bus.reset 0) (nat_eq board.starting 0) (nat_eq (takes board bus) 0) whole (ram image looked)
      (entry held looked older bus) looked
      (entry_life image (halted board.core) board.core.at (met (low_byte looked) (byte_of (pins board bus))) answer looked)

  pub answered_sent : strobed (answered image held older bus whole log)
      ≡ (if nat_eq bus.reset 0 then strobed looked else if whole then false else strobed looked)
  answered_sent =
      core_sent (nat_eq bus.reset 0) (nat_eq board.starting 0) (nat_eq (takes board bus) 0) whole (ram image looked)
      (entry held looked older bus) looked
      (entry_sent (halted board.core) board.core.at (met (low_byte looked) (byte_of (pins board bus))) answer looked)
