-- The log of a board: the lines of its clocks, in the order in which its RAM is used.
use Rattle.std.specs.Prelude.{◌≡◌, ℕ, ◌<◌, Bool, false, nat_eq, if◌then◌else◌, List, [], ◌∷◌, slice_index, Option, Some, None}
use Rattle.dvg_mem.specs.Memory.{IsImage, IsRom}
use Rattle.dvg_driver.specs.declared.action.Action.{Action}
use Rattle.dvg_driver.specs.declared.action.Action.TheVariants.{Idle}
use Rattle.dvg_driver.specs.Script.{Did, IsLife}
use Rattle.dvg_log.specs.Events.{Happening, IsEvent}
use Rattle.dvg_log.specs.declared.event.Event.TheVariants.{Offer, Redraw, Tick, Strobe, Fetch, ResetGen, ResetCpu}
use Rattle.dvg_log.specs.declared.event.Event.TheVariants.{ResetAll}
use Rattle.dvg_log.specs.Entries.{Shown}
use Rattle.dvg_log.specs.declared.entry.Entry.TheVariants.{Acted, Started, Cleared}
use Rattle.dvg_log.specs.Log.{◌⟼◌, Log, ram, life, strobed}
use Rattle.dvg_log.specs.Legal.{Fits}
use Rattle.dvg_cells_board.specs.Board.{Bus, takes}
use Rattle.dvg_cells_board.specs.Fetches.{entry}
use Rattle.dvg_cells_board.specs.Clocks.{IsBus, after, IsServed, sends, looks, changes}

-- with the line of what the processor did, if it did something
abbrev pub did : Option Action → Log → Log
did None log = log
did (Some action) log = (Tick ⟼ Acted action) ∷ log

-- with the core's line: a reset, which may be one of the whole system over the RAM as it stands, else a start, else the
-- answer to a fetch, if `takes` is high
abbrev pub core_line : (reset start takes : ℕ) → (whole : Bool) → List ℕ → Shown → Log → Log
core_line reset start takes whole bytes shown log =
    if nat_eq reset 0 then
    if nat_eq start 0 then if nat_eq takes 0 then log else (Fetch ⟼ shown) ∷ log
    else (Strobe ⟼ Started) ∷ log
    else if whole then (ResetAll bytes ⟼ Cleared) ∷ log
    else (ResetGen ⟼ Cleared) ∷ log

-- the log of one more clock, up to the core's line: what the processor looks at stands before that
abbrev pub answered : List ℕ → (ℕ → ℕ) → List Bus → Bus → Bool → Log → Log
answered image held older bus whole log =
    let board = after held older in
    let looked = did (looks board bus) log in
    core_line bus.reset board.starting (takes board bus) whole (ram image looked) (entry held looked older bus) looked

-- what is asked of a line of the processor, over a ROM, a first image and the log before it
abbrev pub Driver : Type 1
Driver = List ℕ → List ℕ → Log → Happening → Shown → Type 0

-- the processor did nothing, or its action satisfies `D` as a tick
abbrev pub FitsIf : (Happening → Shown → Type 0) → Option Action → Type 0
FitsIf D None = Unit {0}
FitsIf D (Some action) = D Tick (Acted action)

-- what the processor does without an access: it takes or refuses a frame or a redraw, has nothing to do, or is reset
abbrev pub IsSilent : Happening → Shown → Type 0
IsSilent (Offer F) entry = Unit {0}
IsSilent Redraw entry = Unit {0}
IsSilent ResetCpu entry = Unit {0}
IsSilent Tick (Acted Idle) = Unit {0}
IsSilent event entry = ⊥

-- the log of a board that had these clocks since power-up, and whose RAM held this at first
pub data IsBoard (D : Driver) (R image : List ℕ) (held : ℕ → ℕ) : Log → List Bus → Type 0 where
  powers : IsRom R → IsImage image → ((a : ℕ) → a < 2048 → held a ≡ slice_index image a) → IsBoard D R image held [] []
  -- a clock: what the processor looks at, the core's line, and what the processor changes
  clocks : {log : Log} {older : List Bus} (bus : Bus) (whole : Bool) → IsBoard D R image held log older
      → IsBus bus → IsServed R (after held older) bus → FitsIf (D R image log) (looks (after held older) bus)
      → FitsIf (D R image (answered image held older bus whole log)) (changes bus)
      → IsBoard D R image held (did (changes bus) (answered image held older bus whole log)) (bus ∷ older)
  -- before the first strobe since power-up or a reset of the whole system, a clock in which the processor does anything
  -- but send one: such a reset again, over what the RAM then holds
  tests : {log : Log} {older : List Bus} (bus : Bus) → IsBoard D R image held log older → strobed log ≡ false → IsBus bus
      → IsServed R (after held older) bus → sends bus ≡ false
      → IsBoard D R image held ((ResetAll (ram image (did (changes bus) log)) ⟼ Cleared) ∷ log) (bus ∷ older)
  -- what needs no access
  acts : {log : Log} {older : List Bus} {event : Happening} {entry : Shown} → IsBoard D R image held log older
      → IsEvent event → IsSilent event entry → D R image log event entry
      → IsBoard D R image held ((event ⟼ entry) ∷ log) older

-- a processor that keeps the driver's script: each access is the next one of it, and each answer that of a legal log
abbrev pub FitsScript : Driver
FitsScript R image log Tick (Acted action) = IsLife (Did action ∷ life image log)
FitsScript R image log event entry = Fits R image log event entry

-- this holds of each board whose processor keeps the script: over each ROM and first image, of its log and its clocks
abbrev pub OfEachBoard : (List ℕ → List ℕ → (ℕ → ℕ) → Log → List Bus → Type 0) → Type 0
OfEachBoard P = (R image : List ℕ) (held : ℕ → ℕ) (log : Log) (clocks : List Bus)
    → IsBoard FitsScript R image held log clocks → P R image held log clocks

-- the RAM is what the log says
abbrev pub HoldsRam : List ℕ → (ℕ → ℕ) → Log → List Bus → Type 0
HoldsRam image held log list = (a : ℕ) → a < 2048 → (after held list).ram a ≡ slice_index (ram image log) a
