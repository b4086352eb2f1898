-- A board whose processor's accesses are those of the machine code: it keeps the script, so what is proved of boards
-- holds of it.
use Rattle.std.proofs.Common.{◌≡◌, ℕ, ◌+◌, ◌/◌, ◌%◌, Bool, true, false, not, List, [], ◌∷◌, Option, Some, None, refl, sym, ap, ◌∙◌, arith}
use Rattle.std.specs.Prelude.{is_none, nat_eq, nat_le, if◌then◌else◌}
use Rattle.std.proofs.lemmas.Bool.{eqb-true}
use Rattle.dvg_driver.specs.declared.action.Action.{Action}
use Rattle.dvg_driver.specs.declared.action.Action.TheVariants.{Peek, Wrote, Read, Sent, Idle}
use Rattle.dvg_driver.specs.Script.{Did}
use Rattle.dvg_log.specs.Events.{Happening, IsEvent}
use Rattle.dvg_log.specs.declared.event.Event.TheVariants.{Tick, Strobe, Fetch, ResetGen, ResetAll}
use Rattle.dvg_log.specs.Entries.{Shown}
use Rattle.dvg_log.specs.declared.entry.Entry.TheVariants.{Acted, Started, Cleared}
use Rattle.dvg_log.specs.Log.{◌⟼◌, Log, Throughout, ram, life, strobed, open_run}
use Rattle.dvg_log.specs.Legal.{IsLegal, Fits}
use Rattle.dvg_log.specs.Headline.{KeepsHeadline}
use Rattle.dvg_calls_6502.specs.Processor.{Reads, Writes, Access}
use Rattle.dvg_calls_6502.specs.Joined.{IsMade, FitsBoard, IsBoards}
use Rattle.dvg_calls_6502.proofs.BoardLogsLegal.{board_keeps as code_keeps}
use Rattle.dvg_cells_core.specs.Core.{halted}
use Rattle.dvg_calls_6502.specs.Routines.{Shows}
use Rattle.dvg_cells_board.specs.Board.{Bus, takes, q, clock}
use Rattle.dvg_cells_board.specs.Answers.{AnswersNext}
use Rattle.dvg_cells_board.specs.Fetches.{entry}
use Rattle.dvg_cells_board.specs.Clocks.{IsBus, IsServed, after, reads, writes, sends, looks, changes}
use Rattle.dvg_cells_board.specs.Logs.{Driver, did, answered, FitsIf, IsSilent, IsBoard, powers, clocks, tests, acts, FitsScript, HoldsRam}
use Rattle.dvg_cells_board.proofs.System.{pin_is}
use Rattle.dvg_cells_board.proofs.Board as board
use Rattle.dvg_cells_board.proofs.Cores.{cores, core_is}
use Rattle.dvg_cells_board.proofs.Board.{holds}
use Rattle.dvg_cells_board.proofs.AnswersProcessor.{answers_next, third}
pub use Rattle.dvg_calls_6502.proofs.BoardLogsLegal.{made_lives}

-- each line of the processor is an access, or an answer, of the machine code
abbrev pub FitsCode : Driver
FitsCode R image log Tick (Acted action) = IsMade (Did action ∷ life image log)
FitsCode R image log event entry = FitsBoard R image log event entry

-- this holds of each board whose processor runs it
abbrev pub OfEachSystem : (List ℕ → List ℕ → (ℕ → ℕ) → Log → List Bus → Type 0) → Type 0
OfEachSystem P = (R image : List ℕ) (held : ℕ → ℕ) (log : Log) (clocks : List Bus)
    → IsBoard FitsCode R image held log clocks → P R image held log clocks

-- what was done, if something was, shows in this access
abbrev pub ShowsIf : Option Action → Access → Type 0
ShowsIf None access = Unit {0}
ShowsIf (Some action) access = Shows action (access ∷ [])

-- what a clock looks at is a read of what `q` has in the next clock, whatever that is, and what it changes is a write
abbrev pub ShowsNext : (ℕ → ℕ) → Log → List Bus → Type 0
ShowsNext held log older = (bus next : Bus) → IsBus bus
    → ShowsIf (looks (after held older) bus) (Reads bus.a (q (clock (after held older) bus) next))
    × ShowsIf (changes bus) (Writes bus.a bus.d)

-- what a processor that runs the machine code did is the script's
made_if : (R image : List ℕ) (log : Log) (done : Option Action) → FitsIf (FitsCode R image log) done
    → FitsIf (FitsScript R image log) done
made_if R image log None f = tt
made_if R image log (Some action) f = made_lives (Did action ∷ life image log) f

-- lines of a legal log are lines of the machine code's board, where the processor's are made
did_boards : (R image : List ℕ) (log : Log) (done : Option Action) → FitsIf (FitsCode R image log) done
    → IsLegal R image (did done log) → IsBoards R image log → IsBoards R image (did done log)
did_boards R image log None f l boards = boards
did_boards R image log (Some action) f l boards = ((f, l.0.1), tt, boards)

did_before : (R image : List ℕ) (log : Log) (done : Option Action) → IsLegal R image (did done log) → IsLegal R image log
did_before R image log None l = l
did_before R image log (Some action) l = l.2

module _ (R image bytes : List ℕ) (shown : Shown) (log : Log) where
  abbrev line_by : (reset start takes whole : Bool) → Log
  line_by r s p w =
      if r then if s then if p then log else (Fetch ⟼ shown) ∷ log else (Strobe ⟼ Started) ∷ log
      else if w then (ResetAll bytes ⟼ Cleared) ∷ log
      else (ResetGen ⟼ Cleared) ∷ log

  line_boards : (r s p w : Bool) → IsLegal R image (line_by r s p w) → IsBoards R image log → IsBoards R image (line_by r s p w)
  line_boards true true true w l boards = boards
  line_boards true true false w l boards = (l.0, l.1, boards)
  line_boards true false p w l boards = (l.0, l.1, boards)
  line_boards false s p true l boards = (l.0, l.1, boards)
  line_boards false s p false l boards = (l.0, l.1, boards)

  line_before : (r s p w : Bool) → IsLegal R image (line_by r s p w) → IsLegal R image log
  line_before true true true w l = l
  line_before true true false w l = l.2
  line_before true false p w l = l.2
  line_before false s p true l = l.2
  line_before false s p false l = l.2

-- what needs no access
silent_board : (R image : List ℕ) (log : Log) (event : Happening) (shown : Shown) → IsSilent event shown
    → FitsCode R image log event shown → FitsBoard R image log event shown
silent_board R image log Tick (Acted Idle) s f = (f, tt)
silent_board R image log Tick (Acted Peek) s f = absurd s
silent_board R image log Tick (Acted (Wrote a byte)) s f = absurd s
silent_board R image log Tick (Acted (Read flag)) s f = absurd s
silent_board R image log Tick (Acted Sent) s f = absurd s
silent_board R image log event _ s f = f

silent_script : (R image : List ℕ) (log : Log) (event : Happening) (shown : Shown) → Fits R image log event shown
    → FitsScript R image log event shown
silent_script R image log Tick (Acted action) f = f.0
silent_script R image log event _ f = f

-- the log is one of a processor that keeps the script, and one of the machine code's board
record Keeps (R image : List ℕ) (held : ℕ → ℕ) (log : Log) (older : List Bus) : Type 0 where
  script : IsBoard FitsScript R image held log older
  boards : IsBoards R image log

module _ (R image : List ℕ) (held : ℕ → ℕ) (log : Log) (older : List Bus) (k : Keeps R image held log older) where
  one_clock : (bus : Bus) (whole : Bool) → IsBus bus → IsServed R (after held older) bus
      → FitsIf (FitsCode R image log) (looks (after held older) bus)
      → FitsIf (FitsCode R image (answered image held older bus whole log)) (changes bus)
      → Keeps R image held (did (changes bus) (answered image held older bus whole log)) (bus ∷ older)
  one_clock bus whole is served look change =
      let looked = did (looks (after held older) bus) log in
      let now = answered image held older bus whole log in
      let shown = entry held looked older bus in
      let script = clocks bus whole k.script is served (made_if R image log (looks (after held older) bus) look)
      (made_if R image now (changes bus) change) in
      let legal3 : IsLegal R image (did (changes bus) now) = board.legal R image held (did (changes bus) now) (bus ∷ older) script in
      let legal2 : IsLegal R image now = did_before R image now (changes bus) legal3 in
      let legal1 : IsLegal R image looked =
      line_before R image (ram image looked) shown looked (nat_eq bus.reset 0) (nat_eq (after held older).starting 0)
      (nat_eq (takes (after held older) bus) 0) whole legal2 in
      let boards1 = did_boards R image log (looks (after held older) bus) look legal1 k.boards in
      let boards2 : IsBoards R image now =
      line_boards R image (ram image looked) shown looked (nat_eq bus.reset 0) (nat_eq (after held older).starting 0)
      (nat_eq (takes (after held older) bus) 0) whole legal2 boards1 in
      record { script = script; boards = did_boards R image now (changes bus) change legal3 boards2 }

  one_test : (bus : Bus) → strobed log ≡ false → IsBus bus → IsServed R (after held older) bus → sends bus ≡ false
      → Keeps R image held ((ResetAll (ram image (did (changes bus) log)) ⟼ Cleared) ∷ log) (bus ∷ older)
  one_test bus unsent is served quiet =
      let bytes = ram image (did (changes bus) log) in
      let script = tests bus k.script unsent is served quiet in
      let legal : IsLegal R image ((ResetAll bytes ⟼ Cleared) ∷ log) =
      board.legal R image held ((ResetAll bytes ⟼ Cleared) ∷ log) (bus ∷ older) script in
      record { script = script; boards = (legal.0, legal.1, k.boards) }

  one_silent : (event : Happening) (shown : Shown) → IsEvent event → IsSilent event shown → FitsCode R image log event shown
      → Keeps R image held ((event ⟼ shown) ∷ log) older
  one_silent event shown is_event silent f =
      let lines : IsBoards R image ((event ⟼ shown) ∷ log) = (silent_board R image log event shown silent f, is_event, k.boards) in
      let is = (code_keeps R image ((event ⟼ shown) ∷ log) lines).0 in
      record { script = acts k.script is_event silent (silent_script R image log event shown is.0); boards = lines }

keeps : {R image : List ℕ} {held : ℕ → ℕ} {log : Log} {older : List Bus} → IsBoard FitsCode R image held log older
    → Keeps R image held log older
keeps (powers rom is_image same) = record { script = powers rom is_image same; boards = (rom, is_image) }
keeps {R} {image} {held} (clocks {log = log} {older = older} bus whole on is served look change) =
    one_clock R image held log older (keeps on) bus whole is served look change
keeps {R} {image} {held} (tests {log = log} {older = older} bus on unsent is served quiet) =
    one_test R image held log older (keeps on) bus unsent is served quiet
keeps {R} {image} {held} (acts {log = log} {older = older} {event = event} {entry = shown} on is_event silent f) =
    one_silent R image held log older (keeps on) event shown is_event silent f

keeps_script : {R image : List ℕ} {held : ℕ → ℕ} {log : Log} {older : List Bus} → IsBoard FitsCode R image held log older
    → IsBoard FitsScript R image held log older
keeps_script on = (keeps on).script

pub legal : OfEachSystem (λ R image held log older. IsLegal R image log)
legal R image held log older on = board.legal R image held log older (keeps_script on)

pub headline : OfEachSystem (λ R image held log older. Throughout (KeepsHeadline R image) log)
headline R image held log older on = board.keeps_headline R image held log older (keeps_script on)

pub memory : OfEachSystem (λ R image held log older. HoldsRam image held log older)
memory R image held log older on = board.memory R image held log older (keeps_script on)

pub answers : OfEachSystem (λ R image held log older. AnswersNext image held log older)
answers R image held log older on = answers_next R image held log older (keeps_script on)

flag_is : (closed : Bool) → closed ≡ not (nat_le 128 (if closed then 0 else 128))
flag_is true = refl
flag_is false = refl

module _ (bus : Bus) (found : ℕ) (pin : Bool) (flag : reads bus 0x2002 ≡ true → pin ≡ not (nat_le 128 found)) where
  at_is : (a : ℕ) → reads bus a ≡ true → bus.a ≡ a
  at_is a e = eqb-true bus.a a (third (nat_eq bus.access 0) (nat_eq bus.write 0) (nat_eq bus.a a) e).2

  looks_by : (on_flag on_byte : Bool) → reads bus 0x2002 ≡ on_flag → reads bus 0x4001 ≡ on_byte
      → ShowsIf (if on_flag then Some (Read pin) else if on_byte then Some Peek else None) (Reads bus.a found)
  looks_by true on_byte f b = (found, ap (λ a. Reads a found ∷ []) (at_is 0x2002 f), flag f)
  looks_by false true f b = (found, ap (λ a. Reads a found ∷ []) (at_is 0x4001 b))
  looks_by false false f b = tt

  changes_by : (writing sending : Bool) → writes bus ≡ writing → sends bus ≡ sending
      → ShowsIf (if writing then Some (Wrote (bus.a % 0x800) bus.d) else if sending then Some Sent else None)
      (Writes bus.a bus.d)
  changes_by true sending w s =
      let page : bus.a / 0x800 ≡ 8 =
      eqb-true (bus.a / 0x800) 8 (third (nat_eq bus.access 0) (not (nat_eq bus.write 0)) (nat_eq (bus.a / 0x800) 8) w).2 in
      let place : bus.a ≡ 0x4000 + bus.a % 0x800 = omega arith in
      ap (λ a. Writes a bus.d ∷ []) place
  changes_by false true w s = (
    bus.d,
    ap (λ a. Writes a bus.d ∷ [])
        (eqb-true bus.a 0x3000 (third (nat_eq bus.access 0) (not (nat_eq bus.write 0)) (nat_eq bus.a 0x3000) s).2),
  )
  changes_by false false w s = tt

pub shows_next : OfEachSystem (λ R image held log older. ShowsNext held log older)
shows_next R image held log older on bus next is =
    let script = keeps_script on in
    let found = q (clock (after held older) bus) next in
    let pin : nat_eq (halted (after held older).core) 1 ≡ is_none (open_run log) =
    ap (λ c. nat_eq (halted c) 1) (core_is held older) ∙ pin_is R image log (cores held older) (holds script).keeps in
    let flag = λ (e : reads bus 0x2002 ≡ true).
    pin ∙ flag_is (is_none (open_run log))
    ∙ ap (λ n. not (nat_le 128 n)) (sym ((answers_next R image held log older script bus is).flag next e)) in (
      looks_by bus found (nat_eq (halted (after held older).core) 1) flag (reads bus 0x2002) (reads bus 0x4001) refl refl,
      changes_by bus found (nat_eq (halted (after held older).core) 1) flag (writes bus) (sends bus) refl refl,
    )
