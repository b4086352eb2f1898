-- The lines that the clocks of cycles add to a log, by what the board holds: where the processor leaves it alone, and
-- where it writes.
use Rattle.std.proofs.Common.{◌≡◌, ℕ, suc, ◌<◌, Bool, true, false, List, [], ◌∷◌, ◌++◌, Option, Some, None, refl, sym, ap, ◌∙◌}
use Rattle.std.proofs.Common.{subst, lit<, eqb-true, leb-true}
use Rattle.std.specs.Prelude.{nat_eq, nat_lt, ◌&&◌, if◌then◌else◌, is_none}
use Rattle.dvg_gen.specs.declared.stroke.Stroke.{Stroke}
use Rattle.dvg_gen.specs.Bytes.{met}
use Rattle.dvg_driver.specs.declared.action.Action.{Action}
use Rattle.dvg_log.specs.Log.{Log, ram, low_byte}
use Rattle.dvg_cells_core.specs.Refines.{byte_of}
use Rattle.dvg_calls_6502.specs.Processor.{Writes}
use Rattle.dvg_calls_6502.specs.Calls.{Call, IsSession, is_over}
use Rattle.dvg_calls_6502.proofs.Memory.{both_true}
use Rattle.dvg_cells_board.specs.Board.{Board, Bus, pins, takes, halted, done, fault, clock}
use Rattle.dvg_cells_board.specs.Board as pin
use Rattle.dvg_cells_board.specs.Clocks.{IsBus, IsServed, after, looks, changes}
use Rattle.dvg_cells_board.specs.Fetches.{line_of, drew, says, entry_by, entry}
use Rattle.dvg_cells_board.specs.Logs.{did, core_line, answered}
use Rattle.dvg_cells_board.specs.Example.{zeros}
use Rattle.dvg_cells_board.proofs.Example.{held, served}
use Rattle.dvg_calls_board.specs.Machine as system
use Rattle.dvg_calls_board.specs.Machine.{IsMachine, IsIdle, Makes, accesses_of, calls_after, later}
use Rattle.dvg_calls_cells.specs.Machine.{Machine}
use Rattle.dvg_calls_cells.specs.Cycles.{Two, Turn, acts, idles, AreAlike, same, between, next, ends, buses, first_bus, second_bus, wait_bus}

-- a machine whose clocks stand for these, with this board; and what its core drew since its newest start
pub record Told (list : List Call) (older : List Bus) (board : Board) (drawn : List Stroke) (log : Log) : Type 0 where
  pub shown : List Bus
  pub on : IsMachine zeros zeros held list log shown
  pub alike : AreAlike older shown
  pub is_board : after held shown ≡ board
  pub drew_is : drew held shown ≡ drawn

-- what was drawn, and the log, after a clock
abbrev pub drew_on : Board → Bus → List Stroke → List Stroke
drew_on board bus drawn = if nat_eq board.starting 0 then drawn ++ line_of (clock board bus) else []

abbrev pub line_by : Board → Bus → List Stroke → Log → Log
line_by board bus drawn log =
    core_line 0 board.starting (takes board bus) false []
    (entry_by (halted board) (pin.at board) (met (low_byte log) (byte_of (pins board bus)))
    (says (done (clock board bus)) (fault (clock board bus)) drawn)) log

abbrev pub line_on : Board → Bus → List Stroke → Log → Log
line_on board bus drawn log = line_by board bus (drew_on board bus drawn) log

module _ (shown : List Bus) (board : Board) (bus : Bus) (drawn : List Stroke) (log : Log) (is_board : after held shown ≡ board)
    (drew_is : drew held shown ≡ drawn) (reset : bus.reset ≡ 0) where
  drew_now : drew held (bus ∷ shown) ≡ drew_on (after held shown) bus drawn
  drew_now =
      ap (λ r. if nat_eq r 0 then if nat_eq (after held shown).starting 0 then drew held shown ++ line_of (after held (bus ∷ shown)) else [] else [])
      reset
      ∙ ap (λ d. if nat_eq (after held shown).starting 0 then d ++ line_of (clock (after held shown) bus) else []) drew_is

  drew_later : drew held (bus ∷ shown) ≡ drew_on board bus drawn
  drew_later = drew_now ∙ ap (λ b. drew_on b bus drawn) is_board

  line_is : looks board bus ≡ None → answered zeros held shown bus false log ≡ line_on board bus drawn log
  line_is unlooked =
      let before = after held shown in
      let unlooked_before : looks before bus ≡ None = subst (λ b. looks b bus ≡ None) (sym is_board) unlooked in
      ap (λ (l : Option Action). core_line bus.reset before.starting (takes before bus) false (ram zeros (did l log))
      (entry held (did l log) shown bus) (did l log)) unlooked_before
      ∙ ap (λ r. core_line r before.starting (takes before bus) false (ram zeros log) (entry held log shown bus) log) reset
      ∙ ap (λ d. line_by before bus d log) drew_now ∙ ap (λ b. line_on b bus drawn log) is_board

module _ (list : List Call) (older : List Bus) (board : Board) (drawn : List Stroke) (log : Log) (bus : Bus)
    (told : Told list older board drawn log) (is_bus : IsBus bus) (is_served : IsServed zeros board bus) (reset : bus.reset ≡ 0)
    (unlooked : looks board bus ≡ None) where
  -- the processor leaves the board alone
  told_idle : changes bus ≡ None → Told list (bus ∷ older) (clock board bus) (drew_on board bus drawn) (line_on board bus drawn log)
  told_idle unchanged =
      let same_calls : calls_after bus false list ≡ list = ap (λ r. if nat_eq r 0 then list else list) reset in
      record {
        shown = bus ∷ told.shown;
        on = subst (λ l. IsMachine zeros zeros held list l (bus ∷ told.shown))
            (line_is told.shown board bus drawn log told.is_board told.drew_is reset unlooked)
            (subst (λ c. IsMachine zeros zeros held c (answered zeros held told.shown bus false log) (bus ∷ told.shown)) same_calls
            (system.waits bus false told.on is_bus (subst (λ b. IsServed zeros b bus) (sym told.is_board) is_served)
            (subst (λ b. IsIdle b bus) (sym told.is_board) (unlooked, unchanged))));
        alike = same bus told.alike;
        is_board = ap (λ b. clock b bus) told.is_board;
        drew_is = drew_later told.shown board bus drawn log told.is_board told.drew_is reset;
      }

-- a call writes
pub told_writes : (call : Call) (olds : List Call) (older : List Bus) (board : Board) (drawn : List Stroke) (log : Log) (bus : Bus)
    (a byte : ℕ) → Told (call ∷ olds) older board drawn log → IsBus bus → IsServed zeros board bus → bus.reset ≡ 0
    → looks board bus ≡ None → IsSession (later 1 call ∷ olds) → accesses_of (later 1 call) ≡ Writes a byte ∷ accesses_of call
    → Makes board bus (Writes a byte)
    → Told (later 1 call ∷ olds) (bus ∷ older) (clock board bus) (drew_on board bus drawn) (did (changes bus) (line_on board bus drawn log))
told_writes call olds older board drawn log bus a byte told is_bus is_served reset unlooked session more makes = record {
  shown = bus ∷ told.shown;
  on = subst (λ l. IsMachine zeros zeros held (later 1 call ∷ olds) (did (changes bus) l) (bus ∷ told.shown))
      (line_is told.shown board bus drawn log told.is_board told.drew_is reset unlooked)
      (system.accesses 1 (Writes a byte) bus told.on session more is_bus (subst (λ b. IsServed zeros b bus) (sym told.is_board) is_served)
      (subst (λ b. Makes b bus (Writes a byte)) (sym told.is_board) makes));
  alike = same bus told.alike;
  is_board = ap (λ b. clock b bus) told.is_board;
  drew_is = drew_later told.shown board bus drawn log told.is_board told.drew_is reset;
}

-- a call takes steps without an access, and comes to no answer
pub told_steps : (call : Call) (olds : List Call) (older : List Bus) (board : Board) (drawn : List Stroke) (log : Log) (n : ℕ)
    → Told (call ∷ olds) older board drawn log → is_over call ≡ false → IsSession (later n call ∷ olds)
    → accesses_of (later n call) ≡ accesses_of call → system.told zeros (later n call) log ≡ log
    → Told (later n call ∷ olds) older board drawn log
told_steps call olds older board drawn log n told more session seen same_log = record {
  shown = told.shown;
  on = subst (λ l. IsMachine zeros zeros held (later n call ∷ olds) l told.shown) same_log (system.steps n told.on more session seen);
  alike = told.alike;
  is_board = told.is_board;
  drew_is = told.drew_is;
}

-- what a clock drives, and that the processor looks at nothing and changes nothing
abbrev pub is_driven : Board → Bus → Bool
is_driven board bus = nat_eq bus.reset 0 && (nat_lt bus.a 65536 && (nat_lt bus.d 256 && (nat_lt bus.rom 256 && (nat_eq bus.big 0
    && (nat_lt board.core.at 0x400 && is_none (looks board bus))))))

pub record Driven (board : Board) (bus : Bus) : Type 0 where
  pub is_bus : IsBus bus
  pub is_served : IsServed zeros board bus
  pub reset : bus.reset ≡ 0
  pub unlooked : looks board bus ≡ None

none_of : (o : Option Action) → is_none o ≡ true → o ≡ None
none_of None e = refl
none_of (Some x) e = absurd (cc)

pub driven_of : (board : Board) (bus : Bus) → is_driven board bus ≡ true → Driven board bus
driven_of board bus is =
    let r = both_true (nat_eq bus.reset 0) _ is in
    let a = both_true (nat_lt bus.a 65536) _ r.1 in
    let d = both_true (nat_lt bus.d 256) _ a.1 in
    let rom = both_true (nat_lt bus.rom 256) _ d.1 in
    let big = both_true (nat_eq bus.big 0) _ rom.1 in
    let at = both_true (nat_lt board.core.at 0x400) _ big.1 in
    let reset = eqb-true bus.reset 0 r.0 in
    record {
      is_bus = record {
        reset = subst (λ n. n < 2) (sym reset) (lit< tt);
        a = leb-true (suc bus.a) 65536 a.0;
        d = leb-true (suc bus.d) 256 d.0;
        rom = leb-true (suc bus.rom) 256 rom.0;
      };
      is_served = served board bus (eqb-true bus.big 0 big.0) (leb-true (suc board.core.at) 0x400 at.0);
      reset = reset;
      unlooked = none_of (looks board bus) at.1;
    }

abbrev pub is_idle : Board → Bus → Bool
is_idle board bus = is_driven board bus && is_none (changes bus)

pub told_clock : (list : List Call) (older : List Bus) (board : Board) (drawn : List Stroke) (log : Log) (bus : Bus)
    → Told list older board drawn log → is_idle board bus ≡ true
    → Told list (bus ∷ older) (clock board bus) (drew_on board bus drawn) (line_on board bus drawn log)
told_clock list older board drawn log bus told idle =
    let both = both_true (is_driven board bus) _ idle in
    let d = driven_of board bus both.0 in
    told_idle list older board drawn log bus told d.is_bus d.is_served d.reset d.unlooked (none_of (changes bus) both.1)

-- what was drawn, and the log
pub record Line : Type 0 where
  pub drawn : List Stroke
  pub log : Log

-- after a cycle, and after cycles
abbrev pub after_clock : Board → Bus → Line → Line
after_clock board bus line =
    record { drawn = drew_on board bus line.drawn; log = line_on board bus line.drawn line.log }

abbrev pub after_cycle : Machine → Two → Line → Line
after_cycle machine two line =
    after_clock (between machine two).board (second_bus machine two) (after_clock machine.board (first_bus machine two) line)

abbrev pub lines : List Turn → Machine → Line → Line
lines [] machine line = line
lines (acts two ∷ later) machine line = lines later (next machine (acts two)) (after_cycle machine two line)
lines (idles drive ∷ later) machine line =
    lines later (next machine (idles drive)) (after_clock machine.board (wait_bus machine drive) line)

abbrev pub are_idle : List Turn → Machine → Bool
are_idle [] machine = true
are_idle (acts two ∷ later) machine =
    (is_idle machine.board (first_bus machine two) && is_idle (between machine two).board (second_bus machine two))
    && are_idle later (next machine (acts two))
are_idle (idles drive ∷ later) machine =
    is_idle machine.board (wait_bus machine drive) && are_idle later (next machine (idles drive))

pub told_all : (list : List Turn) (calls : List Call) (older : List Bus) (machine : Machine) (line : Line)
    → Told calls older machine.board line.drawn line.log → are_idle list machine ≡ true
    → Told calls (buses machine list older) (ends machine list).board (lines list machine line).drawn (lines list machine line).log
told_all [] calls older machine line told idle = told
told_all (idles drive ∷ rest) calls older machine line told idle =
    let bus = wait_bus machine drive in
    let both = both_true (is_idle machine.board bus) _ idle in
    told_all rest calls (bus ∷ older) (next machine (idles drive)) (after_clock machine.board bus line)
    (told_clock calls older machine.board line.drawn line.log bus told both.0) both.1
told_all (acts two ∷ rest) calls older machine line told idle =
    let one = first_bus machine two in
    let last = second_bus machine two in
    let both = both_true (is_idle machine.board one && is_idle (between machine two).board last) _ idle in
    let here = both_true (is_idle machine.board one) _ both.0 in
    let first = told_clock calls older machine.board line.drawn line.log one told here.0 in
    let second = told_clock calls (one ∷ older) (between machine two).board (drew_on machine.board one line.drawn)
    (line_on machine.board one line.drawn line.log) last first here.1 in
    told_all rest calls (last ∷ one ∷ older) (next machine (acts two)) (after_cycle machine two line) second both.1
