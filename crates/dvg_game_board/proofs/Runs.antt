-- Each run of a game on its board stands somewhere; so its clocks make a log, which keeps the headline.
use Rattle.std.proofs.Common.{◌≡◌, inl, inr, ℕ, ◌<◌, ◌≤◌, Bool, true, false, List, [], ◌∷◌, ◌++◌, refl, sym}
use Rattle.std.proofs.Common.{ap, ◌∙◌, subst, arith}
use Rattle.std.specs.Prelude.{if◌then◌else◌, Option, Some, None}
use Rattle.dvg_log.specs.Log.{Log}
use Rattle.dvg_calls_6502.specs.Processor.{Cpu, Access}
use Rattle.dvg_calls_6502.specs.Amid.{is_code}
use Rattle.dvg_calls_6502.specs.Board.{seen}
use Rattle.dvg_calls_6502.specs.Calls.{Call, bounds, is_table}
use Rattle.dvg_cells_board.specs.Board.{Bus, clock}
use Rattle.dvg_cells_board.specs.Clocks as clocked
use Rattle.dvg_cells_board.specs.Clocks.{IsBus, IsServed}
use Rattle.dvg_cells_board.specs.Logs.{answered}
use Rattle.dvg_calls_board.specs.Hindsight.{IsProgram}
use Rattle.dvg_calls_board.specs.Machine as system
use Rattle.dvg_calls_board.specs.Machine.{IsIdle}
use Rattle.dvg_game_6502.specs.Play
use Rattle.dvg_game_6502.specs.Play.{IsPlay, done, made}
use Rattle.dvg_game_6502.specs.Open.{InRom, IsIn}
use Rattle.dvg_game_6502.proofs.Bearers.{Bearer}
use Rattle.dvg_game_6502.proofs.GameSteps.{game_begins}
use Rattle.dvg_game_6502.proofs.GameSteps as stepping
use Rattle.dvg_game_6502.proofs.NmiSteps as nmis
use Rattle.dvg_game_6502.proofs.Outside.{stage_turns, stage_waits}
use Rattle.dvg_game_6502.proofs.Plays.{Brought, by_bytes, by_content, stage_does, stage_nmi}
use Rattle.dvg_game_6502.proofs.Returns.{covers}
use Rattle.dvg_game_6502.proofs.Stages.{InDriver, IsAccepted, Stage}
use Rattle.dvg_game_board.specs.Cabinet.{IsCabinet, powers, waits, reads, resets, tests, begins, does, nmi, touched}
use Rattle.dvg_game_board.specs.Cabinet.{turns, written, ClocksDrawAlike, AreMade, no_more, one_more}
use Rattle.dvg_game_board.specs.Cabinet as cabinet
use Rattle.dvg_game_board.specs.Keeps.{GameKeepsHeadline, GamesKeep, GamesLeaveBoard, VectorsKeep}
use Rattle.dvg_game_board.proofs.BoardsAfterLooks.{Same, itself, joins, read_elsewhere, same_clock, same_idle, same_makes, same_served}
use Rattle.dvg_game_board.proofs.UnwrittenRam.{ram_stays}
use Rattle.dvg_game_board.proofs.OnBoard.{on_board}
use Rattle.dvg_game_board.proofs.Open.{board_waits}
use Rattle.dvg_game_board.proofs.GameSparesBoard.{quiet}
use Rattle.dvg_game_board.proofs.SharedRam.{Laws}
use Rattle.dvg_game_board.proofs.CallProgress.{Comes, Stand, level, behind, leaves, program_waits, so_far}

-- clocks that make these accesses in one run make them in another one that is alike
record Shown (R : List ℕ) (held : ℕ → ℕ) (log : List Access) (shown newer : List Bus) : Type 0 where
  later : List Bus
  alike : ClocksDrawAlike held newer later
  same : Same (clocked.after held newer) (clocked.after held later)
  taken : AreMade R held log shown later

shows : (R : List ℕ) (held : ℕ → ℕ) {log : List Access} {older newer : List Bus} (shown : List Bus)
    → ClocksDrawAlike held older shown → Same (clocked.after held older) (clocked.after held shown)
    → AreMade R held log older newer → Shown R held log shown newer
shows R held shown alike same no_more = record { later = shown; alike = alike; same = same; taken = no_more }
shows R held shown alike same (one_more {log} {older} {newer} access bus taken is served makes) =
    let on = shows R held shown alike same taken in
    let next = same_clock (clocked.after held newer) (clocked.after held on.later) on.same bus in record {
      later = bus ∷ on.later;
      alike = cabinet.same bus on.alike (next.core, next.ram);
      same = next;
      taken = one_more access bus on.taken is
          (same_served (clocked.after held newer) (clocked.after held on.later) on.same R bus served)
          (same_makes (clocked.after held newer) (clocked.after held on.later) on.same bus access makes);
    }

module _ (R image : List ℕ) (held rom : ℕ → ℕ) (start : ℕ) where
  -- without the board it is a play
  abbrev Plays : Option (Cpu × ℕ) → Type 0
  Plays None = Unit {0}
  Plays (Some at) = (log : List Access) × IsPlay rom start at.0 at.1 log

  plays : {at : Option (Cpu × ℕ)} {clocks : List Bus} → IsCabinet R image held rom start at clocks → Plays at
  plays (waits bus on is served idle) = plays on
  plays (reads bus on is served access write) = plays on
  plays (begins cpu since on is shares) = ([], Play.begins cpu since is)
  plays (does {cpu} flags on go small taken) = let one = plays on in
      (made cpu (done flags cpu) ++ one.0, Play.does flags one.1 go small)
  plays (nmi on late) = let one = plays on in (one.0, Play.nmi one.1 late)
  plays (turns mem on small same) = let one = plays on in (one.0, Play.turns mem one.1 small same)
  plays _ = tt

  -- a machine whose tables are in the ROM
  record Machine (clocks : List Bus) : Type 0 where
    calls : List Call
    log : Log
    on : IsProgram R image held calls log clocks
    tables : (b : ℕ) → (bounds calls).0 ≤ b → b < (bounds calls).1 → InRom b

  -- in a call, as far as the machine has come with it
  so : (clocks : List Bus) (call : Call) (calls : List Call) (n : ℕ) → Comes R image held call calls n clocks
      → ((b : ℕ) → is_table call calls b ≡ true → InRom b) → Machine clocks
  so clocks call calls n comes in_rom = let one = comes call.others (λ k less. refl) in record {
    calls = so_far call n call.others ∷ calls;
    log = one.0;
    on = one.1;
    tables = λ b low high. in_rom b (covers call.routine (so_far call n call.others) (bounds calls) b low high);
  }

module _ (laws : Laws) (R image : List ℕ) (held rom : ℕ → ℕ) (start : ℕ) (game : IsAccepted rom start)
    (brought : Brought R (on_board laws R image held) rom start) where
  abbrev pub B : Bearer R
  B = on_board laws R image held

  -- before the program starts there is a machine without calls
  abbrev pub Stands : Option (Cpu × ℕ) → List Bus → Type 0
  Stands None clocks = (log : Log) × IsProgram R image held [] log clocks
  Stands (Some at) clocks = Stage R B rom start at.0 at.1 clocks

  of_driver : {cpu : Cpu} {clocks : List Bus} → InDriver R B rom start cpu clocks
      → Machine R image held rom start clocks
  of_driver {cpu} {clocks} d = by one.1
    where
      one : (is : IsIn R d.routine d.s d.calls cpu d.mine (λ n. 0)) × Stand R image held is.call d.calls clocks
      one = d.doing (λ n. 0)

      by : Stand R image held one.0.call d.calls clocks → Machine R image held rom start clocks
      by (level comes fresh) = so R image held rom start clocks one.0.call d.calls one.0.call.steps comes one.0.in_rom
      by (behind n rest comes count over same) =
          so R image held rom start clocks one.0.call d.calls n comes one.0.in_rom
      by (leaves n comes count leaving returned kept) =
          so R image held rom start clocks one.0.call d.calls n comes one.0.in_rom

  machine_of : (at : Option (Cpu × ℕ)) {clocks : List Bus} → Stands at clocks → Machine R image held rom start clocks
  machine_of None one = record { calls = []; log = one.0; on = one.1; tables = λ b low high. absurd (omega (arith, high)) }
  machine_of (Some at) (inl g) =
      record { calls = g.calls; log = g.between.0; on = g.between.1; tables = g.tables }
  machine_of (Some at) (inr (inl d)) = of_driver d
  machine_of (Some at) (inr (inr n)) = of_driver n.driver

  -- a clock in which the processor leaves the board alone
  waited : (at : Option (Cpu × ℕ)) (clocks : List Bus) (bus : Bus) → IsBus bus
      → IsServed R (clocked.after held clocks) bus → IsIdle (clocked.after held clocks) bus
      → Stands at clocks → Stands at (bus ∷ clocks)
  waited None clocks bus is served idle one = (
    answered image held clocks bus false one.0,
    program_waits R image held [] clocks bus one.0 one.1 is served idle,
  )
  waited (Some at) clocks bus is served idle one = stage_waits
      (λ calls mem between. (
        answered image held clocks bus false between.0,
        program_waits R image held calls clocks bus between.0 between.1 is served idle,
        λ a few. between.2 a few ∙ sym (ram_stays (clocked.after held clocks) bus a is idle.1),
      ))
      (λ k routine s calls mine doing.
      board_waits doing bus is served idle) one

  -- what is no code of the driver's writes nothing of the board
  pub leaves_board : {cpu : Cpu} {since : ℕ} {clocks : List Bus} (flags : ℕ → ℕ) → Stage R B rom start cpu since clocks
      → is_code cpu.pc ≡ false → written (done flags cpu).log ≡ []
  leaves_board {cpu} {since} {clocks} flags (inl g) out = (quiet cpu g.st flags g.bytes.x g.bytes.y
      (stepping.safe game g).next).none
  leaves_board flags (inr (inl d)) out = absurd (let e = sym out ∙ d.place in cc)
  leaves_board {cpu} {since} {clocks} flags (inr (inr n)) out = (quiet cpu n.st flags n.bytes.x n.bytes.y
      (nmis.safe game n).next).none

  -- so what an instruction does with the board is what the driver's code accesses
  only_made : {cpu : Cpu} {since : ℕ} {clocks : List Bus} (flags : ℕ → ℕ) → Stage R B rom start cpu since clocks
      → touched cpu (done flags cpu) ≡ made cpu (done flags cpu)
  only_made {cpu} {since} {clocks} flags one = by (is_code cpu.pc) refl
    where
      by : (t : Bool) → is_code cpu.pc ≡ t
          → (if t then seen (done flags cpu).log else written (done flags cpu).log)
          ≡ (if t then seen (done flags cpu).log else [])
      by true is = refl
      by false out = leaves_board flags one out

  -- a run stands somewhere, with the clocks that its log is of
  pub record Standing (at : Option (Cpu × ℕ)) (made : List Bus) : Type 0 where
    pub shown : List Bus
    pub alike : ClocksDrawAlike held made shown
    pub same : Same (clocked.after held made) (clocked.after held shown)
    pub stage : Stands at shown

  -- another clock, in both
  module _ {at : Option (Cpu × ℕ)} {older : List Bus} (on : Standing at older) (bus : Bus) where
    also_served : IsServed R (clocked.after held older) bus → IsServed R (clocked.after held on.shown) bus
    also_served served = same_served (clocked.after held older) (clocked.after held on.shown) on.same R bus served

    also_same : Same (clock (clocked.after held older) bus) (clock (clocked.after held on.shown) bus)
    also_same = same_clock (clocked.after held older) (clocked.after held on.shown) on.same bus

    with_clock : {next : Option (Cpu × ℕ)} → Stands next (bus ∷ on.shown) → Standing next (bus ∷ older)
    with_clock stage = record {
      shown = bus ∷ on.shown;
      alike = cabinet.same bus on.alike (also_same.core, also_same.ram);
      same = also_same;
      stage = stage;
    }

  pub standing : {at : Option (Cpu × ℕ)} {clocks : List Bus} → IsCabinet R image held rom start at clocks
      → Standing at clocks
  standing (powers is_rom is_image first) = record {
    shown = [];
    alike = cabinet.none;
    same = itself (clocked.after held []);
    stage = ([], system.powers is_rom is_image first);
  }
  standing (waits {at} {older} bus on is served idle) = let one = standing on in
      with_clock one bus (waited at one.shown bus is (also_served one bus served)
      (same_idle (clocked.after held older) (clocked.after held one.shown) one.same bus idle) one.stage)
  standing (reads {at} {older} bus on is served access write) =
      let one = standing on in
      let board = clocked.after held one.shown in
      let also = also_served one bus served in
      let other = read_elsewhere R board bus access write in
      let read : Bus = record bus { a = other.0 } in
      let after_it = joins (clock (clocked.after held older) bus) (clock board bus) (clock board read)
      (same_clock (clocked.after held older) board one.same bus) other.3 in record {
        shown = read ∷ one.shown;
        alike = cabinet.elsewhere bus other.0 write one.alike (after_it.core, after_it.ram);
        same = after_it;
        stage = waited at one.shown read (record { reset = is.reset; a = other.1 is.a; d = is.d; rom = is.rom })
            (record { big = also.big; rom = also.rom }) other.2 one.stage;
      }
  standing (resets {at} {older} bus on is served idle reset) =
      let one = standing on in
      let before = machine_of at one.stage in
      with_clock one bus (
        answered image held one.shown bus true before.log,
        subst (λ list. IsProgram R image held list (answered image held one.shown bus true before.log) (bus ∷ one.shown))
            (ap (λ (t : Bool). if t then before.calls else []) reset)
            (system.waits bus true before.on is (also_served one bus served)
            (same_idle (clocked.after held older) (clocked.after held one.shown) one.same bus idle)),
      )
  standing (tests {older} bus on is served quiet) = let one = standing on in
      with_clock one bus (_, system.tests bus one.stage.1 is (also_served one bus served) quiet)
  standing (begins {at} {older} cpu since on is shares) =
      let one = standing on in
      let before = machine_of at one.stage in record {
        shown = one.shown;
        alike = one.alike;
        same = one.same;
        stage = inl (game_begins R B rom start cpu since one.shown before.calls (
          before.log,
          before.on,
          λ a few. shares a few ∙ ap (λ (m : ℕ → ℕ). m a) one.same.ram,
        ) before.tables is);
      }
  standing (does {cpu} {since} {older} {newer} flags on go small taken) =
      let one = standing on in
      let next = shows R held one.shown one.alike one.same taken in record {
        shown = next.later;
        alike = next.alike;
        same = next.same;
        stage = stage_does R B game brought one.shown next.later flags
            (plays R image held rom start on).1 go small
            (subst (λ log. AreMade R held log one.shown next.later) (only_made flags one.stage) next.taken) one.stage;
      }
  standing (nmi on late) = let one = standing on in record {
    shown = one.shown;
    alike = one.alike;
    same = one.same;
    stage = stage_nmi R B game one.shown late one.stage;
  }
  standing (turns {cpu} {since} {older} mem on small same) = let one = standing on in record {
    shown = one.shown;
    alike = one.alike;
    same = one.same;
    stage = stage_turns R B rom start cpu since one.shown mem small same one.stage;
  }

  keeps : (at : Option (Cpu × ℕ)) (clocks : List Bus) → IsCabinet R image held rom start at clocks
      → GameKeepsHeadline R image held clocks
  keeps at clocks on =
      let one = standing on in
      let before = machine_of at one.stage in
      let all = laws.hindsight R image held before.calls before.log one.shown before.on in record {
        calls = _;
        log = all.1;
        shown = one.shown;
        alike = one.alike;
        machine = all.2;
        legal = all.3;
        headline = all.4;
      }

pub games_leave_board : Laws → GamesLeaveBoard
games_leave_board laws R image held rom start notes content accepted cpu since clocks on out flags =
    let game : IsAccepted rom start = record { notes = notes; yes = accepted } in
    let brought = by_content R (on_board laws R image held) game content in
    leaves_board laws R image held rom start game brought flags
    (standing laws R image held rom start game brought on).stage out

pub games_keep : Laws → GamesKeep
games_keep laws R image held rom start notes accepted content at clocks on =
    let game : IsAccepted rom start = record { notes = notes; yes = accepted } in
    keeps laws R image held rom start game (by_content R (on_board laws R image held) game content) at clocks on

pub vectors_keep : Laws → VectorsKeep
vectors_keep laws R image held rom start notes accepted offers puts pairs at clocks on =
    let game : IsAccepted rom start = record { notes = notes; yes = accepted } in
    keeps laws R image held rom start game (by_bytes R (on_board laws R image held) game offers puts pairs) at clocks on
