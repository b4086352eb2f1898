-- The first picture of the cells: the driver boots and takes a table, and dvg_run writes and publishes its frame and sends a
-- strobe; the core draws it while the program idles. The prover runs the cells, cycle by cycle.
use Rattle.std.proofs.Common.{◌≡◌, ℕ, Bool, true, false, List, [], ◌∷◌, drop, refl, sym, ◌∙◌, lit<}
use Rattle.std.specs.Prelude.{if◌then◌else◌}
use Rattle.dvg_driver.specs.declared.action.Action.TheVariants.{Peek, Read}
use Rattle.dvg_log.specs.declared.event.Event.TheVariants.{Offer, Tick}
use Rattle.dvg_log.specs.declared.entry.Entry.TheVariants.{Offered, Acted}
use Rattle.dvg_log.specs.Log.{◌⟼◌, Log}
use Rattle.dvg_calls_6502.specs.Processor.{Cpu, run}
use Rattle.dvg_calls_6502.specs.Amid.{guards, is_kept}
use Rattle.dvg_calls_6502.specs.Calls as calls
use Rattle.dvg_calls_6502.specs.Calls.{IsSession, is_table, is_over}
use Rattle.dvg_calls_6502.specs.Joined.{stroke}
use Rattle.dvg_calls_6502.proofs.Interrupted.{still_harmless}
use Rattle.dvg_calls_6502.proofs.UninterruptedCalls.{quiet}
use Rattle.dvg_calls_6502.proofs.ExampleWorld.{start, start_loaded}
use Rattle.dvg_calls_6502.proofs.Example.{some_logs, has_table}
use Rattle.dvg_calls_6502.proofs.BoardLogsLegal.{board_keeps as code_keeps}
use Rattle.dvg_cells_board.specs.Board.{powered}
use Rattle.dvg_cells_board.specs.Fetches.{drew}
use Rattle.dvg_cells_board.specs.Example.{zeros}
use Rattle.dvg_cells_board.proofs.Example.{held}
use Rattle.dvg_calls_board.proofs.Example.{shares}
use Rattle.dvg_calls_board.specs.Machine.{IsChecked, told}
use Rattle.dvg_cells_cpu.specs.Cpu as cpu
use Rattle.dvg_calls_cells.specs.Machine.{Machine}
use Rattle.dvg_calls_cells.specs.Cycles.{begins, ends, buses}
use Rattle.dvg_calls_cells.specs.Played.{CellsKeep, CallsKeepHeadline, powers, begins_call}
use Rattle.dvg_calls_cells.specs.Example.{SomeDrawn}
use Rattle.dvg_calls_cells.proofs.ExampleCalls.{is_rom, is_image, held_bytes}
use Rattle.dvg_calls_cells.proofs.CellsFollowCpu.{Ready, Alone, enters_by, plays_alone, twos, lives, ready, goes_by, calls_so, rests_of}
use Rattle.dvg_calls_cells.proofs.Lines.{Line}
use Rattle.dvg_calls_cells.proofs.LogOfCells.{Followed, written_line, told_write, tells}
use Rattle.dvg_calls_cells.proofs.CellsFollowCpu.{two_of, Amid, from, session, up_to, further}

-- the reset's vector, and JSR 6800
abbrev pub boots : List ℕ
boots = 0x00 ∷ 0x70 ∷ 0x20 ∷ 0x00 ∷ 0x68 ∷ 0x00 ∷ 0x00 ∷ []

abbrev pub booted_by : Machine
booted_by = ends (begins cpu.zeros (powered held)) (twos boots)

pub booted : Alone [] (buses (begins cpu.zeros (powered held)) (twos boots) []) booted_by.cpu booted_by.board
booted = plays_alone boots [] [] cpu.zeros (powered held)
    (record { on = powers is_rom is_image (λ a few. refl) held_bytes; is_board = refl }) refl

abbrev pub reset_from : Cpu
reset_from = enters_by calls.Reset 0 start booted_by.cpu

pub reset_session : (n : ℕ) → IsSession (quiet calls.Reset n reset_from ∷ [])
reset_session n = (
  record { entry = refl; log = refl; loaded = start_loaded; a = lit< tt; x = lit< tt; s = lit< tt },
  tt,
  still_harmless (guards (is_kept (is_table (quiet calls.Reset n reset_from) [])) reset_from.s) reset_from.s n reset_from,
  tt,
)

abbrev pub reset : Ready
reset = ready calls.Reset reset_from [] reset_session refl start_loaded (lives calls.Reset reset_from [] reset_session refl start_loaded 200 (record {
  n = 0;
  cpu = reset_from;
  is = refl;
  older = buses (begins cpu.zeros (powered held)) (twos boots) [];
  cells = booted_by.cpu;
  board = booted_by.board;
  on = begins_call calls.Reset reset_from (λ k. (run reset_from.s k reset_from).mem) booted.on
      (rests_of booted_by.cpu reset_from refl) (reset_session 0) tt shares;
  is_board = booted.is_board;
})) refl

-- RTS, and JSR to a routine
abbrev pub calls_next : (low high : ℕ) → List ℕ
calls_next low high = 0x60 ∷ 0x02 ∷ 0x70 ∷ 0x20 ∷ low ∷ high ∷ 0x00 ∷ 0x00 ∷ []

-- a tick that peeks at byte 001, and one that reads the flag
abbrev pub peeked : Ready
peeked = calls_so calls.Tick 0 (goes_by (calls_next 0x6A 0x68) reset refl) refl tt tt tt (λ P is. is) refl

abbrev pub looked : Ready
looked = calls_so calls.Tick 0 (goes_by (calls_next 0x6A 0x68) peeked refl) refl tt tt tt (λ P is. is) refl

-- an offer of the table at 5000, whose frame the check accepts
pub checked : IsChecked zeros (calls.Offer stroke)
checked = let lines = some_logs zeros zeros is_rom is_image in
    (lines.1, (code_keeps zeros zeros ((Offer stroke ⟼ Offered) ∷ (Tick ⟼ Acted (Read true)) ∷ (Tick ⟼ Acted Peek) ∷ []) lines).0.0.0)

-- RTS, LDA #0, LDX #50, and JSR 68FE
abbrev pub offers : List ℕ
offers = 0x60 ∷ 0x02 ∷ 0x70 ∷ 0xA9 ∷ 0x00 ∷ 0xA2 ∷ 0x50 ∷ 0x20 ∷ 0xFE ∷ 0x68 ∷ 0x00 ∷ 0x00 ∷ []

abbrev pub offered : Ready
offered = calls_so (calls.Offer stroke) 0 (goes_by offers looked refl) refl has_table checked tt (λ P is. is) refl

-- dvg_run begins; it has come to the strobe's instruction, STA 3000, whose cycles these are
abbrev pub begun : Ready
begun = goes_by (calls_next 0x09 0x68) offered refl

abbrev pub run_from : Cpu
run_from = from calls.Run 0 begun

abbrev pub run_session : (n : ℕ) → IsSession (quiet calls.Run n run_from ∷ begun.list)
run_session = session calls.Run 0 begun refl tt tt tt (λ P is. is)

abbrev nearly : Amid calls.Run run_from begun.list
nearly = up_to calls.Run 0 begun refl tt tt tt (λ P is. is) 174

-- what a call of dvg_run comes to is in no log
either_way : (t : Bool) (log : Log) → (if t then log else log) ≡ log
either_way true log = refl
either_way false log = refl

abbrev no_answer : (n : ℕ) (log : Log) → told zeros (quiet calls.Run n run_from) log ≡ log
no_answer n log = either_way (is_over (quiet calls.Run n run_from)) log

module _ (keep : CellsKeep) where
  kept : CallsKeepHeadline zeros zeros held (quiet calls.Run nearly.n run_from ∷ begun.list) nearly.older
  kept = keep zeros zeros held (quiet calls.Run nearly.n run_from ∷ begun.list) nearly.older nearly.cells nearly.on

  abbrev first_line : Line
  first_line = record { drawn = drew held kept.shown; log = kept.log }

  abbrev strobed : Followed calls.Run run_from begun.list run_session refl begun.loaded
  strobed = record {
    at = further calls.Run run_from begun.list run_session refl begun.loaded nearly refl refl refl;
    line = written_line calls.Run run_from begun.list run_session refl begun.loaded nearly first_line
        (record { shown = kept.shown; on = kept.machine; alike = kept.stand.alike; is_board = kept.stand.board ∙ nearly.is_board; drew_is = refl })
        refl refl refl (two_of 0x8D) (two_of 0x00) (two_of 0x30) (two_of 0x00) 0x3000 2;
    told = told_write calls.Run run_from begun.list run_session refl begun.loaded nearly first_line
        (record { shown = kept.shown; on = kept.machine; alike = kept.stand.alike; is_board = kept.stand.board ∙ nearly.is_board; drew_is = refl })
        refl refl refl (two_of 0x8D) (two_of 0x00) (two_of 0x30) (two_of 0x00) 0x3000 2 refl refl refl refl refl;
  }

  -- dvg_run comes to its end, and the core draws
  abbrev ended : Followed calls.Run run_from begun.list run_session refl begun.loaded
  ended = tells calls.Run run_from begun.list run_session refl begun.loaded no_answer 6 strobed

  pub some_drawn : SomeDrawn
  some_drawn = (
    quiet calls.Run ended.at.n run_from ∷ begun.list,
    ended.at.older,
    ended.told.shown,
    ended.at.cells,
    drop 2 ended.line.log,
    ended.at.on,
    record { alike = ended.told.alike; board = ended.told.is_board ∙ sym ended.at.is_board },
    ended.told.on,
    refl,
  )
