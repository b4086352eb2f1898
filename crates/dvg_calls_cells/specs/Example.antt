-- Examples: the driver boots on the cells, and they draw a frame.
use Rattle.std.specs.Prelude.{◌≡◌, List, [], ◌∷◌, map, slice_index}
use Rattle.dvg_calls_6502.specs.Processor.{Reads}
use Rattle.dvg_calls_6502.specs.Calls.{Call, Reset, Tick, Offer, Run}
use Rattle.dvg_calls_6502.specs.Joined.{stroke as frame}
use Rattle.dvg_log.specs.declared.event.Event.TheVariants.{Fetch}
use Rattle.dvg_log.specs.declared.entry.Entry.TheVariants.{Done, Low}
use Rattle.dvg_log.specs.Log.{◌⟼◌, Log}
use Rattle.dvg_cells_board.specs.Board.{Bus}
use Rattle.dvg_cells_board.specs.Example.{zeros}
use Rattle.dvg_calls_board.specs.Machine.{IsMachine, accesses_of}
use Rattle.dvg_calls_board.specs.Example.{stroke}
use Rattle.dvg_cells_cpu.specs.Cpu.{Cpu as Cells}
use Rattle.dvg_calls_cells.specs.Cycles.{StandFor}
use Rattle.dvg_calls_cells.specs.Played.{IsPlayed}

-- cells since power-up that have called dvg_reset and two dvg_tick, of which one read byte 001, and one the flag, which found
-- the generator halted; before the first call the program told the watchdog at 3400
abbrev pub SomePlayed : Type 0
SomePlayed = (look peek reset : Call) × (clocks : List Bus) × (cells : Cells)
    × IsPlayed zeros zeros (slice_index zeros) (look ∷ peek ∷ reset ∷ []) clocks cells
    × (accesses_of look ≡ Reads 0x2002 0 ∷ []) × (accesses_of peek ≡ Reads 0x4001 0 ∷ [])

-- cells since power-up whose calls boot the driver, take a table of a frame, and write, publish and strobe it; the newest lines of
-- their log are those of the run to HALT, which drew its stroke
abbrev pub SomeDrawn : Type 0
SomeDrawn = (calls : List Call) × (clocks shown : List Bus) × (cells : Cells) × (log : Log)
    × IsPlayed zeros zeros (slice_index zeros) calls clocks cells × StandFor (slice_index zeros) clocks shown
    × IsMachine zeros zeros (slice_index zeros) calls
    ((Fetch ⟼ Done 0x205 0xB000 (stroke ∷ [])) ∷ (Fetch ⟼ Low 0x205 0x00) ∷ log) shown
    × (map (λ call. call.routine) calls ≡ Run ∷ Offer frame ∷ Tick ∷ Tick ∷ Reset ∷ [])
