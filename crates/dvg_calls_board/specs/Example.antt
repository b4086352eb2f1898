-- Examples: machines that draw a frame, which was offered, or built.
use Rattle.std.specs.Prelude.{◌≡◌, ℕ, List, [], ◌∷◌, ◌++◌, map, replicate, slice_index, false}
use Rattle.dvg_frame.specs.declared.op.OpKind.{OpKind}
use Rattle.dvg_gen.specs.declared.stroke.Stroke.{Stroke}
use Rattle.dvg_driver.specs.declared.action.Action.TheVariants.{Read}
use Rattle.dvg_log.specs.declared.event.Event.TheVariants.{Fetch, Tick}
use Rattle.dvg_log.specs.declared.entry.Entry.TheVariants.{Done, Low, Fetched, Acted}
use Rattle.dvg_log.specs.Log.{◌⟼◌, Log}
use Rattle.dvg_calls_6502.specs.Calls.{Call, Routine, Reset, Tick as Ticks, Run, Open, Puts, Close, has_returned}
use Rattle.dvg_calls_6502.specs.Routines.{Labs, Put}
use Rattle.dvg_cells_board.specs.Board.{Bus}
use Rattle.dvg_cells_board.specs.Example.{zeros}
use Rattle.dvg_calls_board.specs.Machine.{IsMachine}

-- a ROM whose bytes are all D0, so each word of it is a return
abbrev pub returns : List ℕ
returns = replicate 2048 0xD0

-- the stroke of `labs 512 512 0`, `vctr 9 100 0 7`
abbrev pub stroke : Stroke
stroke = record { x0 = 262144; y0 = 262144; x1 = 313344; y1 = 262144; z = 7 }

-- over this ROM and a RAM of zeros there is a machine whose newest lines are those of a run to HALT, which drew this, and
-- before them of a read of the flag, which found it running
abbrev pub SomeMachine : Type 0
SomeMachine = (calls : List Call) × (log : Log) × (clocks : List Bus) × IsMachine returns zeros (slice_index zeros) calls
    ((Fetch ⟼ Done 0x205 0xB000 (stroke ∷ [])) ∷ (Fetch ⟼ Low 0x205 0x00) ∷ (Tick ⟼ Acted (Read false)) ∷ log) clocks

-- the stroke of `labs 512 512 0`, `svec 4 1 0 7`
abbrev pub short : Stroke
short = record { x0 = 262144; y0 = 262144; x1 = 266240; y1 = 262144; z = 7 }

-- what is called to build a frame after a boot, and to show it, the newest call first; a tick comes after dvg_open
abbrev pub building : List OpKind → List Routine
building F = Run ∷ Close ∷ Puts Put ∷ Puts Put ∷ Puts Labs ∷ Ticks ∷ Open F ∷ Ticks ∷ Ticks ∷ Reset ∷ []

-- among these calls is a tick of an NMI, which comes before dvg_open of this draft has returned
abbrev pub HasTickAmid : List OpKind → List Call → Type 0
HasTickAmid F calls = (later olds : List Call) × (tick older : Call) × (calls ≡ later ++ tick ∷ older ∷ olds)
    × (tick.routine ≡ Ticks) × (older.routine ≡ Open F) × (has_returned older ≡ false)

-- and there is one whose calls build a frame so; its newest lines are those of a run that calls a shape of the ROM, at
-- 800, and comes to its HALT, and drew this
abbrev pub SomeBuilder : Type 0
SomeBuilder = (F : List OpKind) × (calls : List Call) × (log : Log) × (clocks : List Bus)
    × IsMachine returns zeros (slice_index zeros) calls ((Fetch ⟼ Done 0x205 0xB000 (short ∷ [])) ∷ (Fetch ⟼ Low 0x205 0x00)
    ∷ (Fetch ⟼ Fetched 0x800 0xD0D0) ∷ (Fetch ⟼ Low 0x800 0xD0) ∷ (Fetch ⟼ Fetched 0x204 0xC800) ∷ log) clocks
    × (map (λ call. call.routine) calls ≡ building F) × HasTickAmid F calls
