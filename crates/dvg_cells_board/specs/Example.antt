-- An example: a board that draws a frame.
use Rattle.std.specs.Prelude.{ℕ, List, [], ◌∷◌, slice_index, replicate}
use Rattle.dvg_gen.specs.declared.stroke.Stroke.{Stroke}
use Rattle.dvg_log.specs.declared.event.Event.TheVariants.{Fetch}
use Rattle.dvg_log.specs.declared.entry.Entry.TheVariants.{Done}
use Rattle.dvg_log.specs.Log.{◌⟼◌, Log}
use Rattle.dvg_cells_board.specs.Board.{Bus}
use Rattle.dvg_cells_board.specs.Logs.{IsBoard, FitsScript}

-- a ROM, and a first content of the RAM
abbrev pub zeros : List ℕ
zeros = replicate 2048 0

-- the stroke of `labs 512 400 0`, `vctr 9 -100 100 7`
abbrev pub stroke : Stroke
stroke = record { x0 = 262144; y0 = 204800; x1 = 210944; y1 = 256000; z = 7 }

-- there is a board whose processor keeps the script, and whose newest line is that of a run to HALT, which drew this
abbrev pub SomeBoard : Type 0
SomeBoard = (log : Log) × (clocks : List Bus)
    × IsBoard FitsScript zeros zeros (slice_index zeros) ((Fetch ⟼ Done 0x205 0xB000 (stroke ∷ [])) ∷ log) clocks
