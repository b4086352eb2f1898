-- The line of a log that the board's pins show of a fetch.
use Rattle.std.specs.Prelude.{ℕ, zero, suc, nat_eq, if◌then◌else◌, List, [], ◌∷◌, ◌++◌, Option, Some, None}
use Rattle.dvg_gen.specs.declared.stroke.Stroke.{Stroke}
use Rattle.dvg_gen.specs.declared.taken.GenFault.TheVariants.{StackOver, StackUnder, Hole}
use Rattle.dvg_gen.specs.Bytes.{Met, Waits, Whole, met}
use Rattle.dvg_gen.specs.Told.{Reply, More, Drew, Fails}
use Rattle.dvg_log.specs.Entries.{Shown}
use Rattle.dvg_log.specs.declared.entry.Entry.TheVariants.{Low, Fetched, Done, Broke, Still}
use Rattle.dvg_log.specs.Log.{Log, low_byte}
use Rattle.dvg_cells_core.specs.Refines.{byte_of}
use Rattle.dvg_cells_board.specs.Board.{Board, Bus, pins}
use Rattle.dvg_cells_board.specs.Board as pin
use Rattle.dvg_cells_board.specs.Clocks.{after}

-- the stroke that the pins show, if `stroke` is high
abbrev pub line_of : Board → List Stroke
line_of board =
    if nat_eq (pin.stroke board) 0 then []
    else record { x0 = pin.x0 board; y0 = pin.y0 board; x1 = pin.x board; y1 = pin.y board; z = pin.z board } ∷ []

-- the strokes that the pins showed since the newest reset or start of the core, in their order
abbrev pub drew : (ℕ → ℕ) → List Bus → List Stroke
drew held [] = []
drew held (bus ∷ older) =
    if nat_eq bus.reset 0 then
    if nat_eq (after held older).starting 0 then drew held older ++ line_of (after held (bus ∷ older))
    else []
    else []

-- the answer to a word or a hole that `done` and `fault` tell, where the run drew these strokes
abbrev pub says : (done fault : ℕ) → List Stroke → Reply
says done zero drew = if nat_eq done 0 then More else Drew drew
says done (suc zero) drew = Fails StackOver
says done (suc (suc zero)) drew = Fails StackUnder
says done (suc (suc (suc fault))) drew = Fails Hole

-- the entry of a whole word, or of a hole, at an address, by the answer to it
abbrev pub entry_of : ℕ → Option ℕ → Reply → Shown
entry_of address word (Fails fault) = Broke address fault
entry_of address (Some word) More = Fetched address word
entry_of address (Some word) (Drew strokes) = Done address word strokes
entry_of address None answer = Still

-- the entry of what a fetch met at an address: none where the core is halted; a byte is a low one, or it makes a word
abbrev pub entry_by : (halted address : ℕ) → Met → Reply → Shown
entry_by halted address (Waits byte) answer = if nat_eq halted 1 then Still else Low address byte
entry_by halted address (Whole word) answer = if nat_eq halted 1 then Still else entry_of address word answer

-- the entry of a fetch that is answered in a clock, after these
abbrev pub entry : (ℕ → ℕ) → Log → List Bus → Bus → Shown
entry held log older bus =
    let before = after held older in
    let now = after held (bus ∷ older) in
    entry_by (pin.halted before) (pin.at before) (met (low_byte log) (byte_of (pins before bus)))
    (says (pin.done now) (pin.fault now) (drew held (bus ∷ older)))
