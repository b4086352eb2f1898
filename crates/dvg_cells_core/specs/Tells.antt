-- What the pins that tell of the clock itself tell: the moves of the run, one by one.
use Rattle.std.specs.Prelude.{ℕ, ◌≡◌, ◌<◌, ◌+◌, ◌*◌, ◌/◌, ◌%◌, ◌⊎◌, nat_eq, nat_lt, not, Option, Some, None, pos, ◌*ℤ◌, Bool}
use Rattle.std.specs.Prelude.{true, false, List, [], ◌∷◌, ◌++◌, All}
use Rattle.dvg_code.specs.Fields.{signed}
use Rattle.dvg_gen.specs.declared.counters.Counters.{Counters}
use Rattle.dvg_gen.specs.declared.moving.Move.{Move}
use Rattle.dvg_gen.specs.Counting.{stepped, followed}
use Rattle.dvg_gen.specs.Drawing.{unit}
use Rattle.dvg_gen.specs.Moving.{moves}
use Rattle.dvg_gen.specs.Told.{Newest}
use Rattle.dvg_cells_core.specs.Cells.{bit, part}
use Rattle.dvg_gen.specs.Bytes.{Met, Waits, Whole}
use Rattle.dvg_cells_core.specs.Core.{Core, Pins, clock, vec, labs}
use Rattle.dvg_cells_core.specs.Core as pin
use Rattle.dvg_cells_core.specs.Refines.{ArePins, after, Agrees}

-- all moves of a run so far
abbrev pub moves_of : Newest → List Move
moves_of run = moves run.first run.visits

-- the pins report this move: that of a LABS, after which x and y are at its position, or that of a
-- vector, whose fields step counters as the move does
abbrev pub TellsMove : Bool → Core → Pins → Move → Type 0
TellsMove true core pins move = (vec core pins ≡ 0) × (labs core pins ≡ 1)
    × ((old : Counters) → followed old move
    ≡ record { x = part 9 12 (clock core pins).x; y = part 9 12 (clock core pins).y })
TellsMove false core pins move = (vec core pins ≡ 1) × (labs core pins ≡ 0) × (pin.sum core pins < 16)
    × (pin.dx_sign core pins < 2) × (pin.dy_sign core pins < 2) × (pin.dx core pins < 1024) × (pin.dy core pins < 1024)
    × (pin.vec_z core pins ≡ move.z)
    × ((old : Counters) → followed old move ≡ stepped old
    (signed (pin.dx_sign core pins) (pin.dx core pins) *ℤ pos (unit (pin.sum core pins)))
    (signed (pin.dy_sign core pins) (pin.dy core pins) *ℤ pos (unit (pin.sum core pins))))

-- the pins tell of these moves: of none, or of one
abbrev pub TellsMoves : Core → Pins → List Move → Type 0
TellsMoves core pins [] = (vec core pins ≡ 0) × (labs core pins ≡ 0)
TellsMoves core pins (move ∷ []) = TellsMove move.placed core pins move
TellsMoves core pins (move ∷ (other ∷ more)) = ⊥

-- a whole word ends an instruction, after the first word of it or after none: that of one word, or the second one
abbrev pub ends_by : Option ℕ → ℕ → ℕ
ends_by None word = bit (not (nat_lt (word / 4096) 11))
ends_by (Some first) word = 1

-- it is a JSRL
abbrev pub jsrl_by : Option ℕ → ℕ → ℕ
jsrl_by None word = bit (nat_eq (word / 4096) 12)
jsrl_by (Some first) word = 0

-- the sum of the global scale and a vector's own: two bits and 2 of an SVEC, the opcode of a VCTR's first word
abbrev pub sum_by : Option ℕ → ℕ → ℕ → ℕ
sum_by None word scale = (scale + (2 + 2 * (word / 8 % 2) + word / 2048 % 2)) % 16
sum_by (Some first) word scale = (scale + first / 4096) % 16

-- so the pins tell of what was met, after the first word of an instruction or after none
abbrev pub TellsKind : Option Met → Option ℕ → Core → Pins → Type 0
TellsKind (Some (Whole (Some word))) held core pins = (pin.ends core pins ≡ ends_by held word)
    × (pin.jsrl core pins ≡ jsrl_by held word) × (vec core pins ≡ 1 → pin.sum core pins ≡ sum_by held word core.scale)
TellsKind (Some (Whole None)) held core pins = (pin.ends core pins ≡ 0) × (pin.jsrl core pins ≡ 0)
TellsKind (Some (Waits byte)) held core pins = (pin.ends core pins ≡ 0) × (pin.jsrl core pins ≡ 0)
TellsKind None held core pins = (pin.ends core pins ≡ 0) × (pin.jsrl core pins ≡ 0)

-- in each clock since power-up without a reset or a start, the run gains the moves that `vec` and
-- `labs` report, and `ends`, `jsrl` and a vector's `sum` fit what the clock met
abbrev pub PinsTell : Type 0
PinsTell = (clocks : List Pins) (pins : Pins) → All ArePins (pins ∷ clocks) → pins.reset ≡ 0 → pins.start ≡ 0
    → (older : Agrees clocks) × (newer : Agrees (pins ∷ clocks)) × (added : List Move)
    × (moves_of newer.run ≡ moves_of older.run ++ added) × TellsMoves (after clocks) pins added
    × TellsKind newer.found older.run.held (after clocks) pins

-- in a clock with a reset or a start, `ends`, `jsrl`, `labs` and `vec` are 0
abbrev pub PinsRest : Type 0
PinsRest = (core : Core) (pins : Pins) → (pins.reset ≡ 1) ⊎ (pins.start ≡ 1) → (pin.ends core pins ≡ 0)
    × (pin.jsrl core pins ≡ 0) × (labs core pins ≡ 0) × (vec core pins ≡ 0)
