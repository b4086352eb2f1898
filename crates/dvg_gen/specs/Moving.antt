-- What each instruction of a run did to the beam, also where nothing is seen.
use Rattle.std.specs.Prelude.{◌≡◌, ℕ, zero, suc, ◌+◌, ◌%◌, ◌<◌, ◌≤◌, Bool, true, false, List, [], ◌∷◌, ◌++◌, Option}
use Rattle.std.specs.Prelude.{Some, None}
use Rattle.dvg_code.specs.declared.instr.Instr.{Instr}
use Rattle.dvg_code.specs.declared.instr.Instr.TheVariants.{Vctr, Labs, Svec}
use Rattle.dvg_code.specs.Spelling.{IsFirst}
use Rattle.dvg_gen.specs.declared.beam.Beam.{Beam}
use Rattle.dvg_gen.specs.declared.moving.Move.{Move}
use Rattle.dvg_gen.specs.declared.stroke.Stroke.{Stroke}
use Rattle.dvg_gen.specs.Bytes.{Met, Waits, Whole}
use Rattle.dvg_gen.specs.Completing.{Completes}
use Rattle.dvg_gen.specs.Drawing.{moved}
use Rattle.dvg_gen.specs.Machine.{Machine}
use Rattle.dvg_gen.specs.Run.{Visit, beam_after}
use Rattle.dvg_gen.specs.Told.{Told, Fed, Newest, Leaves}

-- the move from one position of the beam to another, of this intensity, by the instruction at this address, which may
-- be a LABS
abbrev pub going : Beam → Beam → ℕ → Bool → ℕ → Move
going from to z placed address =
    record { x0 = from.x; y0 = from.y; x1 = to.x; y1 = to.y; z = z; placed = placed; address = address }

-- what an instruction at an address did to the beam: a vector moved it, a LABS placed it unseen,
-- and the others did nothing
abbrev pub made : Beam → ℕ → Instr → List Move
made beam address (Vctr scale dx dy z) = going beam (moved beam (Vctr scale dx dy z)) z false address ∷ []
made beam address (Labs x y scale) = going beam (moved beam (Labs x y scale)) 0 true address ∷ []
made beam address (Svec scale dx dy z) = going beam (moved beam (Svec scale dx dy z)) z false address ∷ []
made beam address _ = []

-- the moves of these instructions, in order, from the beam before them
abbrev pub moves : Beam → List Visit → List Move
moves beam [] = []
moves beam (visit ∷ older) = moves beam older ++ made (beam_after beam older) visit.place visit.code

-- a move is seen as a stroke where its intensity is at least 1
abbrev pub seen_by : ℕ → Move → List Stroke
seen_by zero move = []
seen_by (suc z) move = record { x0 = move.x0; y0 = move.y0; x1 = move.x1; y1 = move.y1; z = suc z } ∷ []

-- the strokes that are seen of these moves
abbrev pub seen : List Move → List Stroke
seen [] = []
seen (move ∷ later) = seen_by move.z move ++ seen later

-- a move leads from a position to a position, with four bits of intensity, by an instruction at one of 4,096 addresses
abbrev pub IsMove : Move → Type 0
IsMove move = (move.x0 < 2097152) × (move.y0 < 2097152) × (move.x1 < 2097152) × (move.y1 < 2097152)
    × (move.z ≤ 15) × (move.address < 4096)

-- a fetch after a history that leaves this run adds these moves: a low byte adds none, and a word or a hole those of
-- the run that it leaves
abbrev pub AddsMoves : List Told → Newest → Met → List Move → Type 0
AddsMoves history run (Waits byte) added = added ≡ []
AddsMoves history run (Whole word) added = (later : Newest) → Leaves (Fed word ∷ history) later
    → moves later.first later.visits ≡ moves run.first run.visits ++ added

-- where the instruction of the next word begins: at that word, or one before it where its first word is held
abbrev pub begins_at : Option ℕ → ℕ → ℕ
begins_at None at = at
begins_at (Some first) at = (at + 4095) % 4096

-- the moves of the instruction that a word completes; none of a first word
abbrev pub CompletesMove : Machine → ℕ → List Move → Type 0
CompletesMove machine word added = ((code : Instr) → Completes machine.held word code
    → added ≡ made machine.beam (begins_at machine.held machine.at) code)
    × (machine.held ≡ None → IsFirst word → added ≡ [])
