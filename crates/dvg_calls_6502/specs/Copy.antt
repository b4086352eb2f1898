-- dvg_copy, which puts words from elsewhere in memory.
use Rattle.std.specs.Prelude.{◌≡◌, ℕ, zero, suc, ◌+◌, ◌*◌, ◌%◌, ◌<◌, ◌≤◌, ◌⊎◌, ◌&&◌, ◌||◌, Bool, true, false, not, nat_eq}
use Rattle.std.specs.Prelude.{nat_le, nat_lt}
use Rattle.std.specs.Prelude.{List, [], ◌∷◌, ◌++◌, length}
use Rattle.dvg_mem.specs.declared.half.Half.{Half}
use Rattle.dvg_mem.specs.declared.half.Half.TheVariants.{H0}
use Rattle.dvg_mem.specs.Areas.{base, other}
use Rattle.dvg_driver.specs.Script.{word_zero}
use Rattle.dvg_driver.specs.Place.{Resting, Writing}
use Rattle.dvg_calls_6502.specs.Processor.{Cpu, Access, run, at_return}
use Rattle.dvg_calls_6502.specs.Amid.{AreHarmless, ComesOut, guards, is_kept, is_work}
use Rattle.dvg_calls_6502.specs.Board.{IsLoaded, seen, is_own, is_hardware, phase_in, goal_in}
use Rattle.dvg_calls_6502.specs.Routines.{Enters, Part, begins, put_by}
use Rattle.dvg_calls_6502.specs.Holds.{Holds}
use Rattle.dvg_calls_6502.specs.Code.{dvg_open, dvg_close}
use Rattle.dvg_calls_6502.specs.Whole.{Done, end_of, IsDone}
use Rattle.dvg_calls_6502.specs.Build.{IsBuilding, HasNoRoom, Spares, written}

-- where it begins
abbrev pub dvg_copy : ℕ
dvg_copy = 0x69C0

-- so many bytes of a memory, from an address on
abbrev pub bytes_from : (ℕ → ℕ) → (a count : ℕ) → List ℕ
bytes_from mem a zero = []
bytes_from mem a (suc count) = mem a ∷ bytes_from mem (suc a) count

-- where it copies from, by A and X
abbrev pub source : Cpu → ℕ
source cpu = cpu.a + 256 * cpu.x

-- the bytes that it puts: as many as Y says
abbrev pub copied : Cpu → List ℕ
copied cpu = bytes_from cpu.mem (source cpu) cpu.y

-- its arguments: D is clear; whole words, of memory that is neither hardware nor the driver's and its working bytes
pub record CanCopy (cpu : Cpu) : Type 0 where
  pub clear : cpu.d ≡ false
  pub byte : cpu.y < 256
  pub even : cpu.y % 2 ≡ 0
  pub top : source cpu + cpu.y < 65536
  pub apart : (k : ℕ) → k < cpu.y → (is_own (source cpu + k) || is_work (source cpu + k)) ≡ false
  pub device : (k : ℕ) → k < cpu.y → is_hardware (source cpu + k) ≡ false

-- `length`
abbrev pub is_length : ℕ → Bool
is_length b = nat_eq b 0x20

-- the call returns with C clear and S as it was, it has written the bytes where the frame goes on, and these are left; it
-- spares all else but `length`; the same amid others that leave alone what it copies, too, and what else they leave alone
-- is as without them
pub record Copies (cpu : Cpu) (half : Half) (flipped : Bool) (rest : List ℕ) : Type 0 where
  pub steps : ℕ
  pub returns : at_return cpu.s (run cpu.s steps cpu) ≡ true
  pub carry : (run cpu.s steps cpu).c ≡ false
  pub shows : seen (run cpu.s steps cpu).log ≡ written (goal_in cpu.mem) (copied cpu)
  pub goes_on : goal_in (run cpu.s steps cpu).mem ≡ goal_in cpu.mem + cpu.y
  pub building : IsBuilding (run cpu.s steps cpu).mem half flipped rest
  pub loaded : IsLoaded (run cpu.s steps cpu).mem
  pub kept : Spares is_length cpu.mem (run cpu.s steps cpu).mem
  pub alike : (also : ℕ → Bool) → ((k : ℕ) → k < cpu.y → also (source cpu + k) ≡ true)
      → ComesOut (guards (is_kept also) cpu.s) cpu

-- where a frame is being built, dvg_copy puts these bytes, if there is room for them and the HALT
abbrev pub CopyTakes : Type 0
CopyTakes = (cpu : Cpu) (half : Half) (flipped : Bool) (rest : List ℕ) → Enters cpu dvg_copy → CanCopy cpu
    → IsBuilding cpu.mem half flipped (copied cpu ++ rest) → 2 ≤ length rest → Copies cpu half flipped rest

-- what a call that is refused may change: `length`; and while a frame is being built, which leaves them free, `end` and `from`
abbrev pub is_spoilt : (mem : ℕ → ℕ) → ℕ → Bool
is_spoilt mem b = is_length b || (nat_eq (phase_in mem) 7 && (nat_eq b 0x17 || (nat_eq b 0x19 || nat_eq b 0x1A)))

-- the call returns with C set and S as it was, touches no hardware, and leaves memory as it was, but for these bytes; the
-- same amid others
pub record CopyRefused (cpu : Cpu) : Type 0 where
  pub steps : ℕ
  pub returns : at_return cpu.s (run cpu.s steps cpu) ≡ true
  pub carry : (run cpu.s steps cpu).c ≡ true
  pub shows : seen (run cpu.s steps cpu).log ≡ []
  pub kept : (b : ℕ) → is_spoilt cpu.mem b ≡ false → (run cpu.s steps cpu).mem b ≡ cpu.mem b
  pub loaded : IsLoaded (run cpu.s steps cpu).mem
  pub alike : (also : ℕ → Bool) → ComesOut (guards (is_kept also) cpu.s) cpu

-- where no frame is being built, or there is no room, dvg_copy is refused
abbrev pub CopyRefuses : Type 0
CopyRefuses = (cpu : Cpu) → Enters cpu dvg_copy → cpu.y < 256
    → (nat_eq (phase_in cpu.mem) 7 ≡ false) ⊎ ((cpu.d ≡ false) × (cpu.y % 2 ≡ 0) × HasNoRoom cpu.mem cpu.y) → CopyRefused cpu

-- what puts a part of a frame: a routine of parts, or dvg_copy
pub data Piece : Type 0 where
  Puts : Part → Piece
  Copy : Piece

abbrev pub begins_piece : Piece → ℕ
begins_piece (Puts part) = begins part
begins_piece Copy = dvg_copy

-- the bytes that it puts
abbrev pub put_piece : Piece → Cpu → List ℕ
put_piece (Puts part) cpu = put_by part cpu
put_piece Copy cpu = copied cpu

-- its arguments
abbrev pub CanPut : Piece → Cpu → Type 0
CanPut (Puts part) cpu = Unit {0}
CanPut Copy cpu = CanCopy cpu

-- a byte that it copies
abbrev pub is_source : Piece → Cpu → ℕ → Bool
is_source (Puts part) cpu b = false
is_source Copy cpu b = nat_le (source cpu) b && nat_lt b (source cpu + cpu.y)

-- as IsDone, but who interrupts the call leaves alone what it copies, too
pub record IsPieceDone (piece : Piece) (before : ℕ → ℕ) (call : Done) : Type 0 where
  pub enters : Enters call.from (begins_piece piece)
  pub can : CanPut piece call.from
  pub untouched : (b : ℕ) → is_own b ≡ true → call.from.mem b ≡ before b
  pub alone : AreHarmless (guards (is_kept (is_source piece call.from)) call.from.s) call.from.s call.others call.steps
      call.from
  pub returns : at_return call.from.s (end_of call) ≡ true

-- calls that put pieces, the newest one first
abbrev pub Pieces : Type 0
Pieces = List (Piece × Done)

abbrev pub memory_then : (ℕ → ℕ) → Pieces → ℕ → ℕ
memory_then before [] = before
memory_then before (call ∷ calls) = (end_of call.1).mem

abbrev pub ArePiecesDone : (ℕ → ℕ) → Pieces → Type 0
ArePiecesDone before [] = Unit {0}
ArePiecesDone before (call ∷ calls) =
    IsPieceDone call.0 (memory_then before calls) call.1 × ArePiecesDone before calls

-- the bytes that they put, the first one first
abbrev pub bytes_of : Pieces → List ℕ
bytes_of [] = []
bytes_of (call ∷ calls) = bytes_of calls ++ put_piece call.0 call.1.from

-- what is seen of them, the newest one first
abbrev pub shown_of : Pieces → List Access
shown_of [] = []
shown_of (call ∷ calls) = seen (end_of call.1).log ++ shown_of calls

-- BuildsFrame, where some of the calls may be of dvg_copy
abbrev pub CopiesFrame : Type 0
CopiesFrame = (begin stop : ℕ) (half : Half) (flipped first : Bool) (opening closing : Done) (calls : Pieces)
    → Holds opening.from.mem begin stop (record { place = Resting first; half = half; flipped = flipped })
    → IsDone dvg_open opening.from.mem opening → ArePiecesDone (end_of opening).mem calls
    → IsDone dvg_close (memory_then (end_of opening).mem calls) closing → length (bytes_of calls) ≤ 1020
    → (seen (end_of closing).log ++ (shown_of calls ++ seen (end_of opening).log)
    ≡ written (0x4000 + 2 * base (other half)) (bytes_of calls ++ 0 ∷ 0xB0 ∷ []))
    × ((from to : ℕ) → Holds (end_of closing).mem from to
    (record { place = Writing (word_zero (other half) (not flipped)); half = half; flipped = flipped }))

-- there are such calls: one copies a LABS, four bytes from 5002 on
abbrev pub SomeCopies : Type 0
SomeCopies = (opening closing : Done) × (calls : Pieces)
    × Holds opening.from.mem 0 0 (record { place = Resting true; half = H0; flipped = false })
    × IsDone dvg_open opening.from.mem opening × ArePiecesDone (end_of opening).mem calls
    × IsDone dvg_close (memory_then (end_of opening).mem calls) closing
    × (bytes_of calls ≡ 0x00 ∷ 0xA2 ∷ 0x00 ∷ 0x02 ∷ [])
    × (copy : Done) × (calls ≡ (Copy, copy) ∷ []) × (source copy.from ≡ 0x5002)
