-- Tables of frames.
use Rattle.std.specs.Prelude.{◌≡◌, ◌≢◌, ℕ, ◌+◌, ◌*◌, ◌<◌, ◌≤◌, false, List, [], ◌∷◌, length, All, slice_index}
use Rattle.dvg_code.specs.declared.instr.Instr.TheVariants.{Labs}
use Rattle.dvg_mem.specs.declared.half.Half.{Half}
use Rattle.dvg_mem.specs.declared.half.Half.TheVariants.{H0, H1}
use Rattle.dvg_mem.specs.Areas.{high}
use Rattle.dvg_frame.specs.declared.op.OpKind.{OpKind}
use Rattle.dvg_frame.specs.declared.op.OpKind.TheVariants.{Draw, CallRom, JumpRom, Call, Jump, Halt}
use Rattle.dvg_frame.specs.Bytes.{bytes}
use Rattle.dvg_frame.specs.Layout.{laid, at}
use Rattle.dvg_frame.specs.Ops.{IsOp, IsDraft}
use Rattle.dvg_frame.specs.Faults.{Accepts}
use Rattle.dvg_calls_6502.specs.Board.{is_hardware}
use Rattle.dvg_calls_6502.specs.Feed.{fed}
pub use Rattle.dvg_game_words.specs.Tables.{table_of, NamesRom}

-- a table can express this operation: what it names of the ROM is at word 400 or above, and what it
-- names of the frame is in half 0
abbrev pub IsExpressible : List OpKind → OpKind → Type 0
IsExpressible F (CallRom a) = 0x400 ≤ a
IsExpressible F (JumpRom a) = 0x400 ≤ a
IsExpressible F (Call j) = at H0 F j ≤ 0x1FF
IsExpressible F (Jump j) = at H0 F j ≤ 0x1FF
IsExpressible F op = Unit {0}

-- it can express each of these operations of a draft
abbrev pub AreExpressible : (F ops : List OpKind) → Type 0
AreExpressible F [] = Unit {0}
AreExpressible F (op ∷ ops) = IsOp op × IsExpressible F op × AreExpressible F ops

-- a draft's table at an address: the number of its words, and then its bytes; none of it is hardware, the zero page
-- or the stack
pub record HasTable (mem : ℕ → ℕ) (t : ℕ) (F : List OpKind) : Type 0 where
  pub fit : AreExpressible F F
  pub some : 1 ≤ length (table_of F)
  pub fits : length (table_of F) ≤ 1022
  pub count : 2 * (mem t + 256 * mem (t + 1)) ≡ length (table_of F)
  pub table : (k : ℕ) → k < length (table_of F) → mem (t + 2 + k) ≡ slice_index (table_of F) k
  pub head : (is_hardware t ≡ false) × (is_hardware (t + 1) ≡ false)
  pub far : (k : ℕ) → k < length (table_of F) → is_hardware (t + 2 + k) ≡ false
  pub low : 0x200 ≤ t
  pub ends : t + 2 + length (table_of F) ≤ 65536

-- what is written for a draft's table is the draft laid for either half
abbrev pub TableLaw : Type 0
TableLaw = (half : Half) (F : List OpKind) → AreExpressible F F
    → fed (high half) false false (table_of F) ≡ bytes (laid half F)

-- an example of a draft that a table can't express: an operation that is never reached calls the ROM below 400
abbrev pub TableMisses : Type 0
TableMisses =
    let F = Draw (Labs 0 0 0) ∷ Halt ∷ CallRom 5 ∷ [] in fed (high H1) false false (table_of F) ≢ bytes (laid H1 F)

-- a table can express each checked draft whose operations name the ROM from 400 on
abbrev pub CheckedExpressible : Type 0
CheckedExpressible = (F : List OpKind) (R : List ℕ) → IsDraft F → Accepts F R → All NamesRom F → AreExpressible F F
