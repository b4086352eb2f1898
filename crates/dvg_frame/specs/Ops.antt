-- The operations of a draft.
use Rattle.std.specs.Prelude.{◌≡◌, ◌≤◌, List, All, length}
use Rattle.dvg_code.specs.Acts.{Moves, act_of}
use Rattle.dvg_code.specs.Ranges.{InRange}
use Rattle.dvg_frame.specs.declared.op.OpKind.{OpKind}
use Rattle.dvg_frame.specs.declared.op.OpKind.TheVariants.{Draw, CallRom, JumpRom}
use Rattle.dvg_frame.specs.declared.draft.TheConstants.{MAX_OPS}

-- an operation that a draft may hold: it draws by a vector or a LABS in range, or its ROM address has 12 bits
abbrev pub IsOp : OpKind → Type 0
IsOp (Draw instr) = InRange instr × (act_of instr ≡ Moves instr)
IsOp (CallRom a) = a ≤ 0xFFF
IsOp (JumpRom a) = a ≤ 0xFFF
IsOp _ = Unit {0}

-- what a draft can hold
pub record IsDraft (F : List OpKind) : Type 0 where
  pub count : length F ≤ MAX_OPS
  pub ops : All IsOp F
