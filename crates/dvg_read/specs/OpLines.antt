-- The lines of operations.
use Rattle.std.specs.Prelude.{ℕ, ℤ, ◌<◌, ◌^◌, List, [], ◌∷◌, codes, decimal}
use Rattle.std.specs.Fmt.{signed_decimal}
use Rattle.dvg_code.specs.Ranges.{InRange}
use Rattle.dvg_code.specs.declared.instr.Instr.TheVariants.{Vctr, Svec, Labs}
use Rattle.dvg_frame.specs.declared.op.OpKind.{OpKind}
use Rattle.dvg_frame.specs.declared.op.OpKind.TheVariants.{Draw, CallRom, JumpRom, Call, Jump, Return, Halt}
use Rattle.dvg_read.specs.Texts.{IsHex, parts}

-- the parts of a line that spells an operation
pub data OpParts : OpKind → List (List ℕ) → Type 0 where
  vctr : {scale : ℕ} {dx dy : ℤ} {z : ℕ} → InRange (Vctr scale dx dy z)
      → OpParts (Draw (Vctr scale dx dy z))
      (codes "vctr" ∷ decimal scale ∷ signed_decimal dx ∷ signed_decimal dy ∷ decimal z ∷ [])
  svec : {scale : ℕ} {dx dy : ℤ} {z : ℕ} → InRange (Svec scale dx dy z)
      → OpParts (Draw (Svec scale dx dy z))
      (codes "svec" ∷ decimal scale ∷ signed_decimal dx ∷ signed_decimal dy ∷ decimal z ∷ [])
  labs : {x y scale : ℕ} → InRange (Labs x y scale)
      → OpParts (Draw (Labs x y scale)) (codes "labs" ∷ decimal x ∷ decimal y ∷ decimal scale ∷ [])
  callrom : {a : ℕ} {digits : List ℕ} → IsHex 3 a digits → OpParts (CallRom a) (codes "callrom" ∷ digits ∷ [])
  jumprom : {a : ℕ} {digits : List ℕ} → IsHex 3 a digits → OpParts (JumpRom a) (codes "jumprom" ∷ digits ∷ [])
  call : {n : ℕ} → n < 2 ^ 16 → OpParts (Call n) (codes "call" ∷ decimal n ∷ [])
  jump : {n : ℕ} → n < 2 ^ 16 → OpParts (Jump n) (codes "jump" ∷ decimal n ∷ [])
  return : OpParts Return (codes "return" ∷ [])
  halt : OpParts Halt (codes "halt" ∷ [])

-- the line spells this operation
abbrev pub IsOpLine : OpKind → List ℕ → Type 0
IsOpLine op line = OpParts op (parts line)
