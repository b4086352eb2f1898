-- Operations of drafts by plain numbers.
use Rattle.std.specs.Prelude.{◌≡◌, [], ◌∷◌, Option, Some, None}
use Rattle.std.specs.Int.{w16, cast_signed}
use Rattle.dvg_code.specs.declared.instr.Instr.{Instr}
use Rattle.dvg_code.specs.declared.instr.Instr.TheVariants.{Vctr, Labs, Svec}
use Rattle.dvg_frame.specs.declared.op.OpKind.{OpKind}
use Rattle.dvg_frame.specs.declared.op.OpKind.TheVariants.{Draw, Call, Jump, CallRom, JumpRom, Return, Halt}
use Rattle.dvg_frame.specs.Ops.{IsOp}
use Rattle.dvg_device.specs.Lookup.{looked_up}
use Rattle.dvg_device.specs.declared.operation.Operation.{Operation}

-- the fields as those of a vector or a LABS, in range or not; moves are in two's complement
abbrev pub vctr_of : Operation → Instr
vctr_of o = Vctr o.scale (cast_signed w16 o.x) (cast_signed w16 o.y) o.z

abbrev pub svec_of : Operation → Instr
svec_of o = Svec o.scale (cast_signed w16 o.x) (cast_signed w16 o.y) o.z

abbrev pub labs_of : Operation → Instr
labs_of o = Labs o.x o.y o.scale

-- what is done by each kind
abbrev pub named : Operation → Option OpKind
named o = looked_up None o.kind
    ((0, Some (Draw (vctr_of o))) ∷ (1, Some (Draw (svec_of o))) ∷ (2, Some (Draw (labs_of o))) ∷ (3, Some (Call o.x))
    ∷ (4, Some (Jump o.x)) ∷ (5, Some (CallRom o.x)) ∷ (6, Some (JumpRom o.x))
    ∷ (7, Some Return) ∷ (8, Some Halt) ∷ [])

-- the numbers name this operation, and a draft may hold it
abbrev pub Names : Operation → OpKind → Type 0
Names o op = (named o ≡ Some op) × IsOp op
