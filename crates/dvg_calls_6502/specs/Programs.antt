-- What a program builds is known in hindsight.
use Rattle.std.specs.Prelude.{◌≡◌, ℕ, ◌+◌, ◌*◌, ◌≤◌, List, [], ◌∷◌, Option, Some}
use Rattle.dvg_code.specs.declared.instr.Instr.TheVariants.{Labs}
use Rattle.dvg_frame.specs.declared.op.OpKind.{OpKind}
use Rattle.dvg_frame.specs.declared.op.OpKind.TheVariants.{Draw}
use Rattle.dvg_frame.specs.Ops.{IsOp, IsDraft}
use Rattle.dvg_calls_6502.specs.Processor.{Cpu}
use Rattle.dvg_calls_6502.specs.Tables.{HasTable, table_of}
use Rattle.dvg_calls_6502.specs.Routines.{put_by, Vector}
use Rattle.dvg_calls_6502.specs.Calls.{Routine, Offer, Open, Puts, Close, Call, IsRoomFor, IsSessionBy, IsSession, UnlessReset}
use Rattle.dvg_calls_6502.specs.Build.{IsPut, IsBuilt}

-- the operation goes to a place
abbrev pub IsLabs : OpKind → Type 0
IsLabs (Draw (Labs x y scale)) = Unit {0}
IsLabs op = ⊥

-- what a call of a program brings that knows of no draft: a table, at A and X; a vector that isn't the first; where there
-- is room, the words of an operation that it may put, at first of a LABS, in range; and it ends no frame of nothing
abbrev pub CallBrings : List ℕ → Routine → Cpu → Option (ℕ × List ℕ) → Type 0
CallBrings R (Offer F) cpu frame = HasTable cpu.mem (cpu.a + 256 * cpu.x) F
CallBrings R (Puts Vector) cpu (Some frame) = 1 ≤ frame.0
CallBrings R (Puts part) cpu (Some frame) = IsRoomFor part cpu frame.0
    → (op : OpKind) × (put_by part cpu ≡ table_of (op ∷ [])) × IsPut R op × IsOp op × (frame.0 ≡ 0 → IsLabs op)
CallBrings R Close cpu (Some frame) = 1 ≤ frame.0
CallBrings R routine cpu frame = Unit {0}

-- the same routine, where dvg_open is of this draft
abbrev pub renamed : Routine → List OpKind → Routine
renamed (Open F) G = Open G
renamed routine G = routine

-- the same calls with these drafts, one for each call
abbrev pub with_drafts : List Call → List (List OpKind) → List Call
with_drafts [] drafts = []
with_drafts (call ∷ calls) [] = call ∷ calls
with_drafts (call ∷ calls) (G ∷ drafts) =
    record call { routine = renamed call.routine G } ∷ with_drafts calls drafts

-- a draft of dvg_open is one that the program may build
abbrev pub BuildsOnly : List ℕ → Routine → Type 0
BuildsOnly R (Open F) = IsDraft F × IsBuilt R F
BuildsOnly R routine = Unit {0}

-- each since the last reset
abbrev pub AreBuilt : List ℕ → List Call → Type 0
AreBuilt R [] = Unit {0}
AreBuilt R (call ∷ calls) = BuildsOnly R call.routine × UnlessReset call.routine (AreBuilt R calls)

-- for each list of calls of such a program there are drafts, one for each frame that it builds, with which they are calls
-- as the other laws speak of them
abbrev pub Hindsight : Type 0
Hindsight = (R : List ℕ) (calls : List Call) → IsSessionBy (CallBrings R) calls
    → (drafts : List (List OpKind)) × IsSession (with_drafts calls drafts) × AreBuilt R (with_drafts calls drafts)
