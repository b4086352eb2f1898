-- What a caller owns, by short names. Only proofs cite this.
use Rattle.std.specs.Prelude.{ℕ, List, Box, Vec}
use Rattle.dvg_gen.specs.declared.stroke.Stroke.{Stroke}
use Rattle.dvg_frame.specs.declared.op.OpKind.{OpKind}
use Rattle.dvg_log.specs.declared.event.Event.{Event}
use Rattle.dvg_log.specs.declared.entry.Entry.{Entry}

-- an event of the code
abbrev pub OwnEvent : Type 0 → Type 0
OwnEvent A = Event (Box (List OpKind) A) (List ℕ)

-- an entry of the code
abbrev pub OwnEntry : Type 0 → Type 0
OwnEntry A = Entry (Vec Stroke A)
