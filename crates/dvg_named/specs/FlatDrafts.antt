-- The operations of frames in one list.
use Rattle.std.specs.Prelude.{◌≡◌, List, ◌++◌}
use Rattle.dvg_frame.specs.declared.op.OpKind.{OpKind}
use Rattle.dvg_named.specs.declared.flat_draft.DraftFault.{DraftFault}
use Rattle.dvg_named.specs.declared.flat_draft.DraftFault.TheVariants.{Memory, UnknownName}
use Rattle.dvg_named.specs.declared.laid.LaidRows as held_laid
use Rattle.dvg_rows.specs.declared.row.Row as held
use Rattle.dvg_rows.specs.HeldRows.{rows_of}
use Rattle.dvg_named.specs.FirstUnknown.{WantsNone}
use Rattle.dvg_named.specs.Places.{Laid}
use Rattle.dvg_named.specs.Ungiven.{Drafts, framed}

-- the draft of a frame stands after what was there
pub record PushesDraft (laid : List held_laid.LaidRows) (rows : List held.Row) (old new : List OpKind) : Type 0 where
  pub draft : List OpKind
  pub drafts : Drafts laid rows draft
  pub pushed : new ≡ old ++ draft

-- why it doesn't: a name that a row wants isn't given, or want of memory
abbrev pub StopsDraft : List Laid → List held.Row → DraftFault → Type 0
StopsDraft laid rows UnknownName = ¬ WantsNone laid (framed (rows_of rows))
StopsDraft laid rows Memory = Unit {0}
