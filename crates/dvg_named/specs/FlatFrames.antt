-- Frames whose operations stand in one list.
use Rattle.std.specs.Prelude.{◌≡◌, ◌≤◌, ◌-◌, List, All, length, take, drop}
use Rattle.dvg_frame.specs.declared.op.OpKind.{OpKind}
use Rattle.dvg_named.specs.declared.flat_draft.DraftFault.{DraftFault}
use Rattle.dvg_named.specs.declared.flat_draft.DraftFault.TheVariants.{Memory, UnknownName}
use Rattle.dvg_named.specs.declared.joining.FrameSpan.{FrameSpan}
use Rattle.dvg_named.specs.declared.frame_rows.FrameRows as held
use Rattle.dvg_named.specs.FrameValues.{frame_held}
use Rattle.dvg_rows.specs.HeldRows.{rows_of}
use Rattle.dvg_named.specs.Meanings.{Frame, IsFrameOf}
use Rattle.dvg_named.specs.Places.{Laid}
use Rattle.dvg_rows.specs.RowPlaces.{doings}
use Rattle.dvg_rows.specs.RowValues.{name_of}
use Rattle.dvg_named.specs.FirstUnknown.{WantsNone}
use Rattle.dvg_named.specs.Ungiven.{framed}
use Rattle.dvg_frame.specs.declared.draft.TheConstants.{MAX_OPS}

-- a draft can hold what the frame does
abbrev pub HasFewOps : held.FrameRows → Type 0
HasFewOps frame = length (doings (rows_of frame.rows.now)) ≤ MAX_OPS

-- each name that the frame wants is given
abbrev pub KnowsNames : List Laid → held.FrameRows → Type 0
KnowsNames laid frame = WantsNone laid (framed (rows_of frame.rows.now))

-- the frame that stands there in a list of operations
abbrev pub frame_at : List OpKind → FrameSpan → Frame
frame_at ops span = record { name = name_of span.name; draft = take (span.end - span.start) (drop span.start ops) }

-- what the rows of a frame spell stands there
pub record IsSpanOf (laid : List Laid) (ops : List OpKind) (frame : held.FrameRows) (span : FrameSpan) : Type 0 where
  pub from : span.start ≤ span.end
  pub to : span.end ≤ length ops
  pub begin : span.begin ≡ frame.begin
  pub is : IsFrameOf laid (frame_held frame) (frame_at ops span)

-- why their drafts aren't made: a name that one of them wants isn't given, or want of memory
abbrev pub StopsFrames : List Laid → List held.FrameRows → DraftFault → Type 0
StopsFrames laid frames UnknownName = ¬ All (KnowsNames laid) frames
StopsFrames laid frames Memory = Unit {0}
