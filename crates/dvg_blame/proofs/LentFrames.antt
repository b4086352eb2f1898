-- The frames of a sketch that was read are as they are to be lent.
use Rattle.std.proofs.Common.{◌≡◌, ◌≤◌, ◌∙◌, ℕ, List, [], ◌∷◌, All, arith, length, map, sym}
use Rattle.std.specs.List.{AllZip}
use Rattle.std.proofs.lemmas.List.Elements.{All-cons, All-head, All-nil, All-tail}
use Rattle.std.proofs.lemmas.Slice.Zip.{AllZip-long}
use Rattle.dvg_named.specs.declared.meaning.NamedFrame.{NamedFrame}
use Rattle.dvg_named.specs.declared.meaning.RomName.{RomName}
use Rattle.dvg_named.specs.Meanings.{IsFrameOf}
use Rattle.dvg_named.specs.OpSources.{IsDoneAt}
use Rattle.dvg_named.specs.Places.{Laid}
use Rattle.dvg_rows.specs.RowPlaces.{doings}
use Rattle.dvg_named.specs.ReadSketches.{IsSketchOf, StandsIn, as_frame, lent_of}
use Rattle.dvg_named.specs.Sections.{FrameRows}
use Rattle.dvg_blame.specs.Refusals.{IsLent}

-- a frame of a sketch is as it is to be lent
lent_frames : (small : List ℕ) (laid : List Laid) (rows : List FrameRows) (frames : List NamedFrame)
    → All (λ frame. length (doings frame.rows) ≤ 511) rows
    → AllZip (IsFrameOf laid) rows (map as_frame (map lent_of frames)) → AllZip (StandsIn small) rows (map lent_of frames)
    → All IsLent frames
lent_frames small laid [] [] few drafted lines = All-nil IsLent
lent_frames small laid [] (frame ∷ frames) few drafted lines = absurd lines
lent_frames small laid (one ∷ rows) [] few drafted lines = absurd lines
lent_frames small laid (one ∷ rows) (frame ∷ frames) few drafted lines =
    let most : length (doings one.rows) ≤ 511 = All-head (λ (frame : FrameRows). length (doings frame.rows) ≤ 511) one rows few in
    let ops = AllZip-long _ (doings one.rows) frame.ops.now drafted.0.draft in
    let sources = AllZip-long (IsDoneAt small) (doings one.rows) frame.sources.now lines.0.does in
    All-cons IsLent frame frames (record { few = omega (arith, most, ops); lines = sources ∙ sym ops })
    (lent_frames small laid rows frames (All-tail (λ (frame : FrameRows). length (doings frame.rows) ≤ 511) one rows few)
    drafted.1 lines.1)

pub all_lent : (text R : List ℕ) (names : List RomName) (frames : List NamedFrame) → IsSketchOf text R names (map lent_of frames)
    → All IsLent frames
all_lent text R names frames is =
    lent_frames _ _ _ frames is.denotes.limits.drafts is.denotes.meant.frames is.lines
