use Rattle.std.proofs.Common.{◌≤◌, All, subst, sym, length, map}
use Rattle.std.specs.List.{AllZip}
use Rattle.dvg_named.specs.FirstUnknown.{WantsNone}
use Rattle.dvg_named.specs.FlatFrames.{HasFewOps, IsSpanOf, KnowsNames, frame_at}
use Rattle.dvg_named.specs.LaidValues.{laid_sections}
use Rattle.dvg_named.specs.Meanings.{IsFrameOf}
use Rattle.dvg_named.specs.OpSources.{AreLinesOf, HasRowLines}
use Rattle.dvg_rows.specs.RowPlaces.{doings}
use Rattle.dvg_named.specs.ReadSketches.{StandsIn, joined_at}
use Rattle.dvg_named.specs.Sections.{FrameRows}
use Rattle.dvg_named.specs.SketchReading.{spelled_in}
use Rattle.dvg_named.specs.Ungiven.{framed}
use Rattle.dvg_named.proofs.FrameLists.{spans_begun, spans_rise}
use Rattle.dvg_named.proofs.KnownFrames.{drafts_stop, frames_are, frames_known, held_frames}
use Rattle.dvg_named.proofs.OpLines.{both_ok, insides, row_lines, stand_in}
use Rattle.dvg_named.proofs.RomFew.{if_ok}
use Rattle.dvg_named.proofs.SketchWhole.{if_err}
use Rattle.dvg_named.proofs.UnknownText.{sections_are}
use Rattle.dvg_named.proofs.reading.Reading.drafts.Goals as goal

pub join_frames-requires-clause-few : goal.join_frames-requires-clause-few
join_frames-requires-clause-few g c =
    let read = c.requires.text.reads in
    subst (All HasFewOps) (sym c.as_slice.ensures.value)
    (held_frames (λ (f : FrameRows). length (doings f.rows) ≤ 511) c.in-Ok.found.items
    (subst (All (λ (f : FrameRows). length (doings f.rows) ≤ 511)) (sym (c.in-Ok.ensures.frames read.rom))
    read.reads.keeps.limits.drafts))

pub join_frames-requires-clause-lines : goal.join_frames-requires-clause-lines
join_frames-requires-clause-lines g c =
    subst (All HasRowLines) (sym c.as_slice.ensures.value)
    (row_lines c.requires.text.small c.in-Ok.found.items
    (c.in-Ok.ensures.sources c.requires.text.small c.requires.text.reads.next c.requires.text.reads.sourced))

pub returns-clause-fault : goal.returns-clause-fault
returns-clause-fault g c =
    let read = c.requires.text.reads in
    let laid = laid_sections c.args.laid.now in
    let sketch = spelled_in read.rom c.args.self.now in
    if_err c.join_frames.result c.join_frames.ensures.fault (λ fault stops.
    drafts_stop laid c.args.self.now c.as_slice.result.now fault (λ known.
    subst (All (KnowsNames laid)) (sym c.as_slice.ensures.value)
    (held_frames (λ (f : FrameRows). WantsNone laid (framed f.rows)) c.in-Ok.found.items
    (subst (All (λ (f : FrameRows). WantsNone laid (framed f.rows))) (sym (c.in-Ok.ensures.frames read.rom))
    (frames_known laid sketch
    (subst (All (WantsNone laid))
    (sym (sections_are read.rom c.args.self.now.closed.items c.args.self.now.last read.numbered.top)) known))))) stops)

pub returns-clause-drafts : goal.returns-clause-drafts
returns-clause-drafts g c =
    let laid = laid_sections c.args.laid.now in
    if_ok c.join_frames.result c.join_frames.ensures.spans (λ joined spans stated.
    subst (λ fs. AllZip (IsFrameOf laid) fs (map (frame_at joined.ops.items) joined.spans.items))
    (c.in-Ok.ensures.frames stated)
    (frames_are laid joined.ops.items c.in-Ok.found.items joined.spans.items
    (subst (λ found. AllZip (IsSpanOf laid joined.ops.items) found joined.spans.items)
    c.as_slice.ensures.value spans)))

pub returns-clause-lines : goal.returns-clause-lines
returns-clause-lines g c =
    let laid = laid_sections c.args.laid.now in
    both_ok c.join_frames.result c.join_frames.ensures.spans c.join_frames.ensures.lines (λ joined spans lines stated small next sourced.
    subst (λ fs. AllZip (StandsIn small) fs (map (joined_at joined.ops.items joined.sources.items) joined.spans.items))
    (c.in-Ok.ensures.frames stated)
    (stand_in small laid joined.ops.items joined.sources.items c.in-Ok.found.items joined.spans.items
    (c.in-Ok.ensures.sources small next sourced)
    (subst (λ found. AllZip (IsSpanOf laid joined.ops.items) found joined.spans.items) c.as_slice.ensures.value spans)
    (subst (λ found. AllZip (AreLinesOf joined.sources.items) found joined.spans.items) c.as_slice.ensures.value lines)))

pub returns-clause-inside : goal.returns-clause-inside
returns-clause-inside g c =
    let laid = laid_sections c.args.laid.now in
    both_ok c.join_frames.result c.join_frames.ensures.spans c.join_frames.ensures.lines
    (λ joined spans lines. insides laid joined.ops.items joined.sources.items c.as_slice.result.now joined.spans.items spans lines)

pub returns-clause-begins : goal.returns-clause-begins
returns-clause-begins g c =
    let laid = laid_sections c.args.laid.now in
    if_ok c.join_frames.result c.join_frames.ensures.spans (λ joined spans stated small next sourced none.
    spans_begun small (spelled_in stated c.args.self.now) laid joined.ops.items c.in-Ok.found.items joined.spans.items
    (subst (λ found. AllZip (IsSpanOf laid joined.ops.items) found joined.spans.items) c.as_slice.ensures.value spans)
    (c.in-Ok.ensures.begins stated small next sourced none))

pub returns-clause-rise : goal.returns-clause-rise
returns-clause-rise g c =
    let laid = laid_sections c.args.laid.now in
    if_ok c.join_frames.result c.join_frames.ensures.spans (λ joined spans small next sourced.
    spans_rise laid joined.ops.items c.in-Ok.found.items joined.spans.items
    (subst (λ found. AllZip (IsSpanOf laid joined.ops.items) found joined.spans.items) c.as_slice.ensures.value spans)
    (c.in-Ok.ensures.rise small next sourced))
