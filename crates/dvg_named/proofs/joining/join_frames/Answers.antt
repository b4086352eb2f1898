use Rattle.std.proofs.Common.{◌≡◌, ◌+◌, ◌++◌, ◌∷◌, [], ◌∙◌, ap, arith, length, subst, sym, take}
use Rattle.std.proofs.lemmas.List.{length-append, take_more}
use Rattle.dvg_named.specs.FlatFrames.{IsSpanOf}
use Rattle.dvg_named.specs.LaidValues.{laid_sections}
use Rattle.dvg_named.specs.OpSources.{AreLinesOf, HasRowLines, op_sources}
use Rattle.dvg_named.proofs.DraftRows.{zip_more}
use Rattle.dvg_named.proofs.EntriesMore.{items_ok}
use Rattle.dvg_named.proofs.FlatSpans.{spans_grown}
use Rattle.dvg_named.proofs.KnownFrames.{frames_stop, ok_then}
use Rattle.dvg_named.proofs.OpLines.{lines_grown, lines_here, span_count}
use Rattle.dvg_named.proofs.joining.join_frames.Goals as goal

pub push_sources-requires : goal.push_sources-requires
push_sources-requires g c =
    record { lines = subst HasRowLines (sym c.frame-item.is) (c.requires.lines c.loop-frame.frame-index c.frame-item.result c.loop-frame-test.true) }

pub returns-in-Err-clause-fault : goal.returns-in-Err-clause-fault
returns-in-Err-clause-fault g c =
    frames_stop (laid_sections c.args.rom.now) c.args.frames.now c.loop-frame.frame-index c.frame-item.result
    c.loop-frame-test.true c.frame-item.is c.in-Err.fault c.in-Err.ensures.fault

pub loop-frame-preserved : goal.loop-frame-preserved
loop-frame-preserved g c =
    let frames = c.args.frames.now in
    let i = c.loop-frame.frame-index in
    let frame = c.frame-item.result in
    let laid = laid_sections c.args.rom.now in
    let ops = c.push_frame.new.ops.items in
    let sources = c.push_sources.new.sources.items in
    let span = c.in-Ok-push_frame.span in
    let before = c.loop-frame.invariant in
    let next = take_more frames i frame c.loop-frame-test.true ∙ ap (λ f. take i frames ++ f ∷ []) (sym c.frame-item.is) in
    let has_lines : HasRowLines frame =
    subst HasRowLines (sym c.frame-item.is) (c.requires.lines i frame c.loop-frame-test.true) in
    let grown = ok_then c.push_sources.result (sym c.is_err.ensures.value ∙ c.if-is_err.false) c.push_sources.ensures in
    let lines = op_sources frame.rows.now frame.sources.now in
    let count = span_count laid ops frame span has_lines c.in-Ok-push_frame.ensures.span in
    let from = c.in-Ok-push_frame.ensures.place.0 in
    let to = c.in-Ok-push_frame.ensures.place.1 in
    let same : length ops ≡ length sources =
    omega (arith, count, from, to, before.same, ap length grown, length-append c.loop-frame.sources.items lines) in
    record {
      spans = zip_more (IsSpanOf laid ops) (take i frames) (take (i + 1) frames) c.loop-frame.spans.items c.push.new.self.items frame span
          (spans_grown laid c.loop-frame.ops.items ops c.in-Ok-push_frame.ensures.grown.0 (take i frames) c.loop-frame.spans.items
          c.in-Ok-push_frame.ensures.grown.1 before.spans)
          c.in-Ok-push_frame.ensures.span next (items_ok c.push.result c.push.new.self.items (c.loop-frame.spans.items ++ span ∷ []) c.loop-frame.spans.items (sym c.is_err-in-loop-frame.ensures.value ∙ c.if-is_err-2.false) c.push.ensures.items);
      lines = zip_more (AreLinesOf sources) (take i frames) (take (i + 1) frames) c.loop-frame.spans.items c.push.new.self.items frame span
          (lines_grown c.loop-frame.sources.items sources lines (take i frames) c.loop-frame.spans.items grown before.lines)
          (lines_here c.loop-frame.sources.items sources frame span grown (from ∙ before.same) (to ∙ same))
          next (items_ok c.push.result c.push.new.self.items (c.loop-frame.spans.items ++ span ∷ []) c.loop-frame.spans.items (sym c.is_err-in-loop-frame.ensures.value ∙ c.if-is_err-2.false) c.push.ensures.items);
      same = same;
    }
