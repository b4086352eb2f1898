use Rattle.std.proofs.Common.{subst, ◌∙◌, ◌≡◌, ap, arith, length, rules, sym, ◌++◌, [], All, append_assoc, map, take}
use Rattle.std.specs.Prelude.{◌==◌}
use Rattle.std.specs.List.{AllPairs, filter_map}
use Rattle.dvg_named.specs.FrameValues.{BeginsBefore, BeginsFirst, IsBegunAt, IsFrameAt, frame_in, frame_list, frames_of, rows_at_top}
use Rattle.dvg_rows.specs.HeldRows.{rows_of}
use Rattle.dvg_named.specs.SketchReading.{head_in, section_in}
use Rattle.dvg_named.specs.SourcedRows.{IsPartAt, StandsBefore}
use Rattle.dvg_named.proofs.FrameLists.{begins_under, below, frames_more, no_frames, no_pairs, some_rows, top_begun, top_skipped}
use Rattle.dvg_named.proofs.frame_rows.later_frames.Goals as goal
use Rattle.dvg_named.proofs.frame_rows.later_frames.Goals.{then-not-is_empty+in_ok-push_top, else-not-is_empty}

pub loop-part-preserved : goal.loop-part-preserved
loop-part-preserved g c =
    let one = frame_list (head_in c.part-item.result.head) (rows_of c.part-item.result.rows.items) in
    let front = filter_map frame_in (map section_in (take c.loop-part.part-index c.args.others.now)) in
    let top = rows_at_top (rows_of c.args.top.now.rows.items) in
    record {
      frames = c.in_ok-push_frame.ensures.frames ∙ ap (λ l. l ++ one) c.loop-part.invariant.frames
          ∙ append_assoc top front one
          ∙ ap (λ l. top ++ l) (sym (frames_more c.args.others.now c.loop-part.part-index c.part-item.result c.loop-part-test.true c.part-item.is));
      sources = λ small at all. c.in_ok-push_frame.ensures.sources small (subst (IsPartAt small) (sym c.part-item.is) (all c.loop-part.part-index c.part-item.result c.loop-part-test.true)) (c.loop-part.invariant.sources small at all);
      begins = λ small sketch there at top all. c.in_ok-push_frame.ensures.begins small sketch (subst (IsPartAt small) (sym c.part-item.is) (all c.loop-part.part-index c.part-item.result c.loop-part-test.true)) (c.loop-part.invariant.begins small sketch there at top all);
      before = λ small number at stands all. c.in_ok-push_frame.ensures.before number
          (subst (StandsBefore number) (sym c.part-item.is) (all c.loop-part.part-index c.part-item.result (omega arith)))
          (c.loop-part.invariant.before small number at stands (λ k d low. all k d (omega (arith, low))));
      rise = λ small at order. c.in_ok-push_frame.ensures.rise
          (below c.args.others.now c.args.top.now c.loop-part.part-index c.part-item.result c.loop-part.found.items c.loop-part-test.true c.part-item.is order
          (c.loop-part.invariant.before small c.part-item.result.begin.number at))
          (c.loop-part.invariant.rise small at order);
    }

pub loop-part-init : goal.loop-part-init
loop-part-init g c =
    let rows = c.args.top.now.rows.items in
    let long : c.args.top.now.rows.len ≡ length rows = search rules in
    let none : c.is_empty.result ≡ (length rows == 0) = c.is_empty.ensures ∙ ap (λ n. n == 0) long in
    elim c.if-not-is_empty.branch [
      | then-not-is_empty+in_ok-push_top w ↦ record {
        frames = subst (λ found. frames_of found.items ≡ rows_at_top (rows_of rows) ++ []) (sym w.found-is)
            (top_begun rows c.new-found.result.items _ c.is_empty.result none
            (let no = w.if-not-is_empty.true in cc) c.new-found.ensures.items w.in_ok-push_top.ensures.frames);
        sources = λ small at all. subst (λ found. All (IsFrameAt small) found.items) (sym w.found-is)
            (w.in_ok-push_top.ensures.sources small at (no_frames (IsFrameAt small) c.new-found.ensures.items));
        begins = λ small sketch there at top all. subst (λ found. All (IsBegunAt small sketch) found.items) (sym w.found-is)
            (w.in_ok-push_top.ensures.begins small sketch
            (there (some_rows rows c.is_empty.result none (let no = w.if-not-is_empty.true in cc))) at top
            (no_frames (IsBegunAt small sketch) c.new-found.ensures.items));
        before = λ small number at stands all. subst (λ found. All (BeginsBefore number) found.items) (sym w.found-is)
            (w.in_ok-push_top.ensures.before number
            (begins_under small number c.args.top.now at stands
            (some_rows rows c.is_empty.result none (let no = w.if-not-is_empty.true in cc)))
            (no_frames (BeginsBefore number) c.new-found.ensures.items));
        rise = λ small at order. subst (λ found. AllPairs BeginsFirst found.items) (sym w.found-is)
            (w.in_ok-push_top.ensures.rise (no_frames (BeginsBefore c.args.top.now.begin.number) c.new-found.ensures.items)
            (no_pairs c.new-found.ensures.items));
      }
      | else-not-is_empty w ↦ record {
        frames = subst (λ found. frames_of found.items ≡ rows_at_top (rows_of rows) ++ []) (sym w.found-is)
            (top_skipped rows c.new-found.result.items c.is_empty.result none
            (let no = w.if-not-is_empty.false in cc) c.new-found.ensures.items);
        sources = λ small at all. subst (λ found. All (IsFrameAt small) found.items) (sym w.found-is)
            (no_frames (IsFrameAt small) c.new-found.ensures.items);
        begins = λ small sketch there at top all. subst (λ found. All (IsBegunAt small sketch) found.items) (sym w.found-is)
            (no_frames (IsBegunAt small sketch) c.new-found.ensures.items);
        before = λ small number at stands all. subst (λ found. All (BeginsBefore number) found.items) (sym w.found-is)
            (no_frames (BeginsBefore number) c.new-found.ensures.items);
        rise = λ small at order. subst (λ found. AllPairs BeginsFirst found.items) (sym w.found-is)
            (no_pairs c.new-found.ensures.items);
      }
    ]

pub returns-clause-before : goal.returns-clause-before
returns-clause-before g c small number at stands all =
    let end = c.loop-part.auto.part-index-end in
    c.loop-part.invariant.before small number at stands (λ k d low. all k d (omega (arith, low, end)))

pub returns-clause-rise : goal.returns-clause-rise
returns-clause-rise g c small at order = c.loop-part.invariant.rise small at order
