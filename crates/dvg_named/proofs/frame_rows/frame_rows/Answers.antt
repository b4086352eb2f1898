use Rattle.std.proofs.Common.{◌≡◌, arith, length, map}
use Rattle.dvg_named.specs.FrameValues.{BeginsBefore, IsBegunAt, IsFrameAt, frames_of}
use Rattle.dvg_named.specs.ReadParts.{sketch_of}
use Rattle.dvg_named.specs.SketchReading.{section_in}
use Rattle.dvg_named.specs.SourcedRows.{IsPartAt, StandsBefore}
use Rattle.dvg_named.proofs.FrameLists.{first_has, frames_joined, last_at_top, no_frames, no_pairs, others_have, top_is_all, top_is_there, top_of, top_order}
use Rattle.dvg_named.proofs.frame_rows.frame_rows.Goals as goal

pub returns-clause-frames : goal.returns-clause-frames
returns-clause-frames g c stated =
    frames_joined c.args.closed.now c.args.last.now c.top-item.result (frames_of c.in_ok-found.found.items)
    (frames_of c.push_frame.new.found.items) stated c.in-len1-up.len_at_least c.top-item.is c.in_ok-found.ensures.frames
    c.in_ok-push_frame.ensures.frames

pub returns-clause-sources : goal.returns-clause-sources
returns-clause-sources g c small all last =
    c.in_ok-push_frame.ensures.sources small last (c.in_ok-found.ensures.sources small
    (first_has (IsPartAt small) c.args.closed.now c.top-item.result c.in-len1-up.len_at_least c.top-item.is all)
    (others_have (IsPartAt small) c.args.closed.now c.in-len1-up.len_at_least all))

pub returns-clause-begins : goal.returns-clause-begins
returns-clause-begins g c stated small all last none =
    let sketch = sketch_of stated (map section_in c.args.closed.now) (section_in c.args.last.now) in
    let there = top_is_there c.args.closed.now c.args.last.now c.top-item.result stated c.in-len1-up.len_at_least c.top-item.is in
    let top = top_of c.args.closed.now c.args.last.now c.top-item.result c.in-len1-up.len_at_least c.top-item.is none in
    c.in_ok-push_frame.ensures.begins small sketch last (c.in_ok-found.ensures.begins small sketch there
    (first_has (IsPartAt small) c.args.closed.now c.top-item.result c.in-len1-up.len_at_least c.top-item.is all) top
    (others_have (IsPartAt small) c.args.closed.now c.in-len1-up.len_at_least all))

pub returns-in_default-clause-sources : goal.returns-in_default-clause-sources
returns-in_default-clause-sources g c small all last =
    c.in_ok-push_top.ensures.sources small last (no_frames (IsFrameAt small) c.new-found.ensures.items)

pub returns-in_default-clause-begins : goal.returns-in_default-clause-begins
returns-in_default-clause-begins g c stated small all last none =
    let sketch = sketch_of stated (map section_in c.args.closed.now) (section_in c.args.last.now) in
    let low = c.in_default.len_below in
    let alone : length c.args.closed.now ≡ 0 = omega (arith, low) in
    c.in_ok-push_top.ensures.begins small sketch (top_is_all c.args.closed.now c.args.last.now stated alone) last
    (last_at_top c.args.closed.now c.args.last.now alone none)
    (no_frames (IsBegunAt small sketch) c.new-found.ensures.items)

pub returns-in_default-clause-rise : goal.returns-in_default-clause-rise
returns-in_default-clause-rise g c small all order ahead =
    c.in_ok-push_top.ensures.rise (no_frames (BeginsBefore c.args.last.now.begin.number) c.new-found.ensures.items)
    (no_pairs c.new-found.ensures.items)

pub returns-clause-rise : goal.returns-clause-rise
returns-clause-rise g c small all order ahead =
    let closed = c.args.closed.now in
    let number = c.args.last.now.begin.number in
    let low = c.in-len1-up.len_at_least in
    let at = first_has (IsPartAt small) closed c.top-item.result low c.top-item.is all in
    c.in_ok-push_frame.ensures.rise
    (c.in_ok-found.ensures.before small number at (first_has (StandsBefore number) closed c.top-item.result low c.top-item.is ahead)
    (others_have (StandsBefore number) closed low ahead))
    (c.in_ok-found.ensures.rise small at (top_order closed c.top-item.result low c.top-item.is order))
