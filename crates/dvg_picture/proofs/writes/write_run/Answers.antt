use Rattle.std.proofs.Common.{rules, [], ◌++◌, ap, ◌∙◌, cond, flat_map}
use Rattle.dvg_dump.specs.Endings.{end_of}
use Rattle.dvg_dump.specs.Units.{moves_ahead, setting_out}
use Rattle.dvg_print.specs.RunLines.{move_line}
use Rattle.dvg_io.specs.Watching.{one_more}
use Rattle.dvg_io.proofs.WrittenSoFar.{BrokeOff, Wrote, both, second_begun, writes_first, writes_second}
use Rattle.dvg_picture.specs.Texts.{end_text, ran_text}
use Rattle.dvg_picture.proofs.Recorded.{asked_moves, asked_ran}
use Rattle.dvg_picture.proofs.writes.write_run.Goals as goal

pub returns-in_err-write_trace : goal.returns-in_err-write_trace
returns-in_err-write_trace g c =
    let form = c.args.form in
    let items = c.args.run.now.ran.items in
    let moves = moves_ahead (setting_out form.units) items in
    let ran = flat_map ran_text (cond form.all items []) in
    let moved = flat_map move_line (cond form.moves moves []) in
    let end = end_text form.units moves (end_of c.args.run.now.ending) in
    let same = asked_ran form.all items c.as_slice-ran.result.now c.if_asked.result.now c.as_slice-ran.ensures.value c.if_asked.ensures in
    let broke = writes_first g.W.Write.contents ran moved c.args.writer.now c.write_trace.new.writer (search rules) in
    let all = writes_first g.W.Write.contents (ran ++ moved) end c.args.writer.now c.write_trace.new.writer broke in
    search rules

pub returns-in_err-write_moves : goal.returns-in_err-write_moves
returns-in_err-write_moves g c =
    let form = c.args.form in
    let items = c.args.run.now.ran.items in
    let moves = moves_ahead (setting_out form.units) items in
    let ran = flat_map ran_text (cond form.all items []) in
    let moved = flat_map move_line (cond form.moves moves []) in
    let end = end_text form.units moves (end_of c.args.run.now.ending) in
    let same = asked_ran form.all items c.as_slice-ran.result.now c.if_asked.result.now c.as_slice-ran.ensures.value c.if_asked.ensures in
    let others = asked_moves form.moves form.units items c.as_slice-ran.result.now c.if_asked-2.result.now c.as_slice-ran.ensures.value c.if_asked-2.ensures in
    let wrote : Wrote g.W.Write.contents ran c.args.writer.now c.write_trace.new.writer = search rules in
    let broke : BrokeOff g.W.Write.contents moved c.write_trace.new.writer c.write_moves.new.writer = search rules in
    let all = writes_first g.W.Write.contents (ran ++ moved) end c.args.writer.now c.write_moves.new.writer
    (second_begun ran moved wrote.0 broke.0, broke.1 ∙ ap one_more wrote.1) in
    search rules

pub returns : goal.returns
returns g c =
    let form = c.args.form in
    let items = c.args.run.now.ran.items in
    let moves = moves_ahead (setting_out form.units) items in
    let ran = flat_map ran_text (cond form.all items []) in
    let moved = flat_map move_line (cond form.moves moves []) in
    let end = end_text form.units moves (end_of c.args.run.now.ending) in
    let same = asked_ran form.all items c.as_slice-ran.result.now c.if_asked.result.now c.as_slice-ran.ensures.value c.if_asked.ensures in
    let others = asked_moves form.moves form.units items c.as_slice-ran.result.now c.if_asked-2.result.now c.as_slice-ran.ensures.value c.if_asked-2.ensures in
    let wrote : Wrote g.W.Write.contents ran c.args.writer.now c.write_trace.new.writer = search rules in
    let more : Wrote g.W.Write.contents moved c.write_trace.new.writer c.write_moves.new.writer = search rules in
    let first : Wrote g.W.Write.contents (ran ++ moved) c.args.writer.now c.write_moves.new.writer = (both ran moved _ _ _ wrote.0 more.0, more.1 ∙ wrote.1) in
    writes_second g.W.Write.contents (ran ++ moved) end c.write_end.result c.args.writer.now c.write_moves.new.writer c.write_end.new.writer first c.write_end.ensures
