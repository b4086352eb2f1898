use Rattle.dvg_named.proofs.OpLines.{line_pushed}
use Rattle.dvg_named.proofs.joining.push_sources.Goals as goal

pub loop-place-preserved : goal.loop-place-preserved
loop-place-preserved g c =
    line_pushed c.args.frame.now.rows.now c.args.frame.now.sources.now c.loop-place.place c.row-item.result _ c.loop-place.sources.items
    c.push_line.new.sources.items c.args.sources.now.items c.requires.lines c.loop-place-test.true c.row-item.is
    c.in_ok-push_line.ensures c.loop-place.invariant
