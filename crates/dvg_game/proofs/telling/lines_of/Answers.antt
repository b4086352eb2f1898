use Rattle.dvg_game.proofs.PlacesTold.{one_more}
use Rattle.dvg_game.proofs.telling.lines_of.Goals as goal

pub loop-broken-preserved : goal.loop-broken-preserved
loop-broken-preserved g c =
    one_more c.args.all.now c.loop-broken.broken-index _ c.loop-broken.lines.items _ c.in_ok-line_at.field-0 c.loop-broken-test.true
    c.in_ok-push.ensures.items c.in_ok-line_at.ensures.at c.in_ok-line_at.ensures.form c.loop-broken.invariant
