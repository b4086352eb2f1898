use Rattle.std.proofs.Common.{◌≤◌, arith, length, subst}
use Rattle.std.specs.List.{AllZip}
use Rattle.std.proofs.lemmas.List.{take_all}
use Rattle.dvg_lay.specs.Drawings.{IsDrawnFrame}
use Rattle.dvg_svg.specs.Svg.{strokes_of}
use Rattle.dvg_lay.proofs.FramesDrawn.{drawn_more, undrawn_at}
use Rattle.dvg_lay.proofs.frames.draw_frames.Goals as goal

pub returns-in-Err-clause-refused : goal.returns-in-Err-clause-refused
returns-in-Err-clause-refused g c =
    undrawn_at c.args.bytes.now c.args.names.now c.args.frames.now c.loop-frame.frame-index c.frame-item.result
    (strokes_of c.loop-frame.pictures.items) c.loop-frame-test.true c.frame-item.is c.loop-frame.invariant c.in-Err.unlaid c.in-Err.ensures.refused

pub loop-frame-preserved : goal.loop-frame-preserved
loop-frame-preserved g c =
    drawn_more c.args.bytes.now c.args.frames.now c.loop-frame.frame-index c.frame-item.result c.loop-frame.pictures.items
    c.push.new.self.items c.in-Ok.picture c.loop-frame-test.true c.frame-item.is
    c.in_ok-push.ensures.items
    c.loop-frame.invariant c.in-Ok.ensures.drawn

pub returns-clause-drawn : goal.returns-clause-drawn
returns-clause-drawn g c =
    let all : length c.args.frames.now ≤ c.loop-frame.frame-index = omega arith in
    subst (λ frames. AllZip (IsDrawnFrame c.args.bytes.now) frames (strokes_of c.loop-frame.pictures.items))
    (take_all c.loop-frame.frame-index c.args.frames.now all) c.loop-frame.invariant
