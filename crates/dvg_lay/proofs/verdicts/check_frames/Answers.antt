use Rattle.std.proofs.Common.{◌≤◌, ◌∙◌, ap, arith, length, subst}
use Rattle.std.specs.List.{AllZip}
use Rattle.std.proofs.lemmas.List.{take_all}
use Rattle.dvg_lay.specs.Checks.{IsVerdictOn, said_lines}
use Rattle.dvg_lay.proofs.ChecksSaid.{lines_more, verdicts_more}
use Rattle.dvg_lay.proofs.verdicts.check_frames.Goals as goal

pub loop-frame-preserved : goal.loop-frame-preserved
loop-frame-preserved g c =
    let frames = c.args.frames.now in
    let i = c.loop-frame.frame-index in
    let frame = c.frame-item.result in
    record {
      verdicts = verdicts_more c.args.bytes.now frames i frame c.loop-frame.verdicts.items c.push.new.self.items c.in_ok-said.said
          c.loop-frame-test.true c.frame-item.is c.in_ok-push.ensures.items c.loop-frame.invariant.verdicts c.in_ok-said.ensures;
      text = lines_more c.args.bytes.now frames i frame c.loop-frame.verdicts.items c.push.new.self.items c.in_ok-said.said
          c.loop-frame-test.true c.frame-item.is c.in_ok-push.ensures.items c.loop-frame.invariant.verdicts c.loop-frame.text.items
          c.put_line.new.text.items c.in_ok-put_line.ensures c.loop-frame.invariant.text;
    }

pub returns : goal.returns
returns g c =
    let all : length c.args.frames.now ≤ c.loop-frame.frame-index = omega arith in
    let whole = take_all c.loop-frame.frame-index c.args.frames.now all in
    record {
      verdicts = subst (λ frames. AllZip (IsVerdictOn c.args.bytes.now) frames c.loop-frame.verdicts.items) whole c.loop-frame.invariant.verdicts;
      text = c.loop-frame.invariant.text ∙ ap (λ frames. said_lines frames c.loop-frame.verdicts.items) whole;
    }
