use Rattle.std.proofs.Common.{◌∙◌, ◌++◌, ap, sym}
use Rattle.dvg_frame.specs.Bytes.{bytes}
use Rattle.dvg_frame.specs.Layout.{laid}
use Rattle.dvg_blame.specs.Refusals.{IsGood}
use Rattle.dvg_blame.proofs.Lists.{added, all_at, all_in, of_ok}
use Rattle.dvg_blame.proofs.Described.{fault_at}
use Rattle.dvg_lay.proofs.laying.lay_bytes.Goals as goal

pub returns-in-Err-clause-refused : goal.returns-in-Err-clause-refused
returns-in-Err-clause-refused g c =
    fault_at c.args.names.now c.args.frames.now c.loop-frame.frame-index c.frame-item.result c.loop-frame-test.true c.frame-item.is c.args.rom.now
    c.loop-frame.invariant.good c.in-Err.unlaid c.in-Err.ensures.refused

pub loop-frame-preserved : goal.loop-frame-preserved
loop-frame-preserved g c =
    let frames = c.args.frames.now in
    let i = c.loop-frame.frame-index in
    let put = of_ok c.put_laid.result (sym c.is_err.ensures.value ∙ c.if-is_err.false) c.put_laid.ensures in
    record {
      good = all_at (IsGood c.args.rom.now) frames i c.frame-item.result c.loop-frame-test.true c.frame-item.is c.loop-frame.invariant.good
          c.in-Ok.ensures.good.0;
      text = added (λ frame. bytes (laid c.args.half frame.ops.now)) frames i c.frame-item.result c.loop-frame.text.items c.put_laid.new.text.items _
          c.loop-frame-test.true c.frame-item.is
          (put ∙ ap (λ F. c.loop-frame.text.items ++ bytes (laid c.args.half F)) c.in-Ok.ensures.good.1) c.loop-frame.invariant.text;
    }

pub returns-clause-good : goal.returns-clause-good
returns-clause-good g c = all_in (IsGood c.args.rom.now) c.args.frames.now c.loop-frame.frame-index c.loop-frame-test.false c.loop-frame.invariant.good
