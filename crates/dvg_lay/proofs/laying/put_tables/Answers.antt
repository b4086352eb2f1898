use Rattle.std.proofs.Common.{◌∙◌, sym}
use Rattle.dvg_blame.specs.Refusals.{IsGood}
use Rattle.dvg_blame.proofs.Lists.{all_at, all_in, of_ok}
use Rattle.dvg_lay.proofs.TableLines.{table_added}
use Rattle.dvg_blame.proofs.Described.{fault_at}
use Rattle.dvg_lay.proofs.laying.put_tables.Goals as goal

pub returns-in-Err-clause-refused : goal.returns-in-Err-clause-refused
returns-in-Err-clause-refused g c =
    fault_at c.args.names.now c.args.frames.now c.loop-number.number c.index-frames-number.result c.loop-number-test.true c.index-frames-number.is c.args.rom.now
    c.loop-number.invariant.good c.in-Err.unlaid c.in-Err.ensures.refused

pub loop-number-preserved : goal.loop-number-preserved
loop-number-preserved g c =
    let frames = c.args.frames.now in
    let i = c.loop-number.number in
    let put = of_ok c.put_table.result (sym c.is_err.ensures.value ∙ c.if-is_err.false) c.put_table.ensures in
    record {
      good = all_at (IsGood c.args.rom.now) frames i c.index-frames-number.result c.loop-number-test.true c.index-frames-number.is c.loop-number.invariant.good
          c.in-Ok.ensures.good.0;
      text = table_added frames i c.index-frames-number.result c.loop-number.text.items c.put_table.new.text.items _ c.loop-number-test.true c.index-frames-number.is
          put c.loop-number.invariant.text;
    }

pub returns-clause-good : goal.returns-clause-good
returns-clause-good g c = all_in (IsGood c.args.rom.now) c.args.frames.now c.loop-number.number c.loop-number-test.false c.loop-number.invariant.good
