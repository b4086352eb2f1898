use Rattle.std.proofs.Common.{◌≡◌, ◌+◌, ◌-◌, ◌*◌, ◌<◌, ap, length, take, drop, arith, rules}
use Rattle.dvg_lay.specs.Drafts.{given_line}
use Rattle.dvg_lay.proofs.GivenRows.{all_rows, row_added}
use Rattle.dvg_lay.proofs.drafts.put_rows.Goals as goal

pub loop-row-preserved : goal.loop-row-preserved
loop-row-preserved g c =
    let words = c.args.words.now in
    let eight : c.loop-row.row * 8 + 8 - c.loop-row.row * 8 ≡ 8 = omega arith in
    row_added c.args.first words c.loop-row.row c.loop-row.text.items _ c.put_row.new.text.items _ (search rules)
    (ap (λ k. given_line (c.args.first + c.loop-row.row * 8) (take k (drop (c.loop-row.row * 8) words))) eight)
    c.in_ok-put_row.ensures c.loop-row.invariant

pub returns : goal.returns
returns g c =
    let whole : length c.args.words.now < c.loop-row.row * 8 + 8 = search rules in
    all_rows c.args.first c.args.words.now c.loop-row.row _ _ whole c.loop-row.invariant
