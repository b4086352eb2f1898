use Rattle.std.proofs.Common.{◌≡◌, ◌+◌, arith, take}
use Rattle.dvg_rows.specs.HeldRows.{rows_of}
use Rattle.dvg_rows.specs.RowPlaces.{size}
use Rattle.dvg_rows.proofs.RowSizes.{size_front, size_more}
use Rattle.dvg_rows.proofs.sizes.size.Goals as goal

pub overflow_add-words : goal.overflow_add-words
overflow_add-words c =
    let more = size_more c.args.rows.now c.loop-row.row-index c.row-item.result c.loop-row-test.true c.row-item.is in
    let front = size_front c.args.rows.now (c.loop-row.row-index + 1) in
    omega (arith, more, front, c.loop-row.invariant, c.words_of_row-words.ensures, c.requires)

pub loop-row-preserved : goal.loop-row-preserved
loop-row-preserved c =
    let more = size_more c.args.rows.now c.loop-row.row-index c.row-item.result c.loop-row-test.true c.row-item.is in
    let now : c.loop-row.words + c.words_of_row-words.result
    ≡ size (rows_of (take (c.loop-row.row-index + 1) c.args.rows.now)) =
    omega (arith, more, c.loop-row.invariant, c.words_of_row-words.ensures) in
    now
