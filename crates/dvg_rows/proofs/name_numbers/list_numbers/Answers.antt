use Rattle.std.proofs.Common.{◌≡◌, ◌+◌, ◌++◌, ◌∷◌, [], ◌∙◌, ap, arith, length, subst, sym, take}
use Rattle.std.proofs.lemmas.List.{map_more}
use Rattle.std.specs.List.{AllZip}
use Rattle.dvg_rows.specs.HeldRows.{rows_of}
use Rattle.dvg_rows.specs.NameNumbers.{number_kept}
use Rattle.dvg_rows.specs.RowPlaces.{IsNumber, doings, names_of}
use Rattle.dvg_rows.specs.RowValues.{name_of, row_of}
use Rattle.dvg_rows.proofs.ListedNumbers.{numbers_more}
use Rattle.dvg_rows.proofs.NumberedRows.{count_more}
use Rattle.dvg_rows.proofs.name_numbers.list_numbers.Goals as goal

pub loop-row-preserved : goal.loop-row-preserved
loop-row-preserved g c =
    let rows = c.args.rows.now in
    let i = c.loop-row.row-index in
    let row = c.row-item.result in
    let front = rows_of (take i rows) in
    let before = c.loop-row.invariant in
    let more : rows_of (take (i + 1) rows) ≡ front ++ row_of row ∷ [] =
    map_more row_of rows i row c.loop-row-test.true ∙ ap (λ r. front ++ row_of r ∷ []) (sym c.row-item.is) in
    let count : length (doings (rows_of (take (i + 1) rows))) ≡ length (doings front) + length (doings (row_of row ∷ [])) =
    ap (λ rs. length (doings rs)) more ∙ count_more front (row_of row) in
    let added = c.op_count-count.ensures.value in
    record {
      each = subst (AllZip (IsNumber (rows_of (take (i + 1) rows))) (names_of (rows_of (take (i + 1) rows))))
          (sym c.in_ok-push_number.ensures)
          (subst (λ rs. AllZip (IsNumber rs) (names_of rs) (c.loop-row.numbers.items ++ number_kept (name_of row.name) c.loop-row.count)) (sym more)
          (numbers_more front (row_of row) c.loop-row.numbers.items c.loop-row.count before.count before.each));
      count = omega (arith, count, added, before.count);
      few = omega (arith, c.op_count-count.ensures.most, before.few);
    }
