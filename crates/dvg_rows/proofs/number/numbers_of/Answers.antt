use Rattle.std.proofs.Common.{◌≡◌, ◌+◌, ◌++◌, ◌∷◌, [], ◌∙◌, ap, arith, length, refl, subst, sym, take}
use Rattle.std.proofs.lemmas.List.{length-append, map_more}
use Rattle.dvg_rows.specs.HeldRows.{rows_of}
use Rattle.dvg_rows.specs.NameTables.{TellsLeast}
use Rattle.dvg_rows.specs.RowPlaces.{IsNumber, doings}
use Rattle.dvg_rows.specs.RowValues.{row_of}
use Rattle.dvg_rows.proofs.NameTables.{least_more, least_none}
use Rattle.dvg_rows.proofs.NumberedRows.{count_more, few, here, narrower, wider}
use Rattle.dvg_rows.proofs.number.numbers_of.Goals as goal

pub loop-row-init : goal.loop-row-init
loop-row-init g c = record {
  tells = least_none (IsNumber []) c.new-numbers.result c.new-numbers.ensures (λ name number h.
      let cut = ap length h.named.cut in
      let size = length-append h.before (h.named.row ∷ h.named.after) in
      omega (arith, cut, size));
  count = refl;
  few = omega arith;
}

pub loop-row-preserved : goal.loop-row-preserved
loop-row-preserved g c =
    let rows = c.args.rows.now in
    let i = c.loop-row.row-index in
    let row = c.row-item.result in
    let front = rows_of (take i rows) in
    let before = c.loop-row.invariant in
    let more : rows_of (take (i + 1) rows) ≡ front ++ row_of row ∷ [] =
    map_more row_of rows i row c.loop-row-test.true ∙ ap (λ r. front ++ row_of r ∷ []) (sym c.row-item.is) in
    let count : length (doings (rows_of (take (i + 1) rows))) ≡ length (doings front) + length (doings (row_of row ∷ [])) =
    ap (λ rs. length (doings rs)) more ∙ count_more front (row_of row) in
    let added = c.op_count-count.ensures.value in
    record {
      tells = subst (λ rs. TellsLeast (IsNumber rs) c.put.new.self) (sym more)
          (least_more (IsNumber front) (IsNumber (front ++ row_of row ∷ [])) row.name c.loop-row.count c.loop-row.numbers
          c.put.new.self c.in_ok-put.ensures (λ name n. wider front (row_of row) name n)
          (narrower front (row_of row) c.loop-row.count before.count)
          (λ name gives. here front (row_of row) name c.loop-row.count before.count gives)
          (λ name n h. let low = few front name n h in omega (arith, low, before.count)) before.tells);
      count = omega (arith, count, added, before.count);
      few = omega (arith, c.op_count-count.ensures.most, before.few);
    }
