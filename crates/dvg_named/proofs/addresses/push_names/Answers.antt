use Rattle.std.proofs.Common.{◌∙◌, ◌+◌, ◌++◌, append_assoc, ap, arith, sym, take}
use Rattle.std.specs.Option.{option_to_list}
use Rattle.dvg_rows.specs.HeldRows.{rows_of}
use Rattle.dvg_rows.specs.RowPlaces.{names_of}
use Rattle.dvg_named.specs.RomNames.{names_listed}
use Rattle.dvg_rows.specs.RowValues.{name_of}
use Rattle.dvg_named.proofs.NamesLaid.{row_address, row_names}
use Rattle.dvg_rows.proofs.RowSizes.{size_front, size_more}
use Rattle.dvg_named.proofs.addresses.push_names.Goals as goal

pub overflow_cast-next : goal.overflow_cast-next
overflow_cast-next g c =
    let front = size_front c.args.section.now.rows.now c.loop-row.row-index in
    omega (arith, front, c.loop-row.invariant.next, c.requires)

pub overflow_add-next : goal.overflow_add-next
overflow_add-next g c =
    let i = c.loop-row.row-index in
    let more = size_more c.args.section.now.rows.now i c.row-item.result c.loop-row-test.true c.row-item.is in
    let front = size_front c.args.section.now.rows.now (i + 1) in
    omega (arith, more, front, c.loop-row.invariant.next, c.words_of_row-next.ensures, c.requires)

pub loop-row-preserved : goal.loop-row-preserved
loop-row-preserved g c =
    let rows = c.args.section.now.rows.now in
    let i = c.loop-row.row-index in
    let row = c.row-item.result in
    let more = size_more rows i row c.loop-row-test.true c.row-item.is in
    let start = c.args.section.now.start in
    let one = option_to_list (name_of row.name) in
    let old = names_listed c.args.found.now.items in
    record {
      next = omega (arith, more, c.loop-row.invariant.next, c.words_of_row-next.ensures);
      names = c.in_ok-push_name.ensures.names ∙ ap (λ l. l ++ one) c.loop-row.invariant.names
          ∙ append_assoc old (names_of (rows_of (take i rows))) one
          ∙ ap (λ l. old ++ l) (sym (row_names rows i row c.loop-row-test.true c.row-item.is));
      addresses = λ laid stands were. c.in_ok-push_name.ensures.addresses laid
          (row_address rows i row c.loop-row-test.true c.row-item.is laid start c.loop-row.next stands c.loop-row.invariant.next)
          (c.loop-row.invariant.addresses laid stands were);
    }
