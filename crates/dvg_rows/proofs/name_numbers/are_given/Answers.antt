use Rattle.std.proofs.Common.{◌∙◌, ap, arith, length, sym, take}
use Rattle.std.proofs.lemmas.Bool.{false≢true}
use Rattle.dvg_read.specs.LineParts.{bytes_of}
use Rattle.dvg_rows.specs.HeldRows.{rows_of}
use Rattle.dvg_rows.specs.RowPlaces.{names_of}
use Rattle.dvg_rows.specs.RowValues.{name_of}
use Rattle.dvg_rows.proofs.ListedNumbers.{goes_on, other_names, row_names}
use Rattle.dvg_rows.proofs.name_numbers.are_given.Goals as goal

pub returns-in_default-clause-same : goal.returns-in_default-clause-same
returns-in_default-clause-same g c = (
  λ yes. absurd (false≢true yes),
  λ same. absurd (other_names c.args.rows.now c.loop-row.row-index c.row-item.result
      (bytes_of c.args.given.now.given.keys) c.loop-row.count c.loop-row-test.true c.row-item.is c.loop-row.invariant.count
      c.in_default.ensures.other same),
)

pub loop-row-preserved : goal.loop-row-preserved
loop-row-preserved g c =
    let rows = c.args.rows.now in
    let i = c.loop-row.row-index in
    let row = c.row-item.result in
    let before = c.loop-row.invariant in
    let more = row_names rows i row c.loop-row-test.true c.row-item.is in
    let step = goes_on (bytes_of c.args.given.now.given.keys) c.loop-row.count c.in-Some.next (name_of row.name)
    (names_of (rows_of (take i rows))) c.in-Some.ensures.after before.same before.count in
    record {
      same = more ∙ step.0;
      count = step.1 ∙ ap length (sym more);
      few = let last = step.2 in omega (arith, last, before.few);
    }
