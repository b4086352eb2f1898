use Rattle.std.proofs.Common.{◌≤◌, ap, below_more, length, refl, arith}
use Rattle.dvg_named.specs.FirstUnknown.{section_held}
use Rattle.dvg_named.specs.LaidValues.{laid_sections}
use Rattle.dvg_rows.specs.RowValues.{row_of}
use Rattle.dvg_named.proofs.DraftRows.{at_in, low_in, stands_at, wants_none}
use Rattle.dvg_named.proofs.UnknownRows.{wants_at, wants_nowhere}
use Rattle.dvg_named.proofs.unknown.first_in.Goals as goal

pub returns-then-wants-clause-found : goal.returns-then-wants-clause-found
returns-then-wants-clause-found g c =
    let laid = laid_sections c.args.laid.now in
    let section = section_held c.args.head c.args.rows.now in
    record {
      wants = wants_at laid section c.loop-place.place (row_of c.row-item.result)
          (stands_at c.args.rows.now c.loop-place.place c.row-item.result (low_in c.loop-place.place c.rows-row-items.ensures c.loop-place-test.true) (at_in c.loop-place.place c.row-item.result c.rows-row-items.ensures c.row-item.is))
          (c.wants.ensures.0 c.if-wants.true);
      first = c.loop-place.invariant;
    }

pub loop-place-preserved : goal.loop-place-preserved
loop-place-preserved g c =
    let laid = laid_sections c.args.laid.now in
    let section = section_held c.args.head c.args.rows.now in
    below_more _ _ c.loop-place.invariant
    (wants_none c.args.rows.now c.loop-place.place c.row-item.result (low_in c.loop-place.place c.rows-row-items.ensures c.loop-place-test.true) (at_in c.loop-place.place c.row-item.result c.rows-row-items.ensures c.row-item.is)
    laid section refl (λ doing does ungiven.
    let yes = c.wants.ensures.1 (record { doing = doing; does = does; ungiven = ungiven }) in
    let not = c.if-wants.false in absurd cc))

pub returns-clause-known : goal.returns-clause-known
returns-clause-known g c =
    let same = ap length c.rows-row-items.ensures in
    let all : length c.args.rows.now ≤ c.loop-place.place = omega (arith, same) in
    wants_nowhere (laid_sections c.args.laid.now) c.args.head c.args.rows.now c.loop-place.place all c.loop-place.invariant
