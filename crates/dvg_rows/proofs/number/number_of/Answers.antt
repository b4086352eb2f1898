use Rattle.std.proofs.Common.{List, subst, sym}
use Rattle.dvg_rows.specs.declared.row.Row as held
use Rattle.dvg_rows.specs.HeldRows.{rows_of}
use Rattle.dvg_rows.specs.NameTables.{IsLeastFound}
use Rattle.dvg_rows.specs.RowPlaces.{IsNumber}
use Rattle.dvg_rows.proofs.NameTables.{found_least, found_none, found_only, least_some}
use Rattle.dvg_rows.proofs.RowNames.{one_number}
use Rattle.dvg_rows.proofs.number.number_of.Goals as goal

pub returns-clause-found : goal.returns-clause-found
returns-clause-found g c =
    least_some (IsNumber (rows_of c.args.rows.now) c.args.name.now) c.get.result
    (subst (λ (rows : List held.Row). IsLeastFound (IsNumber (rows_of rows) c.args.name.now) c.get.result) c.rows.view_is
    (subst (IsLeastFound (IsNumber (rows_of c.rows.inside.rows.now) c.args.name.now)) (sym c.get.ensures)
    (c.rows.invariant c.args.name)))

pub returns-clause-none : goal.returns-clause-none
returns-clause-none g c =
    found_none (IsNumber (rows_of c.args.rows.now) c.args.name.now) c.get.result
    (found_least (IsNumber (rows_of c.args.rows.now) c.args.name.now) c.get.result
    (subst (λ (rows : List held.Row). IsLeastFound (IsNumber (rows_of rows) c.args.name.now) c.get.result) c.rows.view_is
    (subst (IsLeastFound (IsNumber (rows_of c.rows.inside.rows.now) c.args.name.now)) (sym c.get.ensures)
    (c.rows.invariant c.args.name))))

pub returns-clause-only : goal.returns-clause-only
returns-clause-only g c once number h =
    found_only (IsNumber (rows_of c.args.rows.now) c.args.name.now) c.get.result
    (found_least (IsNumber (rows_of c.args.rows.now) c.args.name.now) c.get.result
    (subst (λ (rows : List held.Row). IsLeastFound (IsNumber (rows_of rows) c.args.name.now) c.get.result) c.rows.view_is
    (subst (IsLeastFound (IsNumber (rows_of c.rows.inside.rows.now) c.args.name.now)) (sym c.get.ensures)
    (c.rows.invariant c.args.name))))
    number h (λ also is. one_number (rows_of c.args.rows.now) c.args.name.now also number once is h)
