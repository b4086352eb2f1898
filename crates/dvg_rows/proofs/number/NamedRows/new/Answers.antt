use Rattle.dvg_rows.specs.HeldRows.{rows_of}
use Rattle.dvg_rows.proofs.NamePlaces.{listed_least}
use Rattle.dvg_rows.proofs.number.NamedRows.new.Goals as goal

pub invariant_of-result : goal.invariant_of-result
invariant_of-result g c =
    listed_least (rows_of c.args.rows.now) c.args.given.now.given.keys c.in_ok-list_numbers.field-0.items
    (c.are_given.ensures.same.0 c.if-are_given.true) c.are_given.ensures.once c.in_ok-list_numbers.ensures
