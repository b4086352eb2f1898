use Rattle.std.proofs.Common.{List, subst, sym}
use Rattle.dvg_rows.specs.NameTables.{IsFound}
use Rattle.dvg_rows.proofs.NameTables.{found_none, found_only, found_some}
use Rattle.dvg_named.specs.declared.laid.LaidRows as held
use Rattle.dvg_named.specs.LaidValues.{laid_sections}
use Rattle.dvg_named.specs.Places.{IsAddress}
use Rattle.dvg_named.proofs.NamedSections.{low_found, one_address}
use Rattle.dvg_named.proofs.laid.address_of.Goals as goal

pub returns-clause-found : goal.returns-clause-found
returns-clause-found g c =
    found_some (IsAddress (laid_sections c.args.sections.now) c.args.name.now) c.listed_address.result
    (subst (λ (sections : List held.LaidRows). IsFound (IsAddress (laid_sections sections) c.args.name.now) c.listed_address.result) c.sections.view_is
    (subst (IsFound (IsAddress (laid_sections c.sections.inside.sections.now) c.args.name.now)) (sym c.listed_address.ensures)
    (c.sections.invariant c.args.name)))

pub returns-clause-low : goal.returns-clause-low
returns-clause-low g c =
    low_found (laid_sections c.args.sections.now) c.args.name.now c.listed_address.result c.requires
    (subst (λ (sections : List held.LaidRows). IsFound (IsAddress (laid_sections sections) c.args.name.now) c.listed_address.result) c.sections.view_is
    (subst (IsFound (IsAddress (laid_sections c.sections.inside.sections.now) c.args.name.now)) (sym c.listed_address.ensures)
    (c.sections.invariant c.args.name)))

pub returns-clause-none : goal.returns-clause-none
returns-clause-none g c =
    found_none (IsAddress (laid_sections c.args.sections.now) c.args.name.now) c.listed_address.result
    (subst (λ (sections : List held.LaidRows). IsFound (IsAddress (laid_sections sections) c.args.name.now) c.listed_address.result) c.sections.view_is
    (subst (IsFound (IsAddress (laid_sections c.sections.inside.sections.now) c.args.name.now)) (sym c.listed_address.ensures)
    (c.sections.invariant c.args.name)))

pub returns-clause-only : goal.returns-clause-only
returns-clause-only g c once address h =
    found_only (IsAddress (laid_sections c.args.sections.now) c.args.name.now) c.listed_address.result
    (subst (λ (sections : List held.LaidRows). IsFound (IsAddress (laid_sections sections) c.args.name.now) c.listed_address.result) c.sections.view_is
    (subst (IsFound (IsAddress (laid_sections c.sections.inside.sections.now) c.args.name.now)) (sym c.listed_address.ensures)
    (c.sections.invariant c.args.name)))
    address h (λ also is. one_address (laid_sections c.args.sections.now) c.args.name.now also address once is h)
