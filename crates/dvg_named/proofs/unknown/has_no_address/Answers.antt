use Rattle.dvg_named.proofs.UnknownRows.{none_iff}
use Rattle.dvg_named.proofs.unknown.has_no_address.Goals as goal

pub returns : goal.returns
returns g c =
    none_iff c.address_of.result c.is_none.result c.is_none.ensures c.address_of.ensures.found c.address_of.ensures.none
    (λ address is none. none address is)
