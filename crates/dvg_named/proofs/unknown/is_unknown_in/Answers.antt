use Rattle.dvg_named.proofs.UnknownRows.{none_iff}
use Rattle.dvg_named.proofs.unknown.is_unknown_in.Goals as goal

pub returns : goal.returns
returns g c =
    none_iff c.number_of.result c.is_none.result c.is_none.ensures c.number_of.ensures.found c.number_of.ensures.none
    (λ number is none. none number is.0)
