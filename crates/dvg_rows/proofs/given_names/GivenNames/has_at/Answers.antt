use Rattle.std.proofs.Common.{sym}
use Rattle.dvg_rows.proofs.NamePlaces.{has_none, has_some}
use Rattle.dvg_rows.proofs.given_names.GivenNames.has_at.Goals as goal

pub returns-in-Some : goal.returns-in-Some
returns-in-Some g c =
    has_some c.args.self.now.given.keys c.args.place c.in-Some.given.now c.args.name.now c.eq.result
    (sym c.in-Some.ensures.key) c.eq.ensures

pub returns-in-None : goal.returns-in-None
returns-in-None g c = has_none c.args.self.now.given.keys c.args.place c.args.name.now (sym c.in-None.ensures.key)
