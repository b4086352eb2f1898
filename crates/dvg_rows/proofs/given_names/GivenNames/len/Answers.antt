use Rattle.dvg_rows.proofs.NamePlaces.{distinct_bytes}
use Rattle.dvg_rows.proofs.given_names.GivenNames.len.Goals as goal

pub returns-clause-once : goal.returns-clause-once
returns-clause-once g c = distinct_bytes c.args.self.now.given.keys c.len.ensures.unique
