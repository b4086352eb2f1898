use Rattle.std.proofs.Common.{List, ℕ, Option, subst, sym}
use Rattle.std.specs.Borrow.{Bor}
use Rattle.dvg_read.specs.LineParts.{bytes_of}
use Rattle.dvg_rows.specs.FreshNames.{IsAgain, IsFresh}
use Rattle.dvg_rows.specs.RowValues.{name_of}
use Rattle.dvg_rows.proofs.NameSets.{among, had, lacked, not_among}
use Rattle.dvg_rows.proofs.given_names.GivenNames.give.Goals as goal

pub returns-in-Ok-true-clause-fresh : goal.returns-in-Ok-true-clause-fresh
returns-in-Ok-true-clause-fresh g c =
    subst (λ (name : Option (Bor (List ℕ))). IsFresh (bytes_of c.args.self.now.given.keys) (name_of name)) (sym c.in-Some.is)
    (not_among c.args.self.now.given.keys c.in-Some.name
    (lacked c.in-Ok-true.field-0 _ c.in-Ok-true.field-0-test c.in-Ok-true.ensures.added))

pub returns-in-Ok-false-clause-fault : goal.returns-in-Ok-false-clause-fault
returns-in-Ok-false-clause-fault g c =
    subst (λ (name : Option (Bor (List ℕ))). IsAgain (bytes_of c.args.self.now.given.keys) (name_of name)) (sym c.in-Some.is)
    (among c.args.self.now.given.keys c.in-Some.name
    (had c.in-Ok-false.field-0 _ c.in-Ok-false.field-0-test c.in-Ok-false.ensures.added))
