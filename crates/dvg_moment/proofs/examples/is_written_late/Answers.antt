use Rattle.std.proofs.Common.{◌≡◌, [], Bool, true, false, refl}
use Rattle.std.specs.Prelude.{IsTrue}
use Rattle.dvg_moment.proofs.Torn.{late_of_one}
use Rattle.dvg_moment.proofs.examples.is_written_late.Goals as goal

not_true : (answer : Bool) → ¬ IsTrue answer → answer ≡ false
not_true true n = absurd (n refl)
not_true false n = refl

pub returns : goal.returns
returns c =
    let begun = c.started.ensures _ c.new-judge.ensures in
    let read = c.fetched.ensures _ begun in
    let late = c.wrote.ensures _ read in
    not_true _ (λ torn. (c.done.ensures.torn [] _ late).0 torn (λ open_now. late_of_one))
