use Rattle.std.proofs.Common.{refl, [], ◌∷◌, subst, true, false, ◌≡◌}
use Rattle.dvg_driver.specs.declared.action.Action.TheVariants.{Peek, Read}
use Rattle.dvg_driver.specs.Script.{Did, IsLife}
use Rattle.test_facts.proofs.Clients.{one_next, peek_first, read_second}
use Rattle.test_facts.proofs.driver.first_ticks.Goals as goal

pub returns : goal.returns
returns c =
    let begun = c.new-driver.ensures.stands 0 in
    let first : c.tick-first.result ≡ Peek = one_next [] false _ Peek (c.tick-first.ensures.scripted 0 [] begun) peek_first c.tick-first.ensures.told tt in
    let life = c.tick-second.ensures.scripted _ (Did c.tick-first.result ∷ []) (c.tick-first.ensures.stands 0 [] begun) in
    let second : c.tick-second.result ≡ Read true = one_next (Did Peek ∷ []) true _ (Read true) (subst (λ a. IsLife (Did c.tick-second.result ∷ Did a ∷ [])) first life) read_second c.tick-second.ensures.told refl in
    rw (first, second) refl
