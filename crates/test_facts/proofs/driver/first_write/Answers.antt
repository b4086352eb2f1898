use Rattle.std.proofs.Common.{[], ◌∷◌, subst, sym, ap, true, false, Some, refl}
use Rattle.dvg_mem.specs.declared.half.Half.TheVariants.{H1}
use Rattle.dvg_driver.specs.declared.action.Action.TheVariants.{Peek, Read, Wrote}
use Rattle.dvg_driver.specs.Script.{Did, Offered}
use Rattle.dvg_driver.specs.Stands.{Driving, StandsAfter}
use Rattle.test_facts.specs.Facts.{blank_frame}
use Rattle.test_facts.proofs.Clients.{one_next, booted, booted_stands, not_whole, write_first}
use Rattle.test_facts.proofs.driver.first_write.Goals as goal

pub returns-in-Err : goal.returns-in-Err
returns-in-Err c =
    let begun = c.new-driver.ensures.stands 0 in
    let stands = booted_stands (c.tick.ensures.scripted 0 [] begun) c.tick.ensures.told (c.tick.ensures.stands 0 [] begun) c.tick-2.ensures.scripted c.tick-2.ensures.told c.tick-2.ensures.stands in
    let e = (c.in-Err.ensures.accepted 0 (Did (Read true) ∷ Did Peek ∷ []) stands).1 booted in absurd (cc)

pub returns-in-Ok-offer_checked : goal.returns-in-Ok-offer_checked
returns-in-Ok-offer_checked c =
    let begun = c.new-driver.ensures.stands 0 in
    let stands = booted_stands (c.tick.ensures.scripted 0 [] begun) c.tick.ensures.told (c.tick.ensures.stands 0 [] begun) c.tick-2.ensures.scripted c.tick-2.ensures.told c.tick-2.ensures.stands in
    let offered = subst (λ F. StandsAfter c.offer_checked.new.self.stage 0 (Offered H1 F ∷ Did (Read true) ∷ Did Peek ∷ [])) c.requires (c.in-Ok.ensures.stands 0 (Did (Read true) ∷ Did Peek ∷ []) stands) in
    absurd (not_whole ((c.in-Ok-offer_checked.ensures.accepted 0 (Offered H1 blank_frame ∷ Did (Read true) ∷ Did Peek ∷ []) offered).0 refl))

pub returns-in-Err-offer_checked : goal.returns-in-Err-offer_checked
returns-in-Err-offer_checked c =
    let begun = c.new-driver.ensures.stands 0 in
    let stands = booted_stands (c.tick.ensures.scripted 0 [] begun) c.tick.ensures.told (c.tick.ensures.stands 0 [] begun) c.tick-2.ensures.scripted c.tick-2.ensures.told c.tick-2.ensures.stands in
    let offered = subst (λ F. StandsAfter c.offer_checked.new.self.stage 0 (Offered H1 F ∷ Did (Read true) ∷ Did Peek ∷ [])) c.requires (c.in-Ok.ensures.stands 0 (Did (Read true) ∷ Did Peek ∷ []) stands) in
    let kept = subst (λ (driving : Driving). StandsAfter driving.stage 0 (Offered H1 blank_frame ∷ Did (Read true) ∷ Did Peek ∷ [])) (sym c.in-Err-offer_checked.ensures.refused) offered in
    ap Some (one_next (Offered H1 blank_frame ∷ Did (Read true) ∷ Did Peek ∷ []) false _ (Wrote 0x402 0x90) (c.tick-in-Err-offer_checked.ensures.scripted 0 (Offered H1 blank_frame ∷ Did (Read true) ∷ Did Peek ∷ []) kept) write_first c.tick-in-Err-offer_checked.ensures.told tt)
