use Rattle.std.proofs.Common.{◌∷◌, subst, sym}
use Rattle.dvg_driver.specs.Script.{Did}
use Rattle.dvg_driver.specs.Stands.{Driving, StandsAfter, peeked_after}
use Rattle.dvg_driver.proofs.DriverAfterLife.{kept_frame, next_stands, no_frame, stands_life}
use Rattle.dvg_driver.proofs.driver.Driver.tick.Goals as goal

pub returns-in-Some-clause-scripted : goal.returns-in-Some-clause-scripted
returns-in-Some-clause-scripted c peeked life stands =
    let write = c.in-Some.ensures in
    stands_life c.next_byte.new.self.stage peeked _
    (next_stands c.args.self.now.stage c.next_byte.new.self.stage (c.in-Some.address, c.in-Some.byte) peeked life
    write.given write.in_ram.0 stands)

pub returns-in-Some-clause-frame : goal.returns-in-Some-clause-frame
returns-in-Some-clause-frame c = kept_frame _ _ c.next_byte.ensures.frame

pub returns-in-None-clause-scripted : goal.returns-in-None-clause-scripted
returns-in-None-clause-scripted c peeked life stands =
    let same = subst (λ (driver : Driving). StandsAfter driver.stage peeked life) (sym c.in-None.ensures.none.0) stands in
    stands_life c.act.new.self.stage (peeked_after c.act.result c.args.byte1 peeked) (Did c.act.result ∷ life)
    (c.act.ensures.stands peeked life same)

pub returns-in-None-clause-frame : goal.returns-in-None-clause-frame
returns-in-None-clause-frame c = no_frame _ _ c.act.ensures.frame
