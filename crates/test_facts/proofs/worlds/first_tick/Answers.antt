use Rattle.std.proofs.Common.{[]}
use Rattle.test_facts.proofs.Clients.{peeks}
use Rattle.test_facts.proofs.worlds.first_tick.Goals as goal

pub returns-in-Ok-apply : goal.returns-in-Ok-apply
returns-in-Ok-apply c =
    let after = c.in-Ok-apply.ensures.stands c.args.rom c.args.image.now [] c.in-Ok.ensures.stands in
    peeks c.args.rom c.args.image.now c.new.ensures.legal _ after.legal
