use Rattle.std.proofs.Common.{rules, ◌∙◌}
use Rattle.dvg_world.proofs.KeptSoFar.{happened_so}
use Rattle.dvg_world.proofs.logging.log_trace.Goals as goal

pub logged-requires : goal.logged-requires
logged-requires g c =
    (c.happen_all-is_whole.ensures c.args.rom c.args.image.now c.in-Ok.ensures.stands (search rules)).kept.0

pub returns : goal.returns
returns g c =
    happened_so c.logged.ensures.whole (λ log kept. c.logged.ensures.entries ∙ kept.1)
    (c.happen_all-is_whole.ensures c.args.rom c.args.image.now c.in-Ok.ensures.stands (search rules))
