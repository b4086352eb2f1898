use Rattle.std.proofs.Common.{refl, ◌∙◌}
use Rattle.dvg_log.specs.declared.event.Event.TheVariants.{Redraw}
use Rattle.dvg_world.proofs.EventsAddLines.{adds_between, keeps_headline, redraw_same, redraws, same_parts, same_rom}
use Rattle.dvg_world.proofs.world.World.redraw.Goals as goal

pub returns-clause-stands : goal.returns-clause-stands
returns-clause-stands g c =
    adds_between Redraw _ c.self.view_is refl
    (same_rom c.redraw.ensures.rom (redraws _ c.redraw.result c.redraw.ensures.answers))

pub returns-clause-headline : goal.returns-clause-headline
returns-clause-headline g c = keeps_headline Redraw _ (returns-clause-stands g c)

pub returns-clause-same : goal.returns-clause-same
returns-clause-same g c nothing =
    same_parts c.redraw.ensures.rom (redraw_same _ _ c.redraw.result nothing c.redraw.ensures.answers) ∙ c.self.view_is
