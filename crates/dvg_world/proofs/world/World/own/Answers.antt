use Rattle.std.proofs.Common.{ap, ◌∙◌, subst}
use Rattle.dvg_log.specs.Entries.{shown_of}
use Rattle.dvg_world.specs.Standing.{shown_in}
use Rattle.dvg_world.specs.own.Stepping.{IsDrawnBy}
use Rattle.dvg_world.proofs.EntriesDrew.{owned_none, owned_some}
use Rattle.dvg_world.proofs.world.World.own.Goals as goal

pub returns-clause-shown : goal.returns-clause-shown
returns-clause-shown g c =
    let entry = c.args.entry in
    let drawn = subst (IsDrawnBy (shown_in c.args.self.now entry)) c.in-Some.is c.take_drawn.ensures.drawn in
    ap shown_of c.with-2.ensures ∙ owned_some entry _ c.in-Some.drew drawn

pub returns-in_default-clause-shown : goal.returns-in_default-clause-shown
returns-in_default-clause-shown g c =
    let entry = c.args.entry in
    let drawn = subst (IsDrawnBy (shown_in c.args.self.now entry)) c.in_default.is c.take_drawn.ensures.drawn in
    ap shown_of c.with.ensures ∙ owned_none entry _ c.new.result drawn
