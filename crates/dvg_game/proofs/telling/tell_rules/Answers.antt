use Rattle.std.proofs.Common.{◌≡◌, ◌∙◌, ap, subst, sym}
use Rattle.dvg_game_check.specs.Why.{AreBroken, listed}
use Rattle.dvg_game.proofs.PlacesTold.{places_of, told_broken}
use Rattle.dvg_game.proofs.telling.tell_rules.Goals as goal

pub returns-clause-at : goal.returns-clause-at
returns-clause-at g c =
    told_broken c.args.rom.now c.args.notes.now c.in_ok-all.all.items c.in_ok-ordered.ordered.items _ c.in_ok-all.ensures
    (λ at. c.in_ok-ordered.ensures at ∙ ap (λ all. listed all at) c.as_slice.ensures.value)
    (c.in_ok-lines.ensures.at ∙ ap places_of c.as_slice-3.ensures.value)
