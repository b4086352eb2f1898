use Rattle.std.proofs.Common.{ap, refl, Vec, ◌∙◌}
use Rattle.dvg_gen.specs.declared.stroke.Stroke.{Stroke}
use Rattle.dvg_gen.proofs.generator.Generator.finish.Goals as goal

pub returns-clause-obeyed : goal.returns-clause-obeyed
returns-clause-obeyed g c = (
  refl,
  (refl, refl, ap (λ m. m.beam) c.self.view_is),
  ap {A = Vec Stroke g.row.A.Denot} (λ list. list.items) c.swap.ensures.y_after ∙ ap (λ m. m.strokes) c.self.view_is,
  c.clear.ensures.items,
)
