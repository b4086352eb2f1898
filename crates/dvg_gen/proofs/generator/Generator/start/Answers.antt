use Rattle.std.proofs.Common.{ap, ◌∙◌, refl}
use Rattle.std.specs.Prelude.{reverse}
use Rattle.dvg_gen.proofs.GeneratorAfterHistory.{stands_start}
use Rattle.dvg_gen.proofs.generator.Generator.start.Goals as goal

pub returns-clause-stands : goal.returns-clause-stands
returns-clause-stands g c = λ history low after.
    let reset = c.reset.ensures.machine in
    stands_start c.args.self.now _ history low after refl refl (ap (λ m. m.low) c.self.view_is ∙ ap (λ m. m.low) reset) (ap reverse c.clear.ensures) (ap (λ m. m.beam) c.self.view_is ∙ ap (λ m. m.beam) reset)
    (ap (λ m. m.strokes) c.self.view_is ∙ ap (λ m. m.strokes) reset) refl
