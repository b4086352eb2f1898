use Rattle.std.proofs.Common.{ap, sym, ◌∙◌, subst, refl, Some}
use Rattle.std.specs.Prelude.{option_to_list}
use Rattle.dvg_gen.specs.Completing.{Completes}
use Rattle.dvg_gen.specs.Moving.{begins_at, made}
use Rattle.dvg_gen.proofs.Moves.{completes_move, first_move}
use Rattle.dvg_gen.proofs.generator.Generator.move_of.Goals as goal

pub returns-in-Some-clause-moves : goal.returns-in-Some-clause-moves
returns-in-Some-clause-moves g c =
    let now = c.args.self.now in
    let held = ap (λ m. m.held) (sym c.self.view_is) ∙ c.in-Some.is in
    let code = c.of_two-code.result in
    let address = c.before-in-Some.result in
    let at =
    c.before-in-Some.ensures.value ∙ ap (λ m. begins_at (Some 0) m.at) c.self.view_is
    ∙ ap (λ h. begins_at h now.at) (sym held) in
    let is = c.of.ensures.moves ∙ ap (λ m. made m.beam address code) c.self.view_is in
    let completes = subst (λ h. Completes h c.args.word code) (sym held) c.of_two-code.ensures in
    completes_move now c.args.word address code (option_to_list c.of.result) completes at is

pub returns-then-word-lt45056-clause-moves : goal.returns-then-word-lt45056-clause-moves
returns-then-word-lt45056-clause-moves g c =
    let held = ap (λ m. m.held) (sym c.self.view_is) ∙ c.in_default.is in
    first_move c.args.self.now c.args.word _ held c.if-word-lt45056.true refl

pub returns-clause-moves : goal.returns-clause-moves
returns-clause-moves g c =
    let now = c.args.self.now in
    let held = ap (λ m. m.held) (sym c.self.view_is) ∙ c.in_default.is in
    let code = c.of_one-code.result in
    let at = ap (λ m. m.at) c.self.view_is ∙ ap (λ h. begins_at h now.at) (sym held) in
    let address = c.self.inside.at in
    let is = c.of-2.ensures.moves ∙ ap (λ m. made m.beam address code) c.self.view_is in
    let completes = subst (λ h. Completes h c.args.word code) (sym held) c.of_one-code.ensures in
    completes_move now c.args.word address code (option_to_list c.of-2.result) completes at is
