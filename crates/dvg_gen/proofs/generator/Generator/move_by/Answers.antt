use Rattle.std.proofs.Common.{◌≡◌, ◌*◌, ◌+◌, None, Some, ap, sym, ◌∙◌, refl, arith}
use Rattle.std.specs.Prelude.{option_to_list}
use Rattle.dvg_gen.specs.Bytes.{met, Whole}
use Rattle.dvg_gen.proofs.Moves.{adds_moves}
use Rattle.dvg_gen.proofs.GeneratorAfterHistory.{met_hole}
use Rattle.dvg_gen.proofs.generator.Generator.move_by.Goals as goal

pub returns-in_default-clause-moves : goal.returns-in_default-clause-moves
returns-in_default-clause-moves g c =
    let now = c.args.self.now in
    adds_moves now c.args.byte (Whole None) _ (ap (met now.low) c.in_default.is ∙ met_hole now.low) refl

pub returns-clause-moves : goal.returns-clause-moves
returns-clause-moves g c =
    let now = c.args.self.now in
    let low = sym c.low_byte.ensures ∙ c.in-Some-low_byte.is in
    let word = c.from_le_bytes.ensures in
    let sum : c.in-Some-low_byte.low + 256 * c.in-Some.high ≡ c.from_le_bytes.result = omega arith in
    let whole =
    ap (λ l. met l c.args.byte) low ∙ ap (met (Some c.in-Some-low_byte.low)) c.in-Some.is
    ∙ ap (λ w. Whole (Some w)) sum in
    adds_moves now c.args.byte (Whole (Some c.from_le_bytes.result)) (option_to_list c.move_of.result) whole
    c.move_of.ensures.moves
