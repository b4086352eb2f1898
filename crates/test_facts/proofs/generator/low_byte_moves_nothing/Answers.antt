use Rattle.std.proofs.Common.{[], ◌∷◌, None, sym, ap, ◌∙◌}
use Rattle.dvg_gen.specs.Told.{Start}
use Rattle.test_facts.proofs.ShortVectorMove.{no_move}
use Rattle.test_facts.proofs.generator.low_byte_moves_nothing.Goals as goal

pub returns : goal.returns
returns c =
    let started = c.start.ensures.stands [] None c.new-generator.ensures.stands in
    let opened = sym started.stands.is_open ∙ ap (λ m. m.is_open) c.start.ensures.machine in
    no_move c.move_by.result (c.move_by.ensures.moves (Start ∷ []) None started opened)
