use Rattle.std.proofs.Common.{[], ◌∷◌, Some, None, refl}
use Rattle.dvg_gen.specs.Told.{Start}
use Rattle.test_facts.proofs.ShortVectorMove.{first_move}
use Rattle.test_facts.proofs.generator.short_vector_moves.Goals as goal

pub returns : goal.returns
returns c =
    let started = c.start.ensures.stands [] None c.new-generator.ensures.stands in
    let waits = (c.in-Ok-Low.ensures.answers (Start ∷ []) None started).0 in
    let opened = waits.waits refl in
    first_move waits.run c.move_by.result waits.leaves (c.move_by.ensures.moves (Start ∷ []) (Some 0x71) waits opened)
