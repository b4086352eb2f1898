use Rattle.std.proofs.Common.{◌∙◌, ◌/◌, ap, sym}
use Rattle.std.specs.Prelude.{slice_get}
use Rattle.dvg_frame.specs.Layout.{laid}
use Rattle.dvg_frame.proofs.Bytes.{byte_in_word}
use Rattle.dvg_frame.proofs.checked.Checked.byte.Goals as goal

pub returns : goal.returns
returns c =
    byte_in_word _ _ _ _
    (ap (λ state. slice_get (laid c.args.half state.operations) (c.args.k / 2)) (sym c.self.view_is) ∙ ap (λ F. slice_get (laid c.args.half F) (c.args.k / 2)) (sym c.of-counted.ensures) ∙ c.word_at.ensures)
    c.byte_of.ensures
