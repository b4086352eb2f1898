use Rattle.std.proofs.Common.{◌∙◌, ap, sym}
use Rattle.dvg_frame.specs.Layout.{size}
use Rattle.dvg_frame.proofs.Sizes.{laid_length}
use Rattle.dvg_frame.proofs.checked.Checked.len_words.Goals as goal

pub returns-clause-laid : goal.returns-clause-laid
returns-clause-laid c = λ half. laid_length half _ ∙ sym (c.self.invariant.1 ∙ ap (λ state. size state.operations) c.self.view_is)
