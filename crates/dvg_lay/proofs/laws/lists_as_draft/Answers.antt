use Rattle.dvg_lay.proofs.LaidCuttings.{lists_as_draft}
use Rattle.dvg_lay.proofs.laws.lists_as_draft.Goals as goal

pub returns : goal.returns
returns c = lists_as_draft
