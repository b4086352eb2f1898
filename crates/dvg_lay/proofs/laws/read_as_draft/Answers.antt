use Rattle.dvg_lay.proofs.WholeDrafts.{draft_gives}
use Rattle.dvg_lay.proofs.laws.read_as_draft.Goals as goal

pub returns : goal.returns
returns c R frame rom draft numbered = draft_gives R frame.ops.now rom draft numbered
