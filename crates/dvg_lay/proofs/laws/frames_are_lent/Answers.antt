use Rattle.dvg_blame.proofs.LentFrames.{all_lent}
use Rattle.dvg_lay.proofs.laws.frames_are_lent.Goals as goal

pub returns : goal.returns
returns c = all_lent
