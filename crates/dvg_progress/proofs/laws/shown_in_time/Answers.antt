use Rattle.dvg_progress.proofs.WayOfFrame.{shown_in_time}
use Rattle.dvg_progress.proofs.laws.shown_in_time.Goals as goal

pub returns : goal.returns
returns c = shown_in_time
