use Rattle.dvg_progress.proofs.WritesUntilFlip.{published_in_time}
use Rattle.dvg_progress.proofs.laws.published_in_time.Goals as goal

pub returns : goal.returns
returns c = published_in_time
