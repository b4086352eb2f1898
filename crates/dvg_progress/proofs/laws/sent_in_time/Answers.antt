use Rattle.dvg_progress.proofs.StrobeAfterFlip.{sent_in_time}
use Rattle.dvg_progress.proofs.laws.sent_in_time.Goals as goal

pub returns : goal.returns
returns c = sent_in_time
