use Rattle.dvg_calls_6502.proofs.FrameOfCalls.{builds_frame, builds_life}
use Rattle.dvg_calls_6502.proofs.Example.{some_frame}
use Rattle.dvg_calls_6502.proofs.builds_frame.Goals as goal

pub returns : goal.returns
returns c = record { writes = builds_frame; life = builds_life; some = some_frame }
