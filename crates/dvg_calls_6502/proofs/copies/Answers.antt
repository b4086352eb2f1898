use Rattle.std.proofs.Common.{refl}
use Rattle.dvg_calls_6502.proofs.Copying.{copy_takes, copy_refuses}
use Rattle.dvg_calls_6502.proofs.FrameOfCopies.{copies_frame}
use Rattle.dvg_calls_6502.proofs.Example.{some_copies}
use Rattle.dvg_calls_6502.proofs.copies.Goals as goal

pub returns : goal.returns
returns c = record {
  takes = copy_takes;
  refuses = copy_refuses;
  frame = copies_frame;
  some = some_copies;
}
