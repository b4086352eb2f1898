use Rattle.std.proofs.Common.{⊎_elim, Err, Ok, Result, refl}
use Rattle.dvg_frame.specs.declared.fault.FrameFault.{FrameFault}
use Rattle.dvg_frame.specs.Faults.{FrameState, IsChecked}
use Rattle.dvg_frame.proofs.AcceptedOrFault.{answered}
use Rattle.dvg_frame.proofs.Bounded.{some_picture}
use Rattle.dvg_frame.proofs.OneFault.{one_checked}
use Rattle.dvg_frame.proofs.laws.one_answer.Goals as goal

pub returns : goal.returns
returns c = λ F R image.
    ⊎_elim
    (λ accepts.
    let it = some_picture F R image accepts.closed accepts.ends in
    let answer : Result FrameState FrameFault = Ok (record { operations = F; bound = it.1 }) in
    let checked : IsChecked F R answer = (accepts, refl, (it.0, it.2)) in
    (answer, checked, λ other holds. one_checked F R answer other checked holds))
    (λ refused.
    let answer : Result FrameState FrameFault = Err refused.0 in
    (answer, refused.1, λ other holds. one_checked F R answer other refused.1 holds))
    (answered F R image)
