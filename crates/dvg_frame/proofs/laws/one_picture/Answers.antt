use Rattle.dvg_frame.proofs.Bounded.{some_picture}
use Rattle.dvg_frame.proofs.Pictures.{one_picture as same_picture}
use Rattle.dvg_frame.proofs.laws.one_picture.Goals as goal

pub returns : goal.returns
returns c =
    λ F R image accepts.
    let it = some_picture F R image accepts.closed accepts.ends in
    (it.0, it.1, it.2, it.3, λ others m other. same_picture F R it.0 others it.1 m it.2 other)
