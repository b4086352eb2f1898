use Rattle.dvg_mem.proofs.Map.{same_area, some_area}
use Rattle.dvg_mem.proofs.laws.one_area.Goals as goal

pub returns : goal.returns
returns c = λ first w ram room most.
    let one = some_area first ram room w most in
    (one.0, one.1, λ also is. same_area first ram room one.0 also w one.1 is)
