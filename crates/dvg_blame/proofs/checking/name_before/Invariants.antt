use Rattle.std.proofs.Common.{◌<◌, All, MatchOption, take}
use Rattle.dvg_blame.specs.Refusals.{IsNameBefore}
use Rattle.dvg_blame.proofs.checking.name_before.Given as goal

abbrev pub invariant-loop-name : goal.invariant-loop-name
invariant-loop-name l = MatchOption l.found (All (λ name. l.address < name.address) (take l.name-index l.names))
    (IsNameBefore (take l.name-index l.names) l.address)
