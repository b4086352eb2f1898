use Rattle.std.proofs.Common.{◌≡◌, ◌++◌, take}
use Rattle.dvg_named.specs.OpSources.{op_sources}
use Rattle.dvg_named.proofs.joining.push_sources.Given as goal

abbrev pub invariant-loop-place : goal.invariant-loop-place
invariant-loop-place g l =
    l.sources.items ≡ l.initial.sources.items ++ op_sources (take l.place l.frame.rows.now) l.frame.sources.now
