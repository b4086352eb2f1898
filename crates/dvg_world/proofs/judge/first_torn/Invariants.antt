use Rattle.std.proofs.Common.{map}
use Rattle.dvg_log.specs.Events.{happening_of}
use Rattle.dvg_world.proofs.Judging.{IsJudged}
use Rattle.dvg_world.proofs.judge.first_torn.Given as goal

abbrev pub invariant-loop-number : goal.invariant-loop-number
invariant-loop-number g l = IsJudged (map happening_of l.events) l.entries l.number l.judge
