-- What is answered of the end of a run.
use Rattle.dvg_dump.specs.declared.ending.Outcome.{Outcome}
use Rattle.dvg_dump.specs.declared.ending.Outcome.TheVariants as outcomes
use Rattle.dvg_dump.specs.declared.ending.Ending.{Ending}
use Rattle.dvg_dump.specs.declared.ending.Ending.TheVariants as endings
use Rattle.dvg_dump.specs.Ends.{End, Complete, Broken, Endless}

-- what an end is called
abbrev pub outcome_of : End → Outcome
outcome_of (Complete words drew) = outcomes.Picture
outcome_of (Broken address fault) = outcomes.Broke
outcome_of Endless = outcomes.Endless

-- the end that is answered
abbrev pub end_of : {A : Type 0} → Ending A → End
end_of (endings.Finished words strokes) = Complete words strokes.items
end_of (endings.Broke address fault) = Broken address fault
end_of endings.Endless = Endless
