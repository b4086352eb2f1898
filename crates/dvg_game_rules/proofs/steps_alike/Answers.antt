use Rattle.dvg_game_rules.proofs.StepsByKind.{steps_alike, interrupts_alike}
use Rattle.dvg_game_rules.proofs.steps_alike.Goals as goal

pub returns : goal.returns
returns c = record { steps = steps_alike; interrupts = interrupts_alike }
