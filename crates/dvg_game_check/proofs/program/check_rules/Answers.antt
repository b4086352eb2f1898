use Rattle.dvg_game_check.specs.Rules.{notes_in}
use Rattle.dvg_game_check.proofs.program.check_rules.Goals as goal

pub returns-in-Err : goal.returns-in-Err
returns-in-Err c =
    (λ f start h. c.in-Err.ensures.0 f start (notes_in c.args.notes.now) h, c.in-Err.ensures.1 c.args.notes.now)
