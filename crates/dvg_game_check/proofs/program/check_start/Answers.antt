use Rattle.std.proofs.Common.{sym, ◌∙◌}
use Rattle.dvg_game_check.proofs.Accepted.{no_driver, no_way}
use Rattle.dvg_game_check.proofs.program.check_start.Goals as goal

pub returns-then-not-has_driver : goal.returns-then-not-has_driver
returns-then-not-has_driver c = (
  λ f start notes h. no_driver f start notes (sym (c.has_driver.ensures f h) ∙ c.if-not-has_driver.true),
  λ notes f h. sym (c.has_driver.ensures f h) ∙ c.if-not-has_driver.true,
)

pub returns-in-Err : goal.returns-in-Err
returns-in-Err c = (λ f start notes h. no_way f start notes (c.in-Err.ensures f start h), λ notes. c.in-Err.ensures)
