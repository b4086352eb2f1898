use Rattle.dvg_gen.proofs.Inside.{moved_inside, drawn_inside, run_in_range}
use Rattle.dvg_gen.proofs.laws.strokes_in_range.Goals as goal

pub returns-clause-step : goal.returns-clause-step
returns-clause-step c = λ beam code inside range. (moved_inside beam code inside range, drawn_inside beam code inside range)

pub returns-clause-run : goal.returns-clause-run
returns-clause-run c = run_in_range
