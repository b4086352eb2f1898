use Rattle.dvg_calls_6502.proofs.CallAnswers.{offer_answers, open_answers, redraw_answers}
use Rattle.dvg_calls_6502.proofs.answers.Goals as goal

pub returns : goal.returns
returns c = record { offer = offer_answers; opens = open_answers; redraw = redraw_answers }
