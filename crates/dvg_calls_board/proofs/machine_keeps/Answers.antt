use Rattle.dvg_calls_board.proofs.Machine.{legal, headline, accepted, memory, done, shared, finds, answers}
use Rattle.dvg_calls_board.proofs.machine_keeps.Goals as goal

pub returns : goal.returns
returns c = record {
  legal = legal;
  headline = headline;
  accepted = accepted;
  memory = memory;
  done = done;
  shared = shared;
  finds = finds;
  answers = answers;
}
