use Rattle.dvg_calls_board.proofs.Example as example
use Rattle.dvg_calls_board.proofs.some_machine.Goals as goal

pub returns : goal.returns
returns c = record { offers = example.some_machine; builds = example.some_builder }
