use Rattle.dvg_calls_cells.proofs.CellsLeaveBoard.{nmi, own}
use Rattle.dvg_calls_cells.proofs.own_is_quiet.Goals as goal

pub returns : goal.returns
returns c = record { own = own; nmi = nmi }
