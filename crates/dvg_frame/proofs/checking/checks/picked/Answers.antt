use Rattle.dvg_frame.proofs.Firsts.{closed_by, refuses_by}
use Rattle.dvg_frame.proofs.checking.checks.picked.Goals as goal

pub returns-in-Some : goal.returns-in-Some
returns-in-Some g c = refuses_by _ _ _ c.requires.begins c.in-Some.ensures

pub returns-in-None : goal.returns-in-None
returns-in-None g c = (closed_by _ _ c.requires.begins c.in-None.ensures, c.requires.refused c.in-None.ensures)
