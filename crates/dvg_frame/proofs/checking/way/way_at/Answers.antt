use Rattle.dvg_frame.proofs.FaultsAtPlaces.{in_list, stands_there}
use Rattle.dvg_frame.proofs.Sizes.{read_op}
use Rattle.dvg_frame.proofs.checking.way.way_at.Goals as goal

pub returns-in-InFrame : goal.returns-in-InFrame
returns-in-InFrame g c =
    let within = in_list _ _ _ _ _ c.requires.inside c.in-InFrame.is c.from.ensures in
    let op = read_op _ _ _ within c.index-draft-from.is in
    stands_there _ _ _ _ _ _ _ _ c.in-InFrame.is c.from.ensures op c.kind.ensures.value c.way_of_op.ensures
