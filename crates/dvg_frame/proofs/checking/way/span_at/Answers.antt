use Rattle.std.proofs.Common.{◌+◌, refl}
use Rattle.dvg_frame.specs.Steps.{op_act}
use Rattle.dvg_frame.specs.own.Ways.{way}
use Rattle.dvg_frame.specs.declared.place.Place.TheVariants.{InFrame}
use Rattle.dvg_frame.proofs.FaultsAtPlaces.{in_list, stands_there}
use Rattle.dvg_frame.proofs.Sizes.{read_op}
use Rattle.dvg_frame.proofs.checking.way.span_at.Goals as goal

pub returns-in-InFrame : goal.returns-in-InFrame
returns-in-InFrame g c =
    let seen = way (op_act c.kind.result) (InFrame (c.in-InFrame.i + 1)) in
    let within = in_list _ _ _ _ _ c.requires.inside c.in-InFrame.is c.from.ensures in
    let op = read_op _ _ _ within c.index-draft-from.is in
    let so = stands_there _ _ _ _ _ _ _ seen c.in-InFrame.is c.from.ensures op c.kind.ensures.value refl in
    (seen, so, c.span_of_op.ensures _)
