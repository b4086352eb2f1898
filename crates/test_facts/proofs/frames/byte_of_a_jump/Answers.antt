use Rattle.std.proofs.Common.{◌≡◌, ◌*◌, ◌<◌, Some, sym, subst}
use Rattle.std.specs.Prelude.{slice_get}
use Rattle.dvg_frame.specs.Layout.{size}
use Rattle.test_facts.proofs.Jumping.{bytes_are}
use Rattle.test_facts.proofs.frames.byte_of_a_jump.Goals as goal

pub byte-requires : goal.byte-requires
byte-requires c = subst (λ F. c.args.k < 2 * size F) (sym c.requires.frame) c.requires.number

pub returns : goal.returns
returns c = subst (λ bytes. slice_get bytes c.args.k ≡ Some c.byte.result) (bytes_are c.args.half c.args.frame.now.operations c.requires.frame) c.byte.ensures
