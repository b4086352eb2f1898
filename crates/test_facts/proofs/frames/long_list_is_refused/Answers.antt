use Rattle.std.proofs.Common.{arith, sym, ◌∙◌}
use Rattle.dvg_frame.proofs.Sizes.{length-le-size}
use Rattle.test_facts.proofs.Refused.{long_refused}
use Rattle.test_facts.proofs.frames.long_list_is_refused.Goals as goal

pub returns-in-Ok : goal.returns-in-Ok
returns-in-Ok c =
    let long = length-le-size c.args.ops.now in
    let refused = long_refused c.args.ops.now c.args.rom.now c.check.result c.requires.labs (omega (arith, c.requires.long)) c.check.ensures in
    let same = sym c.in-Ok.is ∙ refused in
    absurd (cc)

pub returns-in_default : goal.returns-in_default
returns-in_default c =
    let long = length-le-size c.args.ops.now in
    let refused = long_refused c.args.ops.now c.args.rom.now c.check.result c.requires.labs (omega (arith, c.requires.long)) c.check.ensures in
    let same = sym c.in-Err.is ∙ refused in
    absurd (c.in_default.not-TooLong (cc))
