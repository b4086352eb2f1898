use Rattle.std.proofs.Common.{◌-◌, length, reverse, ap, ◌∙◌, arith, slice_get}
use Rattle.dvg_gen.specs.Saved.{machine_of}
use Rattle.dvg_device.specs.States.{drawing_parts}
use Rattle.dvg_device.proofs.StateParts.{address_part, later_part}
use Rattle.dvg_device.proofs.lone.part.Goals as goal

pub returns-then-i-returns : goal.returns-then-i-returns
returns-then-i-returns c =
    let machine = machine_of c.args.state.now c.args.generator.now.strokes c.args.generator.now.picture in
    let some = c.if-i-eq0.false in
    address_part machine c.as_slice-addresses.result.now c.args.i (ap reverse c.as_slice-addresses.ensures.value)
    (omega (arith, some)) c.if-i-returns.true

pub returns-else-i-returns : goal.returns-else-i-returns
returns-else-i-returns c =
    let machine = machine_of c.args.state.now c.args.generator.now.strokes c.args.generator.now.picture in
    let past = c.if-i-returns.false in
    c.drawing_part.ensures
    ∙ ap (λ m. slice_get (drawing_parts m) (c.args.i - 1 - length c.as_slice-addresses.result.now)) c.requires
    ∙ later_part machine c.as_slice-addresses.result.now c.args.i (ap reverse c.as_slice-addresses.ensures.value) (omega (arith, past))
