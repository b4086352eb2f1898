use Rattle.std.proofs.Common.{ap}
use Rattle.dvg_device.specs.Wrappings.{saved_of}
use Rattle.dvg_device.proofs.StateParts.{can_be_saved_wrapped}
use Rattle.dvg_device.proofs.wrapping.state.Goals as goal

pub returns-clause-saved : goal.returns-clause-saved
returns-clause-saved c = λ history low after.
    let state = c.state-state in
    can_be_saved_wrapped c.args.generator.now state.result history low (ap saved_of state.ensures.machine)
    state.ensures.valid.plain c.is_saved.ensures.four c.is_saved.ensures.byte after
