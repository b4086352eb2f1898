use Rattle.dvg_device.proofs.StateParts.{can_be_saved}
use Rattle.dvg_device.proofs.lone.state.Goals as goal

pub returns-clause-saved : goal.returns-clause-saved
returns-clause-saved c = λ history low after.
    let state = c.state-state in
    can_be_saved c.args.generator.now state.result history low state.ensures.machine
    state.ensures.valid c.is_saved.ensures.four c.is_saved.ensures.byte after
