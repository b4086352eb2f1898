use Rattle.std.proofs.Common.{[], sym, ◌∙◌, subst}
use Rattle.dvg_frame.specs.Faults.{IsChecked}
use Rattle.test_facts.proofs.Refused.{halt_refused}
use Rattle.test_facts.proofs.frames.checker_answers_anew.Goals as goal

pub returns-in_default : goal.returns-in_default
returns-in_default c =
    let refused = halt_refused c.args.rom.now [] c.check-2.result (subst (λ F. IsChecked F c.args.rom.now c.check-2.result) (c.ops.ensures.value ∙ c.requires) c.check-2.ensures) in
    let same = sym c.in-Err.is ∙ refused in
    absurd (c.in_default.not-NoLabs (cc))
