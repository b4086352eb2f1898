use Rattle.std.proofs.Common.{subst}
use Rattle.dvg_frame.specs.Faults.{IsChecked}
use Rattle.test_facts.proofs.Refused.{empty_refused}
use Rattle.test_facts.proofs.frames.empty_draft_is_refused.Goals as goal

pub returns : goal.returns
returns c = empty_refused c.args.rom.now c.check.result (subst (λ F. IsChecked F c.args.rom.now c.check.result) c.new.ensures c.check.ensures)
