use Rattle.dvg_gen.proofs.WrappingStack.{alike, unbroken}
use Rattle.dvg_gen.proofs.laws.wrapping_stack.Goals as goal

pub returns-clause-unbroken : goal.returns-clause-unbroken
returns-clause-unbroken c = unbroken

pub returns-clause-alike : goal.returns-clause-alike
returns-clause-alike c = alike
