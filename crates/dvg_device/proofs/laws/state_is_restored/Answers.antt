use Rattle.dvg_device.proofs.Restored.{all_suit, goes_on, resumed, resumed_wrapping}
use Rattle.dvg_device.proofs.laws.state_is_restored.Goals as goal

pub returns-clause-suits : goal.returns-clause-suits
returns-clause-suits c = all_suit

pub returns-clause-restored : goal.returns-clause-restored
returns-clause-restored c = resumed

pub returns-clause-goes_on : goal.returns-clause-goes_on
returns-clause-goes_on c = goes_on

pub returns-clause-wrapping : goal.returns-clause-wrapping
returns-clause-wrapping c = resumed_wrapping
