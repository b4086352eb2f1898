use Rattle.dvg_theorem.proofs.Words.{words_are_whole, words_are_paired}
use Rattle.dvg_theorem.proofs.laws.words_are_whole.Goals as goal

pub returns-clause-whole : goal.returns-clause-whole
returns-clause-whole c = words_are_whole

pub returns-clause-paired : goal.returns-clause-paired
returns-clause-paired c = words_are_paired
