use Rattle.std.proofs.lemmas.List.Elements.{All-from_recursion}
use Rattle.dvg_device.specs.Laws.{Fits}
use Rattle.dvg_device.specs.States.{parts_of, word_of}
use Rattle.dvg_device.proofs.Restored.{all_fit}
use Rattle.dvg_device.proofs.PartsInWords.{passed_on, read_again, word_small}
use Rattle.dvg_device.proofs.laws.parts_are_passed_on.Goals as goal

pub returns-clause-read : goal.returns-clause-read
returns-clause-read c = read_again

pub returns-clause-passed : goal.returns-clause-passed
returns-clause-passed c = λ part fits. passed_on (word_of part) (word_small part fits)

pub returns-clause-fit : goal.returns-clause-fit
returns-clause-fit c = λ machine can. All-from_recursion Fits (parts_of machine) (all_fit machine can)
