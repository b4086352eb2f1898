use Rattle.dvg_named.proofs.WholeTexts.{calls_the_rom, jumps_back, out_of_rom_at_one, overlap_at_four, twice_at_two}
use Rattle.dvg_named.proofs.WholeTexts.{unknown_at_one}
use Rattle.dvg_named.proofs.examples.texts.Goals as goal

pub returns-clause-jump : goal.returns-clause-jump
returns-clause-jump c = jumps_back

pub returns-clause-call : goal.returns-clause-call
returns-clause-call c = calls_the_rom

pub returns-clause-twice : goal.returns-clause-twice
returns-clause-twice c = twice_at_two

pub returns-clause-out : goal.returns-clause-out
returns-clause-out c = out_of_rom_at_one

pub returns-clause-overlap : goal.returns-clause-overlap
returns-clause-overlap c = overlap_at_four

pub returns-clause-unknown : goal.returns-clause-unknown
returns-clause-unknown c = unknown_at_one
