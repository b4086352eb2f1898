-- How faults of the generator are numbered.
use Rattle.std.specs.Prelude.{ℕ}
use Rattle.dvg_gen.specs.declared.taken.GenFault.{GenFault}
use Rattle.dvg_gen.specs.declared.taken.GenFault.TheVariants.{StackOver, StackUnder, Hole}

-- the number of a generator's fault
abbrev pub fault_number : GenFault → ℕ
fault_number StackOver = 1
fault_number StackUnder = 2
fault_number Hole = 3
