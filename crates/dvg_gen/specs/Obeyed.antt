-- How the generator's fields follow an instruction: the words of private contracts.
use Rattle.std.specs.Prelude.{◌≡◌, ℕ, List, [], ◌++◌, length, slice_index, None, true, false}
use Rattle.dvg_code.specs.declared.instr.Instr.{Instr}
use Rattle.dvg_code.specs.declared.instr.Instr.TheVariants.{Vctr, Labs, Halt, Jsrl, Rtsl, Jmpl, Svec}
use Rattle.dvg_gen.specs.declared.taken.GenFault.TheVariants.{StackOver, StackUnder, Hole}
use Rattle.dvg_gen.specs.declared.taken.Step.{Step}
use Rattle.dvg_gen.specs.declared.taken.Step.TheVariants.{Low, Word, Done, Broke}
use Rattle.dvg_gen.specs.Drawing.{moved, drawn}
use Rattle.dvg_gen.specs.Machine.{Machine}
use Rattle.dvg_code.specs.Acts.{Act, Moves, Jumps, Calls, Returns, Halts, act_of}
use Rattle.dvg_gen.specs.Run.{on}
use Rattle.dvg_gen.specs.Stacks.{stack_by, CanGo}

-- a LABS
abbrev pub IsLabs : Instr → Type 0
IsLabs (Vctr scale dx dy z) = ⊥
IsLabs (Labs x y scale) = Unit {0}
IsLabs Halt = ⊥
IsLabs (Jsrl address) = ⊥
IsLabs Rtsl = ⊥
IsLabs (Jmpl address) = ⊥
IsLabs (Svec scale dx dy z) = ⊥

-- where an instruction leads, by the address of its last word
abbrev pub past : Act ℕ → ℕ → List ℕ → ℕ
past (Moves code) at stack = on at 1
past (Jumps to) at stack = to
past (Calls to) at stack = to
past Returns at stack = slice_index stack 0
past Halts at stack = on at 1

-- the machine after an instruction that it goes on from
abbrev pub gone : Machine → Instr → Machine
gone machine code = record {
  at = past (act_of code) machine.at machine.stack;
  held = None;
  low = None;
  stack = stack_by (act_of code) machine.at machine.stack;
  beam = moved machine.beam code;
  strokes = machine.strokes ++ drawn machine.beam code;
  picture = machine.picture;
  is_open = true;
}

-- the run is over, no low byte waits, and the beam stays
abbrev pub IsShut : Machine → Machine → Type 0
IsShut old new = (new.is_open ≡ false) × (new.low ≡ None) × (new.beam ≡ old.beam)

-- what an instruction does, by the step that it led to
abbrev pub Obeyed : Machine → Instr → Machine → Step → Type 0
Obeyed old code new Low = ⊥
Obeyed old code new Word = CanGo (act_of code) old.stack × (new ≡ gone old code)
Obeyed old code new Done = (code ≡ Halt) × IsShut old new × (new.picture ≡ old.strokes) × (new.strokes ≡ [])
Obeyed old code new (Broke StackOver) = ((to : ℕ) × (code ≡ Jsrl to)) × (length old.stack ≡ 4) × IsShut old new
    × (new.picture ≡ old.picture)
Obeyed old code new (Broke StackUnder) = (code ≡ Rtsl) × (old.stack ≡ []) × IsShut old new
    × (new.picture ≡ old.picture)
Obeyed old code new (Broke Hole) = ⊥
