-- The stack of a run, instruction by instruction: the words of lemmas on runs.
use Rattle.std.specs.Prelude.{ℕ, ◌<◌, List, [], ◌∷◌, length, slice_index}
use Rattle.dvg_code.specs.Spelling.{word_count}
use Rattle.dvg_code.specs.Acts.{Act, Moves, Jumps, Calls, Returns, Halts}
use Rattle.dvg_gen.specs.Run.{on}

-- the stack after an instruction at a place
abbrev pub stack_by : Act ℕ → ℕ → List ℕ → List ℕ
stack_by (Moves code) place stack = stack
stack_by (Jumps to) place stack = stack
stack_by (Calls to) place stack = on place 1 ∷ stack
stack_by Returns place [] = []
stack_by Returns place (back ∷ stack) = stack
stack_by Halts place stack = stack

-- where an instruction at a place leads
abbrev pub to_of : Act ℕ → ℕ → List ℕ → ℕ
to_of (Moves code) place stack = on place (word_count code)
to_of (Jumps to) place stack = to
to_of (Calls to) place stack = to
to_of Returns place stack = slice_index stack 0
to_of Halts place stack = on place 1

-- an instruction after which the run goes on
abbrev pub CanGo : Act ℕ → List ℕ → Type 0
CanGo (Moves code) stack = Unit {0}
CanGo (Jumps to) stack = Unit {0}
CanGo (Calls to) stack = length stack < 4
CanGo Returns stack = 0 < length stack
CanGo Halts stack = ⊥
