-- Which instruction a fetched word completes.
use Rattle.std.specs.Prelude.{ℕ, ◌≤◌, [], ◌∷◌, Option, Some, None}
use Rattle.dvg_code.specs.declared.instr.Instr.{Instr}
use Rattle.dvg_code.specs.declared.instr.Instr.TheVariants.{Vctr, Svec}
use Rattle.dvg_code.specs.Spelling.{Spells}
use Rattle.dvg_gen.specs.Bytes.{Met, Whole}

-- a word completes an instruction: it spells it, after the first word that is held, if any
abbrev pub Completes : Option ℕ → ℕ → Instr → Type 0
Completes None word code = Spells code (word ∷ [])
Completes (Some first) word code = Spells code (first ∷ word ∷ [])

-- a vector that is seen: its intensity is at least 1
abbrev pub IsSeen : Instr → Type 0
IsSeen (Vctr scale dx dy z) = 1 ≤ z
IsSeen (Svec scale dx dy z) = 1 ≤ z
IsSeen _ = ⊥

-- a fetch draws nothing: what it met completes no vector that is seen
abbrev pub DrawsNothing : Option ℕ → Met → Type 0
DrawsNothing held (Whole (Some word)) = (code : Instr) → Completes held word code → IsSeen code → ⊥
DrawsNothing held _ = Unit {0}
