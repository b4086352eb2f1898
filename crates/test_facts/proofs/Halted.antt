-- A dump whose word zero is a HALT.
use Rattle.std.proofs.Common.{◌≡◌, ℕ, List, [], ◌∷◌, Option, Some, refl, ap, lit<, lit≤}
use Rattle.std.specs.Prelude.{Result, Ok, Err, IfOk}
use Rattle.dvg_code.specs.declared.instr.Instr.TheVariants.{Halt}
use Rattle.dvg_code.specs.Spelling.{halt}
use Rattle.dvg_gen.specs.Run.{Visit, one, begins, fetches}
use Rattle.dvg_dump.specs.declared.ending.Ending.{Ending}
use Rattle.dvg_dump.specs.Endings.{end_of}
use Rattle.dvg_dump.specs.Ends.{End, Complete, Ends, halts, DrawsNoStroke, drawn_by}
use Rattle.dvg_dump.specs.Laws.{OneEnd}

abbrev first_halt : Visit
first_halt = record { place = 0; code = Halt }

halts_first : (memory : ℕ → Option ℕ) → memory 0 ≡ Some 0xB000 → Ends memory (first_halt ∷ []) (Complete 1 [])
halts_first memory there = halts (fetches begins refl there (one (halt (lit≤ tt) (lit< tt)))) (lit≤ tt) refl

-- its run ends at once
pub only_halt : OneEnd → (memory : ℕ → Option ℕ) → memory 0 ≡ Some 0xB000 → (visits : List Visit) (end : End) → Ends memory visits end
    → (visits ≡ first_halt ∷ []) × (end ≡ Complete 1 [])
only_halt law memory there visits end ends = law.1 memory visits (first_halt ∷ []) end (Complete 1 []) ends (halts_first memory there)

-- and draws nothing
pub draws_none : OneEnd → (memory : ℕ → Option ℕ) → memory 0 ≡ Some 0xB000 → DrawsNoStroke memory
draws_none law memory there visits end ends = ap drawn_by (only_halt law memory there visits end ends).0

-- so is an end that is answered
pub end_is : {A E : Type 0} → OneEnd → (memory : ℕ → Option ℕ) → memory 0 ≡ Some 0xB000 → (result : Result (Ending A) E)
    → IfOk result (λ ending. (visits : List Visit) × Ends memory visits (end_of ending)) → IfOk result (λ ending. end_of ending ≡ Complete 1 [])
end_is law memory there (Ok ending) is = (only_halt law memory there is.0 (end_of ending) is.1).1
end_is law memory there (Err refused) is = tt
