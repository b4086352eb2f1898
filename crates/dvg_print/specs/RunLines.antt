-- The lines that `picture` writes of one run.
use Rattle.std.specs.Prelude.{ℕ, List, [], ◌∷◌, ◌++◌, Bool, codes, decimal}
use Rattle.dvg_code.specs.declared.instr.Instr.{Instr}
use Rattle.dvg_gen.specs.declared.beam.Beam.{Beam}
use Rattle.dvg_gen.specs.declared.moving.Move.{Move}
use Rattle.dvg_gen.specs.declared.taken.GenFault.{GenFault}
use Rattle.dvg_gen.specs.Numbers.{fault_number}
use Rattle.dvg_print.specs.Lines.{hex_3, listed_parts, spaced}

-- where the beam is: its position in 1/512 units, and the global scale
abbrev pub beam_parts : Beam → List (List ℕ)
beam_parts beam = codes "at" ∷ decimal beam.x ∷ decimal beam.y ∷ decimal beam.scale ∷ []

-- the line of an instruction that was run: as it is listed at its address, and the beam after it; 10 is LF
abbrev pub instruction_line : ℕ → Instr → Bool → Beam → List ℕ
instruction_line address instr canonical beam = hex_3 address
    ++ spaced (listed_parts instr canonical ++ beam_parts beam) ++ 10 ∷ []

-- the line of a move: the address of its instruction, from where to where, and the intensity
abbrev pub move_line : Move → List ℕ
move_line move = hex_3 move.address
    ++ spaced (decimal move.x0 ∷ decimal move.y0 ∷ decimal move.x1 ∷ decimal move.y1 ∷ decimal move.z ∷ []) ++ 10 ∷ []

-- the line of a run that broke: the address of the fetch, and the fault's number
abbrev pub broke_line : ℕ → GenFault → List ℕ
broke_line address fault = codes "broke" ++ spaced (hex_3 address ∷ decimal (fault_number fault) ∷ []) ++ 10 ∷ []

-- the line of a run that has no end
abbrev pub endless_line : List ℕ
endless_line = codes "endless" ++ 10 ∷ []
