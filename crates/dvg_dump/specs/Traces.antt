-- What is recorded of the instructions of a run.
use Rattle.std.specs.Prelude.{ℕ, List, [], ◌∷◌, ◌++◌, Option, Some, None, Bool, true, false, ◌&&◌, nat_eq, slice_get}
use Rattle.dvg_code.specs.declared.instr.Instr.{Instr}
use Rattle.dvg_code.specs.Spelling.{canon}
use Rattle.dvg_gen.specs.declared.beam.Beam.{Beam}
use Rattle.dvg_gen.specs.Drawing.{moved, drawn}
use Rattle.dvg_gen.specs.Run.{Visit, on, beam_after}
use Rattle.dvg_gen.specs.Told.{nothing}
use Rattle.dvg_dump.specs.declared.ran.Ran.{Ran}

-- a memory answers this word
abbrev pub is_word : Option ℕ → ℕ → Bool
is_word None word = false
is_word (Some found) word = nat_eq word found

-- these words stand at an address and on
abbrev pub stand_at : (ℕ → Option ℕ) → ℕ → List ℕ → Bool
stand_at memory address [] = true
stand_at memory address (word ∷ words) = is_word (memory address) word && stand_at memory (on address 1) words

-- an instruction at an address, whose words are canonical or not, that was run from this beam: with the beam after it,
-- and its stroke, if it drew one
abbrev pub run_at : ℕ → Instr → Bool → Beam → Ran
run_at address code canonical before = record {
  address = address;
  code = code;
  canonical = canonical;
  beam = moved before code;
  stroke = slice_get (drawn before code) 0;
}

-- an instruction of a run over a memory, from the beam before it: it is canonical if the memory has
-- its canonical words at its place
abbrev pub ran_of : (ℕ → Option ℕ) → Beam → Visit → Ran
ran_of memory before visit = run_at visit.place visit.code (stand_at memory visit.place (canon visit.code)) before

-- the instructions of a first run, in the order in which they were run
abbrev pub trace : (ℕ → Option ℕ) → List Visit → List Ran
trace memory [] = []
trace memory (visit ∷ older) = trace memory older ++ ran_of memory (beam_after nothing.first older) visit ∷ []

-- with them, or without
abbrev pub trace_if : Bool → (ℕ → Option ℕ) → List Visit → List Ran
trace_if true memory visits = trace memory visits
trace_if false memory visits = []
