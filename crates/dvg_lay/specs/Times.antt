-- How long the generator of the arcade emulator takes for a picture. Nothing is said of real hardware.
use Rattle.std.specs.Prelude.{◌≡◌, ℕ, suc, ◌+◌, ◌*◌, ◌%◌, ◌/◌, List, [], ◌∷◌, ◌++◌}
use Rattle.std.specs.Prelude.{Option, Some, None, codes, decimal}
use Rattle.dvg_code.specs.declared.instr.Instr.{Instr}
use Rattle.dvg_code.specs.declared.instr.Instr.TheVariants.{Vctr, Svec}
use Rattle.dvg_mem.specs.declared.half.Half.TheVariants.{H0}
use Rattle.dvg_gen.specs.Drawing.{unit}
use Rattle.dvg_gen.specs.Run.{Visit, Finished, Runs, beam_after, fate}
use Rattle.dvg_gen.specs.Told.{nothing}
use Rattle.dvg_frame.specs.declared.op.OpKind.{OpKind}
use Rattle.dvg_theorem.specs.Law.{HasFrame}
use Rattle.dvg_lay.specs.declared.time.PictureTime.{PictureTime}
use Rattle.dvg_lay.specs.declared.time.Spent.{Spent}

-- the local scale of a vector; none of another instruction
abbrev pub local_scale : Instr → Option ℕ
local_scale (Vctr scale dx dy z) = Some scale
local_scale (Svec scale dx dy z) = Some scale
local_scale _ = None

-- how long a vector takes at these two scales together, in 189ths of a microsecond: 4 microseconds, and at an effective
-- scale s of 0 to 9 also 2 ^ (s + 1) * 8 / 12.096 of them, which are 2 ^ s * 250 parts
abbrev pub vector_parts : ℕ → ℕ
vector_parts scales = 250 * unit (scales % 16) + 756

-- with an instruction more, at a global scale and its local one: a vector, or another one, which takes 4 microseconds
abbrev pub with_one : Spent → ℕ → Option ℕ → Spent
with_one spent global (Some local) = record {
  vectors = suc spent.vectors;
  others = spent.others;
  parts = spent.parts + vector_parts (global + local);
}
with_one spent global None =
    record { vectors = spent.vectors; others = suc spent.others; parts = spent.parts + 756 }

-- what no instruction takes
abbrev pub nothing_spent : Spent
nothing_spent = record { vectors = 0; others = 0; parts = 0 }

-- what the instructions of a first run take, each at the global scale that those before it left
abbrev pub spent_by : List Visit → Spent
spent_by [] = nothing_spent
spent_by (visit ∷ older) =
    with_one (spent_by older) (beam_after nothing.first older).scale (local_scale visit.code)

-- what is told of it: whole microseconds, the nearest ones
abbrev pub told : Spent → PictureTime
told spent = record {
  vectors = spent.vectors;
  others = spent.others;
  microseconds = (spent.parts + 94) / 189;
}

-- this is the time of a frame's picture: each run that ends in HALT takes it, over each memory that has the frame in
-- half 0 and the words of the ROM
abbrev pub IsTimeOf : List OpKind → (R : List ℕ) → PictureTime → Type 0
IsTimeOf F R time = (memory : ℕ → Option ℕ) (words : ℕ) (visits : List Visit) → HasFrame memory H0 F R
    → Runs memory words visits None → fate visits ≡ Finished → time ≡ told (spent_by visits)

-- the text of a time
abbrev pub time_text : PictureTime → List ℕ
time_text time = codes ", " ++ decimal time.vectors ++ codes " vectors, " ++ decimal time.others
    ++ codes " other instructions, " ++ decimal time.microseconds ++ codes " microseconds in the emulator"
