-- A run that is followed for its time alone: the words of private contracts.
use Rattle.std.specs.Prelude.{◌≡◌, ℕ, List, [], length, Option, None, Bool, true, false}
use Rattle.dvg_code.specs.Acts.{Act, Calls, Returns, Halts, act_of}
use Rattle.dvg_code.specs.declared.instr.Instr.{Instr}
use Rattle.dvg_code.specs.declared.instr.Instr.TheVariants.{Labs}
use Rattle.dvg_gen.specs.Obeyed.{past}
use Rattle.dvg_gen.specs.Run.{Visit}
use Rattle.dvg_gen.specs.Stacks.{CanGo, stack_by}
use Rattle.dvg_dump.specs.Ends.{End, Ends}
use Rattle.dvg_lay.specs.declared.time.PictureTime.{PictureTime}
use Rattle.dvg_lay.specs.Times.{spent_by, told}

-- where a run is: the address of the next word, the first word of its instruction where that was fetched, the return
-- addresses, newest first, and the global scale
pub record Footing : Type 0 where
  pub at : ℕ
  pub held : Option ℕ
  pub stack : List ℕ
  pub scale : ℕ

-- where a new generator is once it is started
abbrev pub at_first : Footing
at_first = record { at = 0; held = None; stack = []; scale = 0 }

-- the global scale after an instruction
abbrev pub scale_after : ℕ → Instr → ℕ
scale_after scale (Labs x y given) = given
scale_after scale _ = scale

-- after an instruction that the run goes on from
abbrev pub gone : Footing → Instr → Footing
gone old code = record {
  at = past (act_of code) old.at old.stack;
  held = None;
  stack = stack_by (act_of code) old.at old.stack;
  scale = scale_after old.scale code;
}

-- an instruction that ends a run with these return addresses: HALT, a fifth call, or a return without a call
abbrev pub EndsRun : Act ℕ → List ℕ → Type 0
EndsRun Halts stack = Unit {0}
EndsRun (Calls to) stack = length stack ≡ 4
EndsRun Returns stack = stack ≡ []
EndsRun _ stack = ⊥

-- what an instruction does, by whether the run goes on
abbrev pub Does : Footing → Instr → Footing → Bool → Type 0
Does old code new true = CanGo (act_of code) old.stack × (new ≡ gone old code)
Does old code new false = EndsRun (act_of code) old.stack

-- the instructions of the run over a memory take this time
abbrev pub IsRunTime : (ℕ → Option ℕ) → PictureTime → Type 0
IsRunTime memory time = (visits : List Visit) × (end : End) × Ends memory visits end × (time ≡ told (spent_by visits))
