-- One run of the generator: its instructions, newest first, and where they lead.
use Rattle.std.specs.Prelude.{◌≡◌, ℕ, zero, suc, ◌+◌, ◌%◌, List, [], ◌∷◌, ◌++◌, Option, Some, None, if◌then◌else◌, ◌==◌}
use Rattle.dvg_code.specs.declared.instr.Instr.{Instr}
use Rattle.dvg_code.specs.Acts.{Act, Moves, Jumps, Calls, Returns, Halts, act_of}
use Rattle.dvg_code.specs.Spelling.{IsFirst, Spells, word_count}
use Rattle.dvg_gen.specs.declared.beam.Beam.{Beam}
use Rattle.dvg_gen.specs.declared.stroke.Stroke.{Stroke}
use Rattle.dvg_gen.specs.declared.taken.GenFault.{GenFault}
use Rattle.dvg_gen.specs.declared.taken.GenFault.TheVariants.{StackOver, StackUnder}
use Rattle.dvg_gen.specs.Drawing.{moved, drawn}

-- an instruction of a run, and the address of its first word
pub record Visit : Type 0 where
  pub place : ℕ
  pub code : Instr

-- the address this many words on; after FFF comes 000
abbrev pub on : ℕ → ℕ → ℕ
on place count = (place + count) % 4096

-- reading back past one instruction, where this many returns still want a call: a call that none wants is the one
abbrev pub back_over : Act ℕ → ℕ → ℕ → (ℕ → ℕ) → ℕ
back_over (Calls to) zero place older = on place 1
back_over (Calls to) (suc wanting) place older = older wanting
back_over Returns wanting place older = older (suc wanting)
back_over _ wanting place older = older wanting

-- one past the latest call that is still open, where this many returns after it still want a call of their own
abbrev pub past_call : ℕ → List Visit → ℕ
past_call wanting [] = 0
past_call wanting (visit ∷ older) = back_over (act_of visit.code) wanting visit.place (λ n. past_call n older)

-- where the newest instruction leads: a return to one past the call that it answers
abbrev pub led : Act ℕ → Visit → List Visit → ℕ
led (Moves code) visit older = on visit.place (word_count code)
led (Jumps to) visit older = to
led (Calls to) visit older = to
led Returns visit older = past_call 0 older
led Halts visit older = on visit.place 1

-- the address of the next instruction; a run begins at 000
abbrev pub next : List Visit → ℕ
next [] = 0
next (visit ∷ older) = led (act_of visit.code) visit older

-- the address of the next word: a second word follows the first
abbrev pub wanted : List Visit → Option ℕ → ℕ
wanted visits None = next visits
wanted visits (Some first) = on (next visits) 1

-- an instruction counts as one call or none
abbrev pub call_count : Act ℕ → ℕ
call_count (Calls to) = 1
call_count _ = 0

-- an instruction counts as one return or none
abbrev pub return_count : Act ℕ → ℕ
return_count Returns = 1
return_count _ = 0

-- how many calls these instructions have
abbrev pub calls : List Visit → ℕ
calls [] = 0
calls (visit ∷ older) = call_count (act_of visit.code) + calls older

-- how many returns these instructions have
abbrev pub returns : List Visit → ℕ
returns [] = 0
returns (visit ∷ older) = return_count (act_of visit.code) + returns older

-- what becomes of a run by its newest instruction
pub data Fate : Type 0 where
  Goes : Fate
  Finished : Fate
  Breaks : GenFault → Fate

-- a call breaks the run where four calls are open before it, and a return where none is; HALT ends it
abbrev pub fate_by : Act ℕ → List Visit → Fate
fate_by (Calls to) older = if calls older == returns older + 4 then Breaks StackOver else Goes
fate_by Returns older = if calls older == returns older then Breaks StackUnder else Goes
fate_by Halts older = Finished
fate_by _ older = Goes

-- what becomes of a run with these instructions
abbrev pub fate : List Visit → Fate
fate [] = Goes
fate (visit ∷ older) = fate_by (act_of visit.code) older

-- the beam after these instructions, from the beam before them
abbrev pub beam_after : Beam → List Visit → Beam
beam_after beam [] = beam
beam_after beam (visit ∷ older) = moved (beam_after beam older) visit.code

-- what these instructions drew, in order, from the beam before them
abbrev pub strokes : Beam → List Visit → List Stroke
strokes beam [] = []
strokes beam (visit ∷ older) = strokes beam older ++ drawn (beam_after beam older) visit.code

-- one more word of a run, which may hold a first word: a first word is held, and any other completes an instruction
pub data Adds : List Visit → Option ℕ → ℕ → List Visit → Option ℕ → Type 0 where
  first : {visits : List Visit} {word : ℕ} → IsFirst word → Adds visits None word visits (Some word)
  one : {visits : List Visit} {word : ℕ} {code : Instr} → Spells code (word ∷ [])
      → Adds visits None word (record { place = next visits; code = code } ∷ visits) None
  two : {visits : List Visit} {held word : ℕ} {code : Instr} → Spells code (held ∷ word ∷ [])
      → Adds visits (Some held) word (record { place = next visits; code = code } ∷ visits) None

-- a lawful run of this many words over a memory that does not change
pub data Runs (memory : ℕ → Option ℕ) : ℕ → List Visit → Option ℕ → Type 0 where
  begins : Runs memory 0 [] None
  fetches : {count word : ℕ} {visits visits' : List Visit} {held held' : Option ℕ} → Runs memory count visits held
      → fate visits ≡ Goes
      → memory (wanted visits held) ≡ Some word → Adds visits held word visits' held'
      → Runs memory (suc count) visits' held'
