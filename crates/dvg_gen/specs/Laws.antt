-- Laws of the beam, of runs and of histories.
use Rattle.std.specs.Prelude.{◌≡◌, ℕ, ◌<◌, ℤ, pos, ◌+ℤ◌, ◌*ℤ◌, List, [], ◌∷◌, All, Option, Some, None, true}
use Rattle.dvg_code.specs.declared.instr.Instr.{Instr}
use Rattle.dvg_code.specs.Ranges.{InRange}
use Rattle.dvg_code.specs.Words.{IsWord}
use Rattle.dvg_gen.specs.declared.beam.Beam.{Beam}
use Rattle.dvg_gen.specs.declared.stroke.Stroke.{Stroke}
use Rattle.dvg_gen.specs.Completing.{IsSeen}
use Rattle.dvg_gen.specs.Drawing.{shifted, moved, drawn}
use Rattle.dvg_gen.specs.Moving.{made, moves, seen}
use Rattle.dvg_gen.specs.Counting.{clocked, counters, followed_all}
use Rattle.dvg_gen.specs.declared.counters.Counters.{Counters}
use Rattle.dvg_gen.specs.Position.{IsBeam, IsStroke}
use Rattle.dvg_gen.specs.Returning.{IsAnswered}
use Rattle.dvg_code.specs.Acts.{Calls, Returns, act_of}
use Rattle.dvg_gen.specs.Run.{Visit, on, next, calls, returns, beam_after, strokes, Runs}
use Rattle.dvg_gen.specs.Told.{Told, Start, Reset, Fed, Newest, nothing, Leaves}
use Rattle.dvg_gen.specs.Whole.{Completed}

-- a moved position is the least residue of the sum modulo 2,097,152: it is below it, and whole turns make up the rest
abbrev pub LeastResidue : Type 0
LeastResidue = (x : ℕ) (d : ℤ) (unit : ℕ) → (shifted x d unit < 2097152)
    × ((turns : ℤ) × (pos x +ℤ d *ℤ pos unit ≡ pos (shifted x d unit) +ℤ turns *ℤ pos 2097152))

-- a vector that is seen draws one stroke, of length zero too
abbrev pub SeenDraws : Type 0
SeenDraws = (beam : Beam) (code : Instr) → IsSeen code → (stroke : Stroke) × (drawn beam code ≡ stroke ∷ [])

-- nothing else draws
abbrev pub UnseenDrawsNothing : Type 0
UnseenDrawsNothing = (beam : Beam) (code : Instr) → (IsSeen code → ⊥) → drawn beam code ≡ []

-- an instruction in range moves a beam to a beam, and what it draws is in range
abbrev pub StaysInRange : Type 0
StaysInRange = (beam : Beam) (code : Instr) → IsBeam beam.x beam.y beam.scale → InRange code
    → IsBeam (moved beam code).x (moved beam code).y (moved beam code).scale × All IsStroke (drawn beam code)

-- what the newest run of a history drew is in range
abbrev pub RunInRange : Type 0
RunInRange = (history : List Told) (run : Newest) → Leaves history run → All IsStroke (strokes run.first run.visits)

-- what a generator can be told at a run: a start and a reset always, and a fetch while the run is open
abbrev pub CanBeTold : Newest → Told → Type 0
CanBeTold run Start = Unit {0}
CanBeTold run Reset = Unit {0}
CanBeTold run (Fed None) = run.is_open ≡ true
CanBeTold run (Fed (Some word)) = (run.is_open ≡ true) × IsWord word

-- a history leaves at most one run, and one that leaves a run still leaves one with whatever can be told then
abbrev pub OneRun : Type 0
OneRun = ((history : List Told) (one other : Newest) → Leaves history one → Leaves history other → one ≡ other)
    × ((history : List Told) (run : Newest) (told : Told) → Leaves history run → CanBeTold run told
    → (later : Newest) × Leaves (told ∷ history) later)

-- a memory that does not change has at most one run of a given number of words
abbrev pub OneRunOfMemory : Type 0
OneRunOfMemory = (memory : ℕ → Option ℕ) (count : ℕ) (visits visits' : List Visit) (held held' : Option ℕ)
    → Runs memory count visits held → Runs memory count visits' held' → (visits ≡ visits') × (held ≡ held')

-- a history that leaves a run has a list of all instructions that it completed, and the beam is that of all of them,
-- from 0, 0 with scale 0
abbrev pub BeamOfAll : Type 0
BeamOfAll = ((history : List Told) (run : Newest) → Leaves history run → (all : List Visit) × Completed history all)
    × ((history : List Told) (run : Newest) (all : List Visit) → Leaves history run → Completed history all
    → beam_after run.first run.visits ≡ beam_after nothing.first all)

-- where there are more calls than returns, a return answers a call, and it answers at most one
abbrev pub OneCall : Type 0
OneCall = ((older : List Visit) → returns older < calls older → (call : Visit) × IsAnswered older call)
    × ((older : List Visit) (call other : Visit) → IsAnswered older call → IsAnswered older other → call ≡ other)

-- what a return answers is a call
abbrev pub AnswersACall : Type 0
AnswersACall = (older : List Visit) (call : Visit) → IsAnswered older call → (to : ℕ) × (act_of call.code ≡ Calls to)

-- a return leads to one past the call that it answers
abbrev pub PastTheCall : Type 0
PastTheCall = (back : Visit) (older : List Visit) (call : Visit) → act_of back.code ≡ Returns → IsAnswered older call
    → next (back ∷ older) ≡ on call.place 1

-- the strokes of instructions are what is seen of their moves
abbrev pub StrokesAreSeen : Type 0
StrokesAreSeen = (beam : Beam) (visits : List Visit) → strokes beam visits ≡ seen (moves beam visits)

-- what an instruction in range counts is what its move, from a beam, leads the counters to
abbrev pub CountersOfMoves : Type 0
CountersOfMoves = (old : Counters) (beam : Beam) (address : ℕ) (code : Instr) → IsBeam beam.x beam.y beam.scale
    → InRange code → clocked old beam.scale code ≡ followed_all old (made beam address code)

-- the same of the newest run of a history
abbrev pub CountersOfRun : Type 0
CountersOfRun = (history : List Told) (run : Newest) (old : Counters) → Leaves history run
    → counters run.first old run.visits ≡ followed_all old (moves run.first run.visits)
