-- A generator whose stack wraps, as hardware goes on: four registers in a circle, and no fault of the stack.
use Rattle.std.specs.Prelude.{◌≡◌, ℕ, ◌+◌, ◌<◌, List, [], ◌∷◌, ◌++◌, take, drop, slice_index, length, Option, Some, None, All}
use Rattle.std.specs.Prelude.{Bool, true, false, nat_le, nat_lt, ◌&&◌, if◌then◌else◌}
use Rattle.dvg_gen.specs.declared.taken.GenFault.{GenFault}
use Rattle.dvg_gen.specs.Bytes.{Met, Waits, Whole}
use Rattle.dvg_gen.specs.Machine.{Machine, HasTaken}
use Rattle.dvg_gen.specs.Run.{Breaks, beam_after, fate, on, strokes, wanted}
use Rattle.dvg_gen.specs.Told.{Told, Start, Reset, Fed, Newest, Leaves, Reply, reply}

-- a call or a return, which is a word alone: C000 to DFFF
abbrev pub is_turn : Option ℕ → ℕ → Bool
is_turn None word = nat_le 0xC000 word && nat_lt word 0xE000
is_turn (Some first) word = false

-- the call or the return that was met
abbrev pub turn_of : Option ℕ → Met → Option ℕ
turn_of held (Whole (Some word)) = if is_turn held word then Some word else None
turn_of held _ = None

-- the jump that is taken in its place: of a call to where it calls, of a return to the first register
abbrev pub jump_of : List ℕ → ℕ → ℕ
jump_of registers word = if nat_lt word 0xD000 then word + 0x2000 else 0xE000 + slice_index registers 0

-- the registers after it, the next word of which is at this address: a call writes the address into the last one, which
-- is the first then; after a return the first one is the last
abbrev pub turned : List ℕ → ℕ → ℕ → List ℕ
turned registers back word = if nat_lt word 0xD000 then back ∷ take 3 registers else drop 1 registers ++ take 1 registers

-- what a generator is told where its stack wraps, for what it would be told, and the registers after that: a jump in the
-- place of each call and each return
pub data Wraps : List Told → List Told → List ℕ → Type 0 where
  new : Wraps [] [] (0 ∷ 0 ∷ 0 ∷ 0 ∷ [])
  starts : {history told : List Told} {registers : List ℕ} → Wraps history told registers
      → Wraps (Start ∷ history) (Start ∷ told) registers
  resets : {history told : List Told} {registers : List ℕ} → Wraps history told registers
      → Wraps (Reset ∷ history) (Reset ∷ told) registers
  meets_hole : {history told : List Told} {registers : List ℕ} → Wraps history told registers
      → Wraps (Fed None ∷ history) (Fed None ∷ told) registers
  takes : {history told : List Told} {registers : List ℕ} {run : Newest} {word : ℕ} → Wraps history told registers
      → Leaves told run → is_turn run.held word ≡ false
      → Wraps (Fed (Some word) ∷ history) (Fed (Some word) ∷ told) registers
  turns : {history told : List Told} {registers : List ℕ} {run : Newest} {word : ℕ} → Wraps history told registers
      → Leaves told run → is_turn run.held word ≡ true
      → Wraps (Fed (Some word) ∷ history) (Fed (Some (jump_of registers word)) ∷ told)
      (turned registers (on (wanted run.visits run.held) 1) word)

-- what contracts see of a wrapping generator: the generator in it, and the four registers, the newest address first
pub record Wrapped : Type 0 where
  pub machine : Machine
  pub registers : List ℕ

-- there are four registers of twelve bits
pub record AreRegisters (registers : List ℕ) : Type 0 where
  pub four : length registers ≡ 4
  pub addresses : All (λ address. address < 4096) registers

-- it stands after a history and a low byte: the generator in it stands after what it was told for that
pub record HasWrapped (wrapped : Wrapped) (history : List Told) (waiting : Option ℕ) : Type 0 where
  pub told : List Told
  pub wraps : Wraps history told wrapped.registers
  pub after : HasTaken wrapped.machine told waiting

-- it stands after a history and one more fetch, which met this, with the answer that the definition gives to it
abbrev pub AnswersWrapped : List Told → Met → Wrapped → Option Reply → Type 0
AnswersWrapped history (Waits byte) wrapped answer = HasWrapped wrapped history (Some byte) × (answer ≡ None)
AnswersWrapped history (Whole word) wrapped answer = (stands : HasWrapped wrapped (Fed word ∷ history) None)
    × (answer ≡ Some (reply word stands.after.run))

-- no call and no return breaks a run where the stack wraps
abbrev pub WrapsUnbroken : Type 0
WrapsUnbroken = (history told : List Told) (registers : List ℕ) (run : Newest) (fault : GenFault)
    → Wraps history told registers → Leaves told run → fate run.visits ≡ Breaks fault → ⊥

-- two runs want, hold and drew the same, and have come to the same
pub record IsAlike (run other : Newest) : Type 0 where
  pub is_open : other.is_open ≡ run.is_open
  pub held : other.held ≡ run.held
  pub wanted : wanted other.visits other.held ≡ wanted run.visits run.held
  pub fate : fate other.visits ≡ fate run.visits
  pub beam : beam_after other.first other.visits ≡ beam_after run.first run.visits
  pub strokes : strokes other.first other.visits ≡ strokes run.first run.visits

-- a run that neither a fifth call nor a return without a call broke is alike where the stack wraps,
-- whatever broke the runs before it
abbrev pub WrapsAlike : Type 0
WrapsAlike = (history told : List Told) (registers : List ℕ) (run other : Newest) → Leaves history run
    → Wraps history told registers → Leaves told other → ((fault : GenFault) → fate run.visits ≡ Breaks fault → ⊥)
    → IsAlike run other
