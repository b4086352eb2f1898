-- Frames that a program builds, by dvg_open, dvg_put, dvg_pair, dvg_labs, dvg_vector and dvg_close.
use Rattle.std.specs.Prelude.{◌≡◌, ◌≢◌, ℕ, suc, ◌+◌, ◌-◌, ◌*◌, ◌%◌, ◌<◌, ◌≤◌, Bool, true, false, not, List, [], ◌∷◌}
use Rattle.std.specs.Prelude.{◌++◌, length, ◌⊎◌, ◌||◌, ◌&&◌, All, Some, ◌/◌, nat_eq}
use Rattle.dvg_code.specs.declared.instr.Instr.TheVariants.{Labs}
use Rattle.dvg_code.specs.Acts.{Moves, act_of}
use Rattle.dvg_frame.specs.declared.op.OpKind.{OpKind}
use Rattle.dvg_frame.specs.declared.op.OpKind.TheVariants.{Draw, CallRom, Halt as Stop}
use Rattle.dvg_frame.specs.Layout.{size}
use Rattle.dvg_frame.specs.Faults.{Accepts}
use Rattle.dvg_mem.specs.declared.half.Half.{Half}
use Rattle.dvg_mem.specs.Areas.{base, other, high}
use Rattle.dvg_driver.specs.declared.action.Action.TheVariants.{Wrote}
use Rattle.dvg_driver.specs.Script.{Item, Did, word_zero}
use Rattle.dvg_driver.specs.Place.{Resting, Writing, place_of_life}
use Rattle.dvg_frame.specs.Bytes.{addressed}
use Rattle.dvg_calls_6502.specs.Amid.{ComesOut, guards, is_kept, is_work}
use Rattle.dvg_calls_6502.specs.Calls.{AreShown}
use Rattle.dvg_calls_6502.specs.Processor.{Cpu, Access, Writes, run, at_return, stack_place}
use Rattle.dvg_calls_6502.specs.Code.{dvg_ticks, dvg_tick, dvg_run, dvg_open, dvg_put, dvg_pair, dvg_labs, dvg_vector, dvg_close}
use Rattle.dvg_calls_6502.specs.Board.{IsLoaded, seen, is_own, is_ram, phase_in, free_in, publish_in, place_in, pages_in}
use Rattle.dvg_calls_6502.specs.Board.{goal_in}
use Rattle.dvg_calls_6502.specs.Holds.{Holds, publish_byte}
use Rattle.dvg_calls_6502.specs.Routines.{Enters, Part, Vector, begins, put_by}
pub use Rattle.dvg_game_words.specs.Tables.{calls_one}

-- a frame is being built, of which these bytes are to come; the HALT's are the last ones
pub record IsBuilding (mem : ℕ → ℕ) (half : Half) (flipped : Bool) (rest : List ℕ) : Type 0 where
  pub phase : phase_in mem ≡ 7
  pub free : free_in mem ≡ high (other half)
  pub publish : publish_in mem ≡ publish_byte flipped
  pub low : mem 0x14 ≡ 0
  pub page : 256 * mem 0x15 + 2 ≡ 0x4000 + 2 * base (other half) + 256 * pages_in mem
  pub even : place_in mem % 2 ≡ 0
  pub begun : 2 ≤ 256 * pages_in mem + place_in mem
  pub some : 2 ≤ length rest
  pub fits : 256 * pages_in mem + place_in mem + length rest ≤ 1024

-- bytes that are written from an address on; the newest one is the first of the log
abbrev pub written : ℕ → List ℕ → List Access
written a [] = []
written a (byte ∷ bytes) = written (suc a) bytes ++ Writes a byte ∷ []

-- of dvg_y, dvg_x, left and length, what a call from this entry may change: dvg_put and dvg_pair nothing, dvg_labs the
-- high bytes of dvg_y and dvg_x
abbrev pub is_changed : (entry b : ℕ) → Bool
is_changed entry b =
    (nat_eq entry dvg_labs && (nat_eq b 0x1C || nat_eq b 0x1E)) || (nat_eq entry dvg_vector && is_work b)

-- but for the driver's bytes, these, and the vector RAM, memory is as it was
abbrev pub Spares : (changed : ℕ → Bool) (before now : ℕ → ℕ) → Type 0
Spares changed before now =
    (b : ℕ) → is_own b ≡ false → changed b ≡ false → is_ram b ≡ false → now b ≡ before b

-- the call returns with C clear and S as it was, it has written these bytes where the frame goes on, and these are left;
-- it spares all else; the same amid others, and what else they leave alone is as without them
pub record Builds (cpu : Cpu) (half : Half) (flipped : Bool) (now rest : List ℕ) : Type 0 where
  pub steps : ℕ
  pub returns : at_return cpu.s (run cpu.s steps cpu) ≡ true
  pub carry : (run cpu.s steps cpu).c ≡ false
  pub shows : seen (run cpu.s steps cpu).log ≡ written (goal_in cpu.mem) now
  pub goes_on : goal_in (run cpu.s steps cpu).mem ≡ goal_in cpu.mem + length now
  pub building : IsBuilding (run cpu.s steps cpu).mem half flipped rest
  pub loaded : IsLoaded (run cpu.s steps cpu).mem
  pub kept : Spares (is_changed cpu.pc) cpu.mem (run cpu.s steps cpu).mem
  pub alike : (also : ℕ → Bool) → ComesOut (guards (is_kept also) cpu.s) cpu

-- where a frame is being built, dvg_put puts the word of A and X, if there is room for it and the HALT
abbrev pub PutTakes : Type 0
PutTakes = (cpu : Cpu) (half : Half) (flipped : Bool) (rest : List ℕ) → Enters cpu dvg_put
    → IsBuilding cpu.mem half flipped (cpu.a ∷ cpu.x ∷ rest) → 2 ≤ length rest
    → Builds cpu half flipped (cpu.a ∷ cpu.x ∷ []) rest

-- dvg_pair puts the two words of dvg_y and dvg_x
abbrev pub PairTakes : Type 0
PairTakes = (cpu : Cpu) (half : Half) (flipped : Bool) (rest : List ℕ) → Enters cpu dvg_pair
    → let now = cpu.mem 0x1B ∷ cpu.mem 0x1C ∷ cpu.mem 0x1D ∷ cpu.mem 0x1E ∷ [] in
    IsBuilding cpu.mem half flipped (now ++ rest) → 2 ≤ length rest → Builds cpu half flipped now rest

-- dvg_labs puts a LABS by the low 12 bits of dvg_x and dvg_y; A is 16 times the scale
abbrev pub LabsTakes : Type 0
LabsTakes = (cpu : Cpu) (half : Half) (flipped : Bool) (rest : List ℕ) → Enters cpu dvg_labs
    → let now = cpu.mem 0x1B ∷ (0xA0 + cpu.mem 0x1C % 16) ∷ cpu.mem 0x1D ∷ (16 * (cpu.a / 16) + cpu.mem 0x1E % 16) ∷ [] in
    IsBuilding cpu.mem half flipped (now ++ rest) → 2 ≤ length rest → Builds cpu half flipped now rest

-- dvg_vector puts the vector of dvg_x and dvg_y, each of -1023 to 1023; A is 16 times the scale, of 0 to 9, and the intensity
abbrev pub VectorTakes : Type 0
VectorTakes = (cpu : Cpu) (half : Half) (flipped : Bool) (rest : List ℕ) → Enters cpu dvg_vector
    → let now = put_by Vector cpu in
    1 ≤ length now → IsBuilding cpu.mem half flipped (now ++ rest) → 2 ≤ length rest → Builds cpu half flipped now rest

-- the call returns with C set and S as it was, touches no hardware, and leaves memory as it was, but for what it may
-- change; the same amid others, and what else they leave alone is as without them
pub record IsRefused (cpu : Cpu) : Type 0 where
  pub steps : ℕ
  pub returns : at_return cpu.s (run cpu.s steps cpu) ≡ true
  pub carry : (run cpu.s steps cpu).c ≡ true
  pub shows : seen (run cpu.s steps cpu).log ≡ []
  pub kept : (b : ℕ) → is_changed cpu.pc b ≡ false → (run cpu.s steps cpu).mem b ≡ cpu.mem b
  pub alike : (also : ℕ → Bool) → ComesOut (guards (is_kept also) cpu.s) cpu

-- there is no room for so many bytes and the HALT
abbrev pub HasNoRoom : (ℕ → ℕ) → ℕ → Type 0
HasNoRoom mem count = (half : Half) × (flipped : Bool) × (rest : List ℕ) × IsBuilding mem half flipped rest
    × (1022 < 256 * pages_in mem + place_in mem + count)

-- where no frame is being built, or there is no room, dvg_put, dvg_pair, dvg_labs and dvg_vector are refused
abbrev pub PutsRefuse : Type 0
PutsRefuse = (part : Part) (cpu : Cpu) → Enters cpu (begins part)
    → (nat_eq (phase_in cpu.mem) 7 ≡ false) ⊎ HasNoRoom cpu.mem (length (put_by part cpu)) → IsRefused cpu

-- where the driver doesn't rest, dvg_open is refused
abbrev pub OpenRefuses : Type 0
OpenRefuses = (cpu : Cpu) → Enters cpu dvg_open → nat_eq (phase_in cpu.mem) 2 ≡ false → IsRefused cpu

-- where no frame is being built, dvg_close is refused
abbrev pub CloseRefuses : Type 0
CloseRefuses = (cpu : Cpu) → Enters cpu dvg_close → nat_eq (phase_in cpu.mem) 7 ≡ false → IsRefused cpu

-- where there is no such vector, no frame is being built, or there is no room, dvg_vector is refused
abbrev pub VectorRefuses : Type 0
VectorRefuses = (cpu : Cpu) → Enters cpu dvg_vector
    → (put_by Vector cpu ≡ []) ⊎ ((nat_eq (phase_in cpu.mem) 7 ≡ false) ⊎ HasNoRoom cpu.mem (length (put_by Vector cpu)))
    → IsRefused cpu

-- the call returns with C clear and S as it was, and touches no hardware; a frame of these bytes is
-- begun in the free half; memory is as it was but for the driver's bytes. The same holds amid
-- others, and what else they leave alone is as without them
pub record Opens (cpu : Cpu) (half : Half) (flipped : Bool) (rest : List ℕ) : Type 0 where
  pub steps : ℕ
  pub returns : at_return cpu.s (run cpu.s steps cpu) ≡ true
  pub carry : (run cpu.s steps cpu).c ≡ false
  pub shows : seen (run cpu.s steps cpu).log ≡ []
  pub begins : goal_in (run cpu.s steps cpu).mem ≡ 0x4000 + 2 * base (other half)
  pub building : IsBuilding (run cpu.s steps cpu).mem half flipped rest
  pub loaded : IsLoaded (run cpu.s steps cpu).mem
  pub kept : (b : ℕ) → is_own b ≡ false → (run cpu.s steps cpu).mem b ≡ cpu.mem b
  pub alike : (also : ℕ → Bool) → ComesOut (guards (is_kept also) cpu.s) cpu

-- where the driver rests, dvg_open begins a frame, whatever it will be: at most 510 words and the HALT
abbrev pub OpenTakes : Type 0
OpenTakes = (cpu : Cpu) (begin stop : ℕ) (half : Half) (flipped first : Bool) (rest : List ℕ) → Enters cpu dvg_open
    → Holds cpu.mem begin stop (record { place = Resting first; half = half; flipped = flipped })
    → 2 ≤ length rest → length rest ≤ 1022 → Opens cpu half flipped rest

-- the call returns with C clear and S as it was, it has written the HALT, and word zero is to come; it spares all else;
-- the same amid others, and what else they leave alone is as without them
pub record Closes (cpu : Cpu) (half : Half) (flipped : Bool) : Type 0 where
  pub steps : ℕ
  pub returns : at_return cpu.s (run cpu.s steps cpu) ≡ true
  pub carry : (run cpu.s steps cpu).c ≡ false
  pub shows : seen (run cpu.s steps cpu).log ≡ written (goal_in cpu.mem) (0 ∷ 0xB0 ∷ [])
  pub holds : (begin stop : ℕ) → Holds (run cpu.s steps cpu).mem begin stop
      (record { place = Writing (word_zero (other half) (not flipped)); half = half; flipped = flipped })
  pub loaded : IsLoaded (run cpu.s steps cpu).mem
  pub kept : Spares (λ b. false) cpu.mem (run cpu.s steps cpu).mem
  pub alike : (also : ℕ → Bool) → ComesOut (guards (is_kept also) cpu.s) cpu

-- dvg_close ends the frame, of which the HALT alone is to come
abbrev pub CloseTakes : Type 0
CloseTakes = (cpu : Cpu) (half : Half) (flipped : Bool) → Enters cpu dvg_close
    → IsBuilding cpu.mem half flipped (0 ∷ 0xB0 ∷ []) → Closes cpu half flipped

-- a call that changes nothing: it returns with S as it was, touches no hardware, and leaves memory
-- as it was. The same holds amid others
pub record Idles (cpu : Cpu) : Type 0 where
  pub steps : ℕ
  pub returns : at_return cpu.s (run cpu.s steps cpu) ≡ true
  pub shows : seen (run cpu.s steps cpu).log ≡ []
  pub kept : (run cpu.s steps cpu).mem ≡ cpu.mem
  pub alike : (also : ℕ → Bool) → ComesOut (guards (is_kept also) cpu.s) cpu

-- where the driver rests, and while a frame is being built, a tick changes nothing
abbrev pub IdleTicks : Type 0
IdleTicks = (cpu : Cpu) → Enters cpu dvg_tick → (phase_in cpu.mem ≡ 2) ⊎ (phase_in cpu.mem ≡ 7) → Idles cpu

-- there a call of dvg_run returns at once, and changes nothing either
abbrev pub RunReturns : Type 0
RunReturns = (cpu : Cpu) → Enters cpu dvg_run → (phase_in cpu.mem ≡ 2) ⊎ (phase_in cpu.mem ≡ 7)
    → (did : Idles cpu) × (did.steps ≤ 6)

-- ticks that change nothing: the call returns with S as it was, touches no hardware, and leaves memory as it was, but for
-- its count, which is 0, and two bytes of the stack below S
pub record IdlesAll (cpu : Cpu) : Type 0 where
  pub steps : ℕ
  pub returns : at_return cpu.s (run cpu.s steps cpu) ≡ true
  pub shows : seen (run cpu.s steps cpu).log ≡ []
  pub count : (run cpu.s steps cpu).mem 0x1F ≡ 0
  pub kept : (b : ℕ) → b ≢ 0x1F → b ≢ stack_place cpu.s → b ≢ stack_place (cpu.s + 255)
      → (run cpu.s steps cpu).mem b ≡ cpu.mem b

-- so dvg_ticks does nothing there
abbrev pub IdleTicksAll : Type 0
IdleTicksAll = (cpu : Cpu) → Enters cpu dvg_ticks → (phase_in cpu.mem ≡ 2) ⊎ (phase_in cpu.mem ≡ 7) → IdlesAll cpu

-- an operation that a program puts: a vector or a LABS, or a call of a shape whose frame the check accepts
abbrev pub IsPut : List ℕ → OpKind → Type 0
IsPut R (Draw instr) = act_of instr ≡ Moves instr
IsPut R (CallRom a) = Accepts (calls_one a) R
IsPut R op = ⊥

-- what a program may build: a LABS, then what it may put, then the HALT, of at most 511 words
abbrev pub IsBuilt : List ℕ → List OpKind → Type 0
IsBuilt R F = (x y scale : ℕ) × (ops : List OpKind) × (F ≡ Draw (Labs x y scale) ∷ ops ++ Stop ∷ [])
    × All (IsPut R) ops × (size F ≤ 511)

-- the check accepts a LABS, then what a program may put, then the HALT
abbrev pub BuiltAccepted : Type 0
BuiltAccepted = (R : List ℕ) (x y scale : ℕ) (ops : List OpKind) → All (IsPut R) ops
    → let F = Draw (Labs x y scale) ∷ ops ++ Stop ∷ [] in size F ≤ 511 → Accepts F R

-- the items of these writes, the newest one first
abbrev pub put_items : ℕ → List ℕ → List Item
put_items a [] = []
put_items a (byte ∷ bytes) = put_items (suc a) bytes ++ Did (Wrote (a - 0x4000) byte) ∷ []

-- where these bytes and then word zero are to come, what is put is shown by the script's next writes, and leads to where
-- the rest is to come
abbrev pub BuildsScript : Type 0
BuildsScript = (a : ℕ) (now rest : List ℕ) (half : Half) (first : Bool) (life : List Item) → 0x4002 ≤ a
    → place_of_life life ≡ Some (Writing (addressed (a - 0x4000) (now ++ rest) ++ word_zero half first))
    → AreShown (put_items a now) (written a now)
    × (place_of_life (put_items a now ++ life)
    ≡ Some (Writing (addressed (a + length now - 0x4000) rest ++ word_zero half first)))
