-- A 6502 that runs a game: where it goes, where it writes, and which registers it saves. What it
-- computes, reads and decides may be anything.
--
-- The board doesn't decode A15, so 8000 to FFFF is 0000 to 7FFF: the vectors are at 7FFA to 7FFD.
use Rattle.std.specs.Prelude.{false, true, ◌≡◌, ℕ, suc, ◌+◌, ◌-◌, ◌*◌, ◌/◌, ◌%◌, ◌≤◌, ◌<◌, ◌&&◌, ◌||◌, Bool, not}
use Rattle.std.specs.Prelude.{nat_eq}
use Rattle.std.specs.Prelude.{nat_le}
use Rattle.std.specs.Prelude.{nat_lt, if◌then◌else◌, Option, None, Some, List, [], ◌∷◌}
use Rattle.dvg_game_words.specs.Code.{dvg_reset, dvg_open, dvg_labs}
use Rattle.dvg_game_words.specs.Board.{is_readable}
use Rattle.dvg_game_words.specs.Processor.{Register, A, X, Y, put, stack_place, target}
use Rattle.dvg_game_words.specs.Kinds.{Sets, Nothing, Only, Kind, Quiet, Reads, Transfer, Stores, Push}
use Rattle.dvg_game_words.specs.Kinds.{PushFlags, Pull, PullFlags, Branch, Jump, Call, Return, Finish, Wild, kind_of}
use Rattle.dvg_game_words.specs.Kinds.{Place, ZeroPage, ZeroPageIndexed, Absolute, AbsoluteIndexed, size}

-- where the ROM has the addresses of the NMI's routine and of the reset's
abbrev pub nmi_vector : ℕ
nmi_vector = 0x7FFA

abbrev pub reset_vector : ℕ
reset_vector = 0x7FFC

-- memory has the bytes of the ROM, the vector ROM's page among them
abbrev pub IsLoaded : (rom mem : ℕ → ℕ) → Type 0
IsLoaded rom mem = (b : ℕ) → 0x4800 ≤ b → b < 0x8000 → mem b ≡ rom b

-- PC, S, the flags and the registers where an NMI comes
pub record Came : Type 0 where
  pub pc : ℕ
  pub s : ℕ
  pub p : ℕ
  pub a : ℕ
  pub x : ℕ
  pub y : ℕ

-- the state: the fields up to `mem` are the processor's, and the others are a record of its run. Of
-- those only `home`, where an NMI amid the driver leads back to, decides what its next step does
pub record State : Type 0 where
  pub a : ℕ
  pub x : ℕ
  pub y : ℕ
  pub pc : ℕ
  pub s : ℕ
  pub mem : ℕ → ℕ
  -- how many instructions came since the last NMI
  pub since : ℕ
  -- where the open calls return to, the newest first
  pub calls : List ℕ
  -- amid an NMI: what it came upon
  pub amid : Option Came
  -- and where the game goes on, PC and S, if that NMI came amid a call of the driver
  pub home : Option (ℕ × ℕ)
  -- dvg_reset was called, and since then the game wrote none of the driver's bytes but dvg_y and dvg_x
  pub awake : Bool
  -- since dvg_open no dvg_labs was called
  pub blank : Bool

-- what is left open: what an instruction computes or reads into a register, what X or Y hold at a
-- store, what is stored or pushed, whether a branch is taken, what the driver and NMIs amid it
-- leave of registers and memory, and how many instructions came since the last of these NMIs
pub record Choice : Type 0 where
  pub a : ℕ
  pub x : ℕ
  pub y : ℕ
  pub index : ℕ
  pub byte : ℕ
  pub taken : Bool
  pub left : ℕ → ℕ
  pub since : ℕ
  -- where in the driver an NMI comes, and how many bytes the call has pushed there
  pub place : ℕ
  pub deep : ℕ

abbrev pub word_at : (ℕ → ℕ) → ℕ → ℕ
word_at mem a = mem a + 256 * mem (a + 1)

-- where a store writes
abbrev pub address : Place → (mem : ℕ → ℕ) → (pc index : ℕ) → ℕ
address ZeroPage mem pc index = mem (pc + 1)
address ZeroPageIndexed mem pc index = (mem (pc + 1) + index) % 256
address Absolute mem pc index = word_at mem (pc + 1)
address AbsoluteIndexed mem pc index = (word_at mem (pc + 1) + index % 256) % 65536

-- the driver's bytes, without dvg_y and dvg_x
abbrev pub is_operand : ℕ → Bool
is_operand b = nat_le 0x1B b && nat_lt b 0x1F

abbrev pub is_own : ℕ → Bool
is_own b = (nat_le 0x10 b && nat_lt b 0x21) && not (is_operand b)

-- the driver's code, and its reset
abbrev pub is_driver : ℕ → Bool
is_driver a = nat_le 0x6800 a && nat_lt a 0x6A87

abbrev pub is_reset : ℕ → Bool
is_reset a = nat_eq a dvg_reset

-- what a call of the driver leaves as it is, with NMIs amid it: ROM, and the stack above S
abbrev pub is_kept : ℕ → ℕ → Bool
is_kept s b = (nat_le 0x4800 b && nat_lt b 0x8000) || (nat_lt (0x100 + s % 256) b && nat_lt b 0x200)

abbrev pub left_by : ℕ → (left mem : ℕ → ℕ) → ℕ → ℕ
left_by s left mem b = if is_kept s b then mem b else left b

-- a frame that is being built may have nothing in it: after dvg_open, up to dvg_labs
abbrev pub blank_after : ℕ → Bool → Bool
blank_after entry old =
    if nat_eq entry dvg_open then true else if nat_eq entry dvg_labs || is_reset entry then false else old

-- the driver does a call, and returns
abbrev pub driven : (entry : ℕ) → Choice → State → State
driven entry choice st = record st {
  mem = left_by st.s choice.left st.mem;
  since = choice.since;
  awake = is_reset entry || st.awake;
  blank = blank_after entry st.blank;
  a = choice.a;
  x = choice.x;
  y = choice.y;
}

-- where a return leads
abbrev pub back_of : State → ℕ
back_of st = (st.mem (stack_place (st.s + 1)) + 256 * st.mem (stack_place (st.s + 2)) + 1) % 65536

abbrev pub rest_of : List ℕ → List ℕ
rest_of [] = []
rest_of (back ∷ backs) = backs

abbrev pub returned : State → State
returned st = record st { pc = back_of st; s = (st.s + 2) % 256; calls = rest_of st.calls }

-- a word is pushed, the high byte first
abbrev pub pushed : (word s : ℕ) → (ℕ → ℕ) → ℕ → ℕ
pushed word s mem = put (stack_place (s + 255)) (word % 256) (put (stack_place s) (word / 256) mem)

abbrev pub called : ℕ → State → State
called to st = record st {
  pc = to;
  s = (st.s + 254) % 256;
  mem = pushed (st.pc + 2) st.s st.mem;
  calls = (st.pc + 3) ∷ st.calls;
}

-- where an RTI leads
abbrev pub resumed_at : State → ℕ
resumed_at st = st.mem (stack_place (st.s + 2)) + 256 * st.mem (stack_place (st.s + 3))

abbrev pub of_register : Register → State → ℕ
of_register A st = st.a
of_register X st = st.x
of_register Y st = st.y

abbrev pub moved : Register → ℕ → State → State
moved A byte st = record st { a = byte }
moved X byte st = record st { x = byte }
moved Y byte st = record st { y = byte }

-- a register is set, to anything
abbrev pub setting : Sets → Choice → State → State
setting Nothing choice st = st
setting (Only A) choice st = record st { a = choice.a }
setting (Only X) choice st = record st { x = choice.x }
setting (Only Y) choice st = record st { y = choice.y }

-- an NMI amid a call of the driver leads back into it: there the state is that at the call
abbrev pub goes_home : Option (ℕ × ℕ) → State → State
goes_home None st = st
goes_home (Some place) st = record st { pc = place.0; s = place.1 }

-- what an instruction does
abbrev pub does : Kind → Choice → State → State
does (Quiet sets bytes) choice st = record (setting sets choice st) { pc = st.pc + bytes }
does (Reads sets place) choice st = record (setting sets choice st) { pc = st.pc + size place }
does (Transfer from to) choice st = record (moved to (of_register from st) st) { pc = st.pc + 1 }
does (Stores place) choice st =
    let a = address place st.mem st.pc choice.index in
    record st { pc = st.pc + size place; mem = put a choice.byte st.mem; awake = st.awake && not (is_own a) }
does Push choice st = record st { pc = st.pc + 1; s = (st.s + 255) % 256; mem = put (stack_place st.s) st.a st.mem }
does PushFlags choice st =
    record st { pc = st.pc + 1; s = (st.s + 255) % 256; mem = put (stack_place st.s) choice.byte st.mem }
does Pull choice st = record st { pc = st.pc + 1; s = (st.s + 1) % 256; a = st.mem (stack_place (st.s + 1)) }
does PullFlags choice st = record st { pc = st.pc + 1; s = (st.s + 1) % 256 }
does Branch choice st = record st { pc = if choice.taken then target st.pc (st.mem (st.pc + 1)) else st.pc + 2 }
does Jump choice st =
    let to = word_at st.mem (st.pc + 1) in
    if is_driver to then returned (driven to choice st) else record st { pc = to }
does Call choice st =
    let to = word_at st.mem (st.pc + 1) in
    if is_driver to then record (driven to choice st) { pc = st.pc + 3 } else called to st
does Return choice st = returned st
does Finish choice st =
    goes_home st.home (record st { pc = resumed_at st; s = (st.s + 3) % 256; amid = None; home = None })
does Wild choice st = record st { pc = choice.byte; s = choice.index; mem = choice.left }

abbrev pub step : Choice → State → State
step choice st = let one = record st { since = suc st.since } in does (kind_of (st.mem st.pc)) choice one

-- an NMI comes: it pushes PC and P, and goes by the vector
abbrev pub interrupted : Choice → State → State
interrupted choice st = record st {
  pc = word_at st.mem nmi_vector;
  s = (st.s + 253) % 256;
  mem = put (stack_place (st.s + 254)) choice.byte (put (stack_place (st.s + 255)) (st.pc % 256)
      (put (stack_place st.s) (st.pc / 256) st.mem));
  since = 0;
  amid = Some (record { pc = st.pc; s = st.s; p = choice.byte; a = st.a; x = st.x; y = st.y });
}

-- the next instruction jumps to where the reset's vector leads
abbrev pub restarting : Kind → State → Bool
restarting Jump st = nat_eq (word_at st.mem (st.pc + 1)) (word_at st.mem reset_vector)
restarting kind st = false

abbrev pub restarts : State → Bool
restarts st = restarting (kind_of (st.mem st.pc)) st

-- the driver is called next
abbrev pub calling : Kind → State → Bool
calling Jump st = is_driver (word_at st.mem (st.pc + 1))
calling Call st = is_driver (word_at st.mem (st.pc + 1))
calling kind st = false

abbrev pub calls_driver : State → Bool
calls_driver st = calling (kind_of (st.mem st.pc)) st && not (restarts st)

-- the state amid a call of the driver, before an NMI: at this place, with this many bytes pushed
abbrev pub within : Choice → State → State
within choice st = record st {
  pc = choice.place;
  s = st.s - choice.deep;
  mem = left_by st.s choice.left st.mem;
  a = choice.a;
  x = choice.x;
  y = choice.y;
  home = Some (st.pc, st.s);
}

-- an address where a pin answers and nothing keeps a byte: switches, coins, sounds, exchanged RAM,
-- the strobe. It is any but those of the zero page, the stack, the vector RAM, the flag and the ROM
abbrev pub is_outside : ℕ → Bool
is_outside b = nat_le 0x200 b && not (is_readable b || (nat_le 0x4800 b && nat_lt b 0x8000))

-- the two memories differ only at addresses that are outside
abbrev pub IsTurned : (old new : ℕ → ℕ) → Type 0
IsTurned old new = (b : ℕ) → is_outside b ≡ false → new b ≡ old b

-- the state after a reset's LDX #$FF and TXS, PC at `start`; of memory only the ROM is known
pub record Begins (rom : ℕ → ℕ) (start : ℕ) (st : State) : Type 0 where
  pub loaded : IsLoaded rom st.mem
  pub entry : st.pc ≡ start
  pub stack : st.s ≡ 255
  pub calls : st.calls ≡ []
  pub amid : st.amid ≡ None
  pub home : st.home ≡ None
  pub blank : st.blank ≡ false

-- the runs of a ROM since a reset: any choices, any answers from outside, and an NMI wherever at least 860 instructions
-- came since the last one. An NMI comes each 6,144 cycles, and no instruction has more than 7.
pub data IsRun (rom : ℕ → ℕ) (start : ℕ) : State → Type 0 where
  begins : (st : State) → Begins rom start st → IsRun rom start st
  steps : {st : State} (choice : Choice) → IsRun rom start st → restarts st ≡ false → IsRun rom start (step choice st)
  -- a jump to the reset: all begins anew
  anew : {st : State} (new : State) → IsRun rom start st → restarts st ≡ true → Begins rom start new
      → IsRun rom start new
  nmi : {st : State} (choice : Choice) → IsRun rom start st → 860 ≤ st.since → IsRun rom start (interrupted choice st)
  -- one amid a call of the driver, which takes four bytes of the stack at most
  nmi_within : {st : State} (choice : Choice) → IsRun rom start st → st.amid ≡ None → calls_driver st ≡ true
      → choice.deep ≤ 4
      → IsRun rom start (interrupted choice (within choice st))
  -- at any time all that is outside turns to anything
  turns : {st : State} (mem : ℕ → ℕ) → IsRun rom start st → IsTurned st.mem mem
      → IsRun rom start (record st { mem = mem })
