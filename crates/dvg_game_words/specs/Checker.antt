-- The checker: it looks at each address by itself, with a note of what is to hold there. Nobody has to trust the notes.
use Rattle.std.specs.Prelude.{ℕ, zero, suc, ◌+◌, ◌-◌, ◌%◌, ◌&&◌, ◌||◌, Bool, true, false, not, nat_eq, nat_le}
use Rattle.std.specs.Prelude.{nat_lt, if◌then◌else◌, Option, None, Some, List, [], ◌∷◌}
use Rattle.dvg_game_words.specs.Code.{code, dvg_reset, dvg_run, dvg_ticks, dvg_tick, dvg_offer, dvg_open, dvg_redraw}
use Rattle.dvg_game_words.specs.Code.{dvg_put, dvg_labs, dvg_pair, dvg_close, dvg_vector}
use Rattle.dvg_game_words.specs.Processor.{Register, A, X, Y, target}
use Rattle.dvg_game_words.specs.Kinds.{Sets, Nothing, Only, Kind, Quiet, Reads, Transfer, Stores, Push}
use Rattle.dvg_game_words.specs.Kinds.{PushFlags, Pull, PullFlags, Branch, Jump, Call, Return, Finish, Wild, kind_of}
use Rattle.dvg_game_words.specs.Kinds.{Place, ZeroPage, ZeroPageIndexed, Absolute, AbsoluteIndexed, size}
use Rattle.dvg_game_words.specs.Machine.{blank_after, word_at, is_operand, is_own, is_driver, is_reset, nmi_vector}
use Rattle.dvg_game_words.specs.Machine.{reset_vector}

-- code of the program, of a subroutine, and of the NMI
pub data Level : Type 0 where
  Main : Level
  Sub : Level
  Nmi : Level

-- what a byte is known to be: what A, X or Y was where the NMI came
pub data Slot : Type 0 where
  Any : Slot
  Was : Register → Slot

-- what A, X and Y hold
pub record Held : Type 0 where
  pub a : Slot
  pub x : Slot
  pub y : Slot

-- what holds at an instruction
pub record Note : Type 0 where
  pub level : Level
  -- how many bytes were pushed since the level began
  pub depth : ℕ
  -- of the NMI: what A, X and Y hold, and the bytes that were pushed last, the newest first
  pub held : Held
  pub slots : List Slot
  -- how many it may still push, with all that it calls
  pub room : ℕ
  -- how many instructions the NMI may still do
  pub fuel : ℕ
  -- dvg_reset was called
  pub awake : Bool
  -- a frame may be blank, here and where it returns
  pub blank : Bool
  pub ends : Bool

abbrev pub Notes : Type 0
Notes = ℕ → Option Note

-- where a game's code may stand: behind the driver's, and before the vectors
abbrev pub first : ℕ
first = 0x6A87

unfoldable pub places : ℕ
places = 5491

abbrev pub is_code : ℕ → Bool
is_code a = nat_le first a && nat_lt a (first + places)

-- the note of a place in the program's ROM
abbrev pub noted : Notes → ℕ → Option Note
noted notes at = if is_code at then notes at else None

-- what the NMI may push, with its own three bytes
abbrev pub spare : ℕ
spare = 32

-- how many instructions the NMI may do
abbrev pub most : ℕ
most = 800

abbrev pub same_level : Level → Level → Bool
same_level Main Main = true
same_level Sub Sub = true
same_level Nmi Nmi = true
same_level one other = false

abbrev pub all_under : ℕ → (ℕ → Bool) → Bool
all_under zero p = true
all_under (suc n) p = p n && all_under n p

abbrev pub implies : Bool → Bool → Bool
implies one other = not one || other

abbrev pub same_register : Register → Register → Bool
same_register A A = true
same_register X X = true
same_register Y Y = true
same_register one other = false

-- the second slot, which is known, is as the first one asks; `Any` asks for nothing
abbrev pub serves : Slot → Slot → Bool
serves Any known = true
serves (Was one) (Was other) = same_register one other
serves (Was one) Any = false

abbrev pub serve : List Slot → List Slot → Bool
serve [] known = true
serve (one ∷ more) [] = false
serve (one ∷ more) (known ∷ others) = serves one known && serve more others

abbrev pub all_serve : Held → Held → Bool
all_serve one known = serves one.a known.a && (serves one.x known.x && serves one.y known.y)

abbrev pub of_held : Register → Held → Slot
of_held A held = held.a
of_held X held = held.x
of_held Y held = held.y

-- a register holds something else
abbrev pub holding : Register → Slot → Held → Held
holding A slot held = record held { a = slot }
holding X slot held = record held { x = slot }
holding Y slot held = record held { y = slot }

abbrev pub set : Sets → Held → Held
set Nothing held = held
set (Only register) held = holding register Any held

abbrev pub newest : List Slot → Slot
newest [] = Any
newest (slot ∷ slots) = slot

abbrev pub older : List Slot → List Slot
older [] = []
older (slot ∷ slots) = slots

-- A, X and Y hold what they did where the NMI came
abbrev pub unchanged : Held
unchanged = record { a = Was A; x = Was X; y = Was Y }

-- what is to come is noted here, and the note asks for no more than this one leaves
abbrev pub suits : Note → Option Note → Bool
suits now None = false
suits now (Some new) = same_level new.level now.level && (nat_eq new.depth now.depth && (nat_le new.room now.room
    && (implies (same_level now.level Nmi) (nat_lt new.fuel now.fuel) && (implies new.awake now.awake
    && (all_serve new.held now.held && (serve new.slots now.slots
    && (implies now.blank new.blank && implies new.ends now.ends)))))))

abbrev pub leads : Notes → ℕ → Note → Bool
leads notes to now = suits now (noted notes to)

-- the outputs of the board: lamps, coins and banks, the watchdog, and the sounds
abbrev pub is_output : ℕ → Bool
is_output a = nat_eq a 0x3200 || (nat_eq a 0x3400 || (nat_eq a 0x3600 || (nat_eq a 0x3A00 || (nat_eq a 0x3E00
    || (nat_le 0x3C00 a && nat_lt a 0x3C06)))))

-- an address of the game's own: of its RAM, or of an output
abbrev pub is_free : ℕ → Bool
is_free a = nat_lt a 0x10 || ((nat_le 0x21 a && nat_lt a 0x100) || ((nat_le 0x200 a && nat_lt a 0x400) || is_output a))

-- where the generator's strobe is, and its mirror: not to be read, either
abbrev pub is_strobe : ℕ → Bool
is_strobe a = nat_le 0x3000 (a % 0x8000) && nat_lt (a % 0x8000) 0x3200

-- where code may write: the NMI at the game's own addresses; a subroutine also at dvg_y and dvg_x;
-- the program outside of subroutines also at the driver's bytes, after which it must call dvg_reset
abbrev pub may_write : Level → ℕ → Bool
may_write Main a = is_free a || (is_operand a || is_own a)
may_write Sub a = is_free a || is_operand a
may_write Nmi a = is_free a

-- this holds of each byte that an instruction may read or write, whatever X and Y are
abbrev pub of_reached : Place → (rom : ℕ → ℕ) → ℕ → (ℕ → Bool) → Bool
of_reached ZeroPage rom at p = p (rom (at + 1))
of_reached ZeroPageIndexed rom at p = all_under 256 p
of_reached Absolute rom at p = p (word_at rom (at + 1))
of_reached AbsoluteIndexed rom at p = all_under 256 (λ k. p ((word_at rom (at + 1) + k) % 65536))

-- the driver's routines that are proved
abbrev pub is_entry : ℕ → Bool
is_entry a = nat_eq a dvg_reset || (nat_eq a dvg_run || (nat_eq a dvg_ticks || (nat_eq a dvg_tick || (nat_eq a dvg_offer
    || (nat_eq a dvg_open || (nat_eq a dvg_redraw || (nat_eq a dvg_put || (nat_eq a dvg_labs || (nat_eq a dvg_pair
    || (nat_eq a dvg_close || nat_eq a dvg_vector))))))))))

-- these go on with a frame, which has to begin with a LABS: dvg_put, dvg_pair, dvg_vector, dvg_close
abbrev pub goes_on : ℕ → Bool
goes_on a = nat_eq a dvg_put || (nat_eq a dvg_pair || (nat_eq a dvg_vector || nat_eq a dvg_close))

-- the driver may be called: at an entry, with room for two return addresses, and not by the NMI; at
-- any but dvg_reset only once dvg_reset was called, and at one of `goes_on` only after dvg_labs
abbrev pub enters : ℕ → Note → Bool
enters to now = is_entry to && (nat_le 4 now.room && (not (same_level now.level Nmi) && ((is_reset to || now.awake)
    && implies (goes_on to) (not now.blank))))

-- whether a frame may be blank where a subroutine returns
abbrev pub ends_of : Option Note → Bool
ends_of None = true
ends_of (Some new) = new.ends

-- a subroutine begins
abbrev pub begun : Bool → Note → Note
begun ends now = record now { level = Sub; depth = 0; room = now.room - 2; slots = []; ends = ends }

-- a byte is pushed, or pulled
abbrev pub pushing : Slot → Note → Note
pushing slot now = record now { depth = now.depth + 1; room = now.room - 1; slots = slot ∷ now.slots }

abbrev pub pulling : Note → Note
pulling now = record now { depth = now.depth - 1; room = now.room + 1; slots = older now.slots }

abbrev pub fine_by : Kind → Notes → (rom : ℕ → ℕ) → ℕ → Note → Bool
fine_by (Quiet sets bytes) notes rom at now = leads notes (at + bytes) (record now { held = set sets now.held })
fine_by (Reads sets place) notes rom at now = of_reached place rom at (λ a. not (is_strobe a))
    && leads notes (at + size place) (record now { held = set sets now.held })
fine_by (Transfer from to) notes rom at now =
    leads notes (at + 1) (record now { held = holding to (of_held from now.held) now.held })
fine_by (Stores place) notes rom at now = of_reached place rom at (may_write now.level) && leads notes (at + size place)
    (record now { awake = now.awake && of_reached place rom at (λ a. not (is_own a)) })
fine_by Push notes rom at now = nat_le 1 now.room && leads notes (at + 1) (pushing now.held.a now)
fine_by PushFlags notes rom at now = nat_le 1 now.room && leads notes (at + 1) (pushing Any now)
fine_by Pull notes rom at now = nat_le 1 now.depth
    && leads notes (at + 1) (record (pulling now) { held = holding A (newest now.slots) now.held })
fine_by PullFlags notes rom at now = nat_le 1 now.depth && leads notes (at + 1) (pulling now)
fine_by Branch notes rom at now = leads notes (target at (rom (at + 1))) now && leads notes (at + 2) now
-- a jump to the driver is a call, and a return; one to the reset begins anew
fine_by Jump notes rom at now =
    let to = word_at rom (at + 1) in
    if nat_eq to (word_at rom reset_vector) then not (same_level now.level Nmi) else if is_driver to then enters to now
    && (same_level now.level Sub && (nat_eq now.depth 0 && implies (blank_after to now.blank) now.ends))
    else leads notes to now
fine_by Call notes rom at now =
    let to = word_at rom (at + 1) in
    if is_driver to then enters to now
    && leads notes (at + 3) (record now { awake = is_reset to || now.awake; blank = blank_after to now.blank })
    else let ends = ends_of (noted notes to) in nat_le 2 now.room && (not (same_level now.level Nmi)
    && (leads notes to (begun ends now) && leads notes (at + 3) (record now { blank = ends })))
fine_by Return notes rom at now =
    same_level now.level Sub && (nat_eq now.depth 0 && implies now.blank now.ends)
fine_by Finish notes rom at now = same_level now.level Nmi && (nat_eq now.depth 0 && all_serve unchanged now.held)
fine_by Wild notes rom at now = false

abbrev pub fine_at : Notes → (rom : ℕ → ℕ) → ℕ → Option Note → Bool
fine_at notes rom at None = true
fine_at notes rom at (Some now) = fine_by (kind_of (rom at)) notes rom at now

-- the note of the program's first instruction, and that of the NMI's
abbrev pub starts : Option Note → Bool
starts None = false
starts (Some now) = same_level now.level Main && (nat_eq now.depth 0
    && (nat_le (now.room + spare) 255 && not now.awake))

abbrev pub interrupts : Option Note → Bool
interrupts None = false
interrupts (Some now) = same_level now.level Nmi && (nat_eq now.depth 0 && (nat_le (now.room + 3) spare
    && (nat_le now.fuel most && (not now.awake && (all_serve now.held unchanged && serve now.slots [])))))

-- the game
abbrev pub accepts_game : (rom : ℕ → ℕ) → (start : ℕ) → Notes → Bool
accepts_game rom start notes = starts (noted notes start) && (interrupts (noted notes (word_at rom nmi_vector))
    && all_under places (λ i. fine_at notes rom (first + i) (noted notes (first + i))))

-- these bytes stand there
abbrev pub stand_at : List ℕ → (rom : ℕ → ℕ) → ℕ → Bool
stand_at [] rom at = true
stand_at (byte ∷ bytes) rom at = nat_eq (rom at) byte && stand_at bytes rom (suc at)

-- what a reset may do first: it stores what the program may write, and sets A, X, Y and flags
abbrev pub may_boot : Kind → (rom : ℕ → ℕ) → ℕ → Bool
may_boot (Quiet sets bytes) rom at = true
may_boot (Reads sets place) rom at = of_reached place rom at (λ a. not (is_strobe a))
may_boot (Stores AbsoluteIndexed) rom at = false
may_boot (Stores place) rom at = of_reached place rom at (may_write Main)
may_boot kind rom at = false

abbrev pub bytes_of : Kind → ℕ
bytes_of (Quiet sets bytes) = bytes
bytes_of (Reads sets place) = size place
bytes_of (Stores place) = size place
bytes_of kind = 0

-- LDX #$FF, TXS
abbrev pub stack_setting : List ℕ
stack_setting = 0xA2 ∷ 0xFF ∷ 0x9A ∷ []

-- from `at` on come fewer than this many such instructions, then LDX #$FF and TXS, then `start`
abbrev pub boots : ℕ → (rom : ℕ → ℕ) → (at start : ℕ) → Bool
boots zero rom at start = false
boots (suc n) rom at start = is_code at && (if stand_at stack_setting rom at then nat_eq start (at + 3)
    else may_boot (kind_of (rom at)) rom at && boots n rom (at + bytes_of (kind_of (rom at))) start)

abbrev pub boot_most : ℕ
boot_most = 32

-- the game, the driver's code at its place, and the reset's way to the start
abbrev pub accepts : (rom : ℕ → ℕ) → (start : ℕ) → Notes → Bool
accepts rom start notes = accepts_game rom start notes
    && (stand_at code rom 0x6800 && boots boot_most rom (word_at rom reset_vector) start)
