-- What the board has around its processor and its vectors: RAM, inputs, switches, latches, time and the watchdog.
use Rattle.std.specs.Prelude.{◌≡◌, ℕ, suc, zero, ◌+◌, ◌-◌, ◌*◌, ◌/◌, ◌%◌, ◌^◌, ◌<◌, ◌&&◌, ◌||◌, Bool, false, not, nat_eq}
use Rattle.std.specs.Prelude.{nat_le, nat_lt, if◌then◌else◌, All, List, [], ◌∷◌, length}
use Rattle.dvg_mem.specs.Memory.{IsRom}
use Rattle.dvg_cells_core.specs.Cells.{bit}
use Rattle.dvg_cells_motion.specs.Vectors as vectors
use Rattle.dvg_game_circuit.specs.Game.{Game, Bus, clock, drives_cpu, drives_vectors}
use Rattle.dvg_game_circuit.specs.Game as pin
use Rattle.dvg_game_circuit.specs.Circuit.{Held, IsBus, HoldsGame, after, high}

-- a reset is taken, from outside or the watchdog's: where no cycle is open
abbrev pub is_reset : Game → Bus → Bool
is_reset game bus = (nat_eq bus.reset 1 || nat_eq game.bites 1) && nat_eq game.answers 0

-- a cycle begins: where none is open, none is reset, and `ready` is high
abbrev pub begins : Game → Bus → Bool
begins game bus = nat_eq bus.ready 1 && (nat_eq game.answers 0 && not (nat_eq bus.reset 1 || nat_eq game.bites 1))

-- the processor writes at a place of this kind
abbrev pub writes : Game → Bus → (ℕ → Bool) → Bool
writes game bus kind = begins game bus && (nat_eq (pin.write game) 1 && kind (pin.a game))

-- one of the 512 bytes from here on; and of these one whose last three bits are those of a place
abbrev pub in_area : (first a : ℕ) → Bool
in_area first a = nat_eq (a / 0x200) (first / 0x200)

abbrev pub at_place : (place a : ℕ) → Bool
at_place place a = in_area place a && nat_eq (a % 8) (place % 8)

-- the byte that was written last at a place of this kind, since the last reset: 0 where none was
abbrev pub last : Held → List Bus → (ℕ → Bool) → ℕ
last held [] kind = 0
last held (bus ∷ clocks) kind =
    let game = after held clocks in
    if is_reset game bus then 0 else if writes game bus kind then pin.d game else last held clocks kind

-- the latches have it
pub record AreLatched (held : Held) (clocks : List Bus) : Type 0 where
  pub lamps : (after held clocks).lamps ≡ last held clocks (in_area 0x3200) % 4
  pub bank : (after held clocks).bank ≡ last held clocks (in_area 0x3200) / 4 % 2
  pub counters : (after held clocks).counters ≡ last held clocks (in_area 0x3200) / 8 % 8
  pub explosion : (after held clocks).explosion ≡ last held clocks (in_area 0x3600)
  pub thump : (after held clocks).thump ≡ last held clocks (in_area 0x3A00) % 32
  pub sounds : (after held clocks).sounds ≡ last held clocks (at_place 0x3C00) / 128
      + 2 * (last held clocks (at_place 0x3C01) / 128 + 2 * (last held clocks (at_place 0x3C02) / 128
      + 2 * (last held clocks (at_place 0x3C03) / 128 + 2 * (last held clocks (at_place 0x3C04) / 128
      + 2 * (last held clocks (at_place 0x3C05) / 128)))))

-- one of so many clocks, the newest ones, took a tick: one with a tick, where none of the three clocks before did
abbrev pub took : ℕ → List Bus → Bool
took zero clocks = false
took (suc n) [] = false
took (suc n) (bus ∷ clocks) = (nat_eq bus.tick 1 && not (took 3 clocks)) || took n clocks

abbrev pub takes : List Bus → Bus → Bool
takes clocks bus = nat_eq bus.tick 1 && not (took 3 clocks)

-- a cycle began since a tick was taken
abbrev pub worked : Held → List Bus → Bool
worked held [] = false
worked held (bus ∷ clocks) = begins (after held clocks) bus || (worked held clocks && not (takes clocks bus))

-- a tick counts that is taken then; and so many have since the last reset
abbrev pub counts : Held → List Bus → Bus → Bool
counts held clocks bus = takes clocks bus && worked held clocks

abbrev pub counted : Held → List Bus → ℕ
counted held [] = 0
counted held (bus ∷ clocks) =
    if is_reset (after held clocks) bus then 0 else counted held clocks + bit (counts held clocks bus)

-- 512 of them are a period of 3 kHz, of which so many ended since the last reset, and since the self-test switch was closed
abbrev pub ends_period : Held → List Bus → Bus → Bool
ends_period held clocks bus = counts held clocks bus && nat_eq (counted held clocks % 512) 511

abbrev pub periods : Held → List Bus → ℕ
periods held [] = 0
periods held (bus ∷ clocks) = if is_reset (after held clocks) bus || nat_eq (bus.held / 128 % 2) 1 then 0
    else periods held clocks + bit (ends_period held clocks bus)

-- after each twelfth one the NMI is high for a period
abbrev pub is_twelfth : ℕ → Bool
is_twelfth n = not (nat_eq n 0) && nat_eq (n % 12) 0

-- how many ended since the watchdog was told, or a reset taken
abbrev pub tells : Game → Bus → Bool
tells game bus = writes game bus (in_area 0x3400)

abbrev pub silent : Held → List Bus → ℕ
silent held [] = 0
silent held (bus ∷ clocks) = let game = after held clocks in
    if is_reset game bus || tells game bus then 0 else silent held clocks + bit (ends_period held clocks bus)

-- with the 256th one it bites, until its reset is taken
abbrev pub bites : Held → List Bus → Bool
bites held [] = false
bites held (bus ∷ clocks) = let game = after held clocks in
    (ends_period held clocks bus && (nat_eq (silent held clocks % 256) 255 && not (tells game bus)))
    || (bites held clocks && nat_eq game.answers 1)

-- in a clock, after these: which tick is taken, when the NMI is high, when the watchdog bites, and what is reset
pub record IsTimed (held : Held) (clocks : List Bus) (bus : Bus) : Type 0 where
  pub taken : pin.taken (after held clocks) bus ≡ bit (takes clocks bus)
  pub nmi : (drives_cpu (after held clocks) bus).nmi ≡ bit (is_twelfth (periods held clocks))
  pub watchdog : (after held clocks).bites ≡ bit (bites held clocks)
  pub processor : (drives_cpu (after held clocks) bus).reset ≡ bit (is_reset (after held clocks) bus)
  pub drawer : (drives_vectors (after held clocks) bus).reset ≡ bit (is_reset (after held clocks) bus)
  pub access : pin.access (after held clocks) bus ≡ bit (begins (after held clocks) bus)
  pub hushes : pin.hushes (after held clocks) bus ≡ bit (writes (after held clocks) bus (in_area 0x3E00))

-- which input is read here, eight at 2000 and eight at 2400; 1 is the clock of 3 kHz, and 2 none; and its byte
abbrev pub input_at : ℕ → ℕ
input_at a = a % 8 + 8 * (a / 0x400 % 2)

abbrev pub is_closed : Held → List Bus → Bus → ℕ → Bool
is_closed held clocks bus n = if nat_eq n 1 then nat_eq (counted held clocks / 256 % 2) 1
    else if nat_eq n 2 then false else nat_eq (bus.held / 2 ^ n % 2) 1

abbrev pub byte_of : Bool → ℕ
byte_of closed = if closed then 128 else 127

-- the place of the RAM, whose pages 2 and 3 the bank bit exchanges; and that of the ROM
abbrev pub banked : (bank a : ℕ) → ℕ
banked bank a = if nat_eq bank 1 && nat_le 0x200 a then (if nat_lt a 0x300 then a + 0x100 else a - 0x100) else a

abbrev pub code_at : ℕ → ℕ
code_at a = if nat_eq (a / 0x2000 % 4) 3 then a % 0x2000 else a % 0x800

-- the board's places: the vector RAM, the flag, and the strobe
abbrev pub on_board : ℕ → Bool
on_board a = nat_eq (a / 0x800) 8 || (nat_eq a 0x2002 || nat_eq a 0x3000)

-- what a read finds in the second clock of its cycle
abbrev pub found : Held → List Bus → Bus → ℕ → ℕ
found held clocks bus a = let game = after held clocks in
    if on_board a then vectors.q game.vectors (drives_vectors game bus)
    else if nat_lt a 0x400 then game.work (banked game.bank a)
    else if nat_eq (a / 0x800) 4 then byte_of (is_closed held clocks bus (input_at a))
    else if nat_eq (a / 0x400) 10 then 252 + bus.switches / 4 ^ (a % 4) % 4
    else held.code (code_at a)

pub record IsAnswered (held : Held) (clocks : List Bus) (bus : Bus) : Type 0 where
  pub read : (after held clocks).answers ≡ 1 → pin.write (after held clocks) ≡ 0
      → (drives_cpu (after held clocks) bus).din ≡ found held clocks bus (pin.a (after held clocks))
  -- what is written in the RAM, and nothing else
  pub written : (b : ℕ) → (clock (after held clocks) bus).work b
      ≡ (if writes (after held clocks) bus (λ a. nat_lt a 0x400) && nat_eq b (banked (after held clocks).bank (pin.a (after held clocks)))
      then pin.d (after held clocks) else (after held clocks).work b)

-- all of it, after any clocks since power-up, whose pins are bits, a byte, and two
pub record GoesAround (held : Held) (clocks : List Bus) (bus : Bus) : Type 0 where
  pub latched : AreLatched held clocks
  pub timed : IsTimed held clocks bus
  pub answered : IsAnswered held clocks bus
  -- all pins may be high at once
  pub any : IsBus (high bus)

abbrev pub BoardGoesAround : Type 0
BoardGoesAround = (R image : List ℕ) (rom : ℕ → ℕ) (held : Held) → IsRom R → length R ≡ 2048 → ((a : ℕ) → rom a < 256)
    → HoldsGame R image rom held → (clocks : List Bus) → All IsBus clocks → (bus : Bus) → IsBus bus → GoesAround held clocks bus
