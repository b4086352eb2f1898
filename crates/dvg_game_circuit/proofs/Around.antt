-- All that stands around the processor and the vectors, after any clocks.
use Rattle.std.proofs.Common.{◌≡◌, ℕ, suc, ◌+◌, ◌/◌, ◌%◌, ◌^◌, ◌<◌, Bool, true, false, not, List, [], ◌∷◌, length, refl, sym, ap, ◌∙◌, subst}
use Rattle.std.proofs.Common.{arith, le-leb, leb-true, lit<}
use Rattle.std.specs.Prelude.{All, nat_eq, nat_lt, ◌&&◌, ◌||◌, if◌then◌else◌}
use Rattle.std.proofs.lemmas.List.Elements.{All-head, All-tail}
use Rattle.std.proofs.lemmas.Bool.{eq-eqb, eqb-true}
use Rattle.std.proofs.lemmas.Nat.{mod_below}
use Rattle.dvg_mem.specs.Memory.{IsRom}
use Rattle.dvg_cells_core.specs.Cells.{bit, both, either, eq, mux, none, part, joined}
use Rattle.dvg_cells_board.specs.Memory.{memwr}
use Rattle.dvg_cells_motion.specs.Vectors as vectors
use Rattle.dvg_cells_cpu.specs.Cpu.{Cpu as Cells, at, dout, write}
use Rattle.dvg_cells_cpu.proofs.Bounds.{bit_in}
use Rattle.dvg_cells_cpu.proofs.LawOfWidths.{fits}
use Rattle.dvg_game_circuit.specs.Game.{Game, Bus, clock, drives_cpu, drives_vectors}
use Rattle.dvg_game_circuit.specs.Circuit.{Held, IsBus, HoldsGame, after, board_clocks}
use Rattle.dvg_game_circuit.specs.Around.{AreLatched, BoardGoesAround, GoesAround, banked, begins, byte_of, code_at}
use Rattle.dvg_game_circuit.specs.Around.{counted, found, in_area, input_at, is_closed, last, on_board, writes}
use Rattle.dvg_game_circuit.proofs.Projection.{byte_of_input, setting_at}
use Rattle.dvg_game_circuit.proofs.Projection as cells
use Rattle.dvg_game_circuit.proofs.Bits.{and_both, bit_of, both_bit, mux_bit, none_is, same_test}
use Rattle.dvg_game_circuit.proofs.Latching.{Fine, begins_is, last_on, latched_first, latched_on, writes_is}
use Rattle.dvg_game_circuit.proofs.TickCounters.{Counts, counts_first, counts_on, timed_now}
use Rattle.dvg_game_circuit.proofs.CircuitReads.{board_is, byte_is, code_is, input_is, place_is, setting_is}
use Rattle.dvg_game_circuit.proofs.OwnMemoryReads.{code_place}
use Rattle.dvg_game_circuit.proofs.CircuitAsCells.{Stands, kept, stands}
use Rattle.dvg_game_circuit.proofs.CircuitAsCells as standing
use Rattle.dvg_game_circuit.proofs.WorkRam.{place}

-- a place below 400 by its upper bits
low_is : (a : ℕ) → a < 65536 → nat_eq (part 10 6 a) 0 ≡ nat_lt a 0x400
low_is a small = same_test (nat_eq (part 10 6 a) 0) (nat_lt a 0x400)
    (λ e. let is = eqb-true (part 10 6 a) 0 e in le-leb (suc a) 0x400 (omega arith))
    (λ e. let is = leb-true (suc a) 0x400 e in eq-eqb (part 10 6 a) 0 (omega arith))

test_of : (t : Bool) → bit t ≡ 1 → t ≡ true
test_of true e = refl
test_of false e = absurd (omega arith)

-- where a cycle begins, nothing is reset
no_reset : (ready first reset bitten : Bool) → (ready && (first && not (reset || bitten))) ≡ true → ((reset || bitten) && first) ≡ false
no_reset true true true b e = absurd (cc)
no_reset true true false true e = absurd (cc)
no_reset true true false false e = refl
no_reset true false r b e = absurd (cc)
no_reset false first r b e = absurd (cc)

unwritten : (b : Bool) (w : ℕ) (k : Bool) → w ≡ 0 → (b && (nat_eq w 1 && k)) ≡ false
unwritten b w k e = rw e (by b)
  where
    by : (b : Bool) → (b && false) ≡ false
    by true = refl
    by false = refl

written_by : (s : Bool) (p x d y b : ℕ) (ram : ℕ → ℕ)
    → memwr (mux (bit s) 255 0) (mux (bit s) p x) (mux (bit s) d y) ram b ≡ (if s && nat_eq b p then d else ram b)
written_by true p x d y b ram = refl
written_by false p x d y b ram = refl

module _ (held : Held) (clocks : List Bus) (bus : Bus) (is : IsBus bus) (fine : Fine (after held clocks)) where
  abbrev game : Game
  game = after held clocks

  abbrev a : ℕ
  a = at game.cpu

  abbrev restarts : ℕ
  restarts = either bus.reset game.bites

  abbrev access : ℕ
  access = mux bus.ready (both (none game.answers) (none restarts)) 0

  abbrev stores : ℕ
  stores = both (both access (write game.cpu)) (none (part 10 6 a))

  abbrev is_low : ℕ → Bool
  is_low place = nat_lt place 0x400

  stores_is : stores ≡ bit (writes game bus is_low)
  stores_is = ap (λ n. both n (none (part 10 6 a))) (writes_is held clocks bus is fine)
      ∙ ap (both (bit (begins game bus && nat_eq (write game.cpu) 1))) (none_is (part 10 6 a) ∙ ap bit (low_is a fine.place))
      ∙ both_bit (begins game bus && nat_eq (write game.cpu) 1) (nat_lt a 0x400)
      ∙ ap bit (and_both (begins game bus) (nat_eq (write game.cpu) 1) (nat_lt a 0x400))

  -- a write in the RAM, and nothing else
  pub written : game.bank < 2 → (b : ℕ) → (clock game bus).work b
      ≡ (if writes game bus is_low && nat_eq b (banked game.bank a) then dout game.cpu else game.work b)
  written few b =
      ap (λ n. memwr (mux n 255 0) (mux n (place a game.bank) (part 0 10 bus.undefined)) (mux n (dout game.cpu) (part 0 8 bus.undefined)) game.work b)
      stores_is
      ∙ written_by (writes game bus is_low) (place a game.bank) (part 0 10 bus.undefined) (dout game.cpu) (part 0 8 bus.undefined) b game.work
      ∙ there (begins game bus) (nat_eq (write game.cpu) 1) (nat_lt a 0x400) refl
    where
      there : (s w t : Bool) → nat_lt a 0x400 ≡ t
          → (if (s && (w && t)) && nat_eq b (place a game.bank) then dout game.cpu else game.work b)
          ≡ (if (s && (w && t)) && nat_eq b (banked game.bank a) then dout game.cpu else game.work b)
      there true true true e =
          ap (λ p. if nat_eq b p then dout game.cpu else game.work b) (place_is a game.bank (leb-true (suc a) 0x400 e) few)
      there true true false e = refl
      there true false t e = refl
      there false w t e = refl

  -- in the first clock of a cycle that reads nothing is written
  module _ (first : access ≡ 1) (reads : write game.cpu ≡ 0) where
    begun : begins game bus ≡ true
    begun = test_of (begins game bus) (sym (begins_is held clocks bus is fine) ∙ first)

    same_last : (kind : ℕ → Bool) → last held (bus ∷ clocks) kind ≡ last held clocks kind
    same_last kind =
        ap (λ t. if t then 0 else if writes game bus kind then dout game.cpu else last held clocks kind)
        (no_reset (nat_eq bus.ready 1) (nat_eq game.answers 0) (nat_eq bus.reset 1) (nat_eq game.bites 1) begun)
        ∙ ap (λ t. if t then dout game.cpu else last held clocks kind) (unwritten (begins game bus) (write game.cpu) (kind a) reads)

    no_stores : stores ≡ 0
    no_stores = stores_is ∙ ap bit (unwritten (begins game bus) (write game.cpu) (nat_lt a 0x400) reads)

    same_work : (b : ℕ) → (clock game bus).work b ≡ game.work b
    same_work b = ap (λ n. memwr (mux n 255 0) (mux n (place a game.bank) (part 0 10 bus.undefined))
        (mux n (dout game.cpu) (part 0 8 bus.undefined)) game.work b) no_stores

    -- and the RAM's byte is read
    pub reads_ram : AreLatched held clocks → AreLatched held (bus ∷ clocks) → (clock game bus).work_byte ≡ (clock game bus).work (place a (clock game bus).bank)
    reads_ram was now =
        let same_bank : (clock game bus).bank ≡ game.bank =
        now.bank ∙ ap (λ n. n / 4 % 2) (same_last (in_area 0x3200)) ∙ sym was.bank in
        ap (λ n. mux n game.work_byte (game.work (place a game.bank))) no_stores
        ∙ ap (λ n. game.work (place a n)) (sym same_bank) ∙ sym (same_work (place a (clock game bus).bank))

  -- the leaves of a read
  closed_is : Counts held clocks → (n : ℕ)
      → (if nat_eq n 1 then game.beat / 256 % 2 else if nat_eq n 2 then 0 else bus.held / 2 ^ n % 2) ≡ bit (is_closed held clocks bus n)
  closed_is counts n = by (nat_eq n 1) (nat_eq n 2)
    where
      by : (t u : Bool) → (if t then game.beat / 256 % 2 else if u then 0 else bus.held / 2 ^ n % 2)
          ≡ bit (if t then nat_eq (counted held clocks / 256 % 2) 1 else if u then false else nat_eq (bus.held / 2 ^ n % 2) 1)
      by true u =
          let beat = counts.beat in let same : game.beat / 256 % 2 ≡ counted held clocks / 256 % 2 = omega arith in
          same ∙ bit_of (counted held clocks / 256 % 2) (mod_below (counted held clocks / 256) 2 (lit< tt))
      by false true = refl
      by false false = bit_of (bus.held / 2 ^ n % 2) (mod_below (bus.held / 2 ^ n) 2 (lit< tt))

  input_byte : Counts held clocks
      → byte_of_input (cells.input_at a bus.held game.beat) ≡ byte_of (is_closed held clocks bus (input_at a))
  input_byte counts = ap byte_of_input (input_is a bus.held game.beat ∙ closed_is counts (input_at a))
      ∙ byte_is (is_closed held clocks bus (input_at a))

  pub read : Counts held clocks → game.bank < 2 → game.code_byte ≡ held.code (code_place a)
      → (a < 0x400 → game.work_byte ≡ game.work (place a game.bank))
      → (drives_cpu game bus).din ≡ found held clocks bus a
  read counts few code ram =
      ap (λ n. mux n board_byte (mux (none (part 10 6 a)) game.work_byte other)) (board_is a fine.place)
      ∙ mux_bit (on_board a) board_byte (mux (none (part 10 6 a)) game.work_byte other)
      ∙ ap (λ n. if on_board a then board_byte else n)
      (ap (λ n. mux n game.work_byte other) (none_is (part 10 6 a) ∙ ap bit (low_is a fine.place))
      ∙ mux_bit (nat_lt a 0x400) game.work_byte other ∙ of_ram (nat_lt a 0x400) refl
      ∙ ap (λ n. if nat_lt a 0x400 then game.work (banked game.bank a) else n) others)
    where
      board_byte : ℕ
      board_byte = vectors.q game.vectors (drives_vectors game bus)

      other : ℕ
      other = mux (eq (part 11 5 a) 4) (byte_of_input (cells.input_at a bus.held game.beat))
          (mux (eq (part 10 6 a) 10) (joined 2 (setting_at a bus.switches) 63) game.code_byte)

      of_ram : (t : Bool) → nat_lt a 0x400 ≡ t
          → (if t then game.work_byte else other) ≡ (if t then game.work (banked game.bank a) else other)
      of_ram true e = let less = leb-true (suc a) 0x400 e in ram less ∙ ap game.work (place_is a game.bank less few)
      of_ram false e = refl

      others : other ≡ (if nat_eq (a / 0x800) 4 then byte_of (is_closed held clocks bus (input_at a))
          else if nat_eq (a / 0x400) 10 then 252 + bus.switches / 4 ^ (a % 4) % 4 else held.code (code_at a))
      others =
          mux_bit (nat_eq (part 11 5 a) 4) (byte_of_input (cells.input_at a bus.held game.beat))
          (mux (eq (part 10 6 a) 10) (joined 2 (setting_at a bus.switches) 63) game.code_byte)
          ∙ ap (λ n. if nat_eq n 4 then byte_of_input (cells.input_at a bus.held game.beat)
          else mux (eq (part 10 6 a) 10) (joined 2 (setting_at a bus.switches) 63) game.code_byte)
          (let small = fine.place in let same : part 11 5 a ≡ a / 0x800 = omega arith in same)
          ∙ ap (λ n. if nat_eq (a / 0x800) 4 then n else mux (eq (part 10 6 a) 10) (joined 2 (setting_at a bus.switches) 63) game.code_byte)
          (input_byte counts)
          ∙ ap (λ n. if nat_eq (a / 0x800) 4 then byte_of (is_closed held clocks bus (input_at a)) else n)
          (mux_bit (nat_eq (part 10 6 a) 10) (joined 2 (setting_at a bus.switches) 63) game.code_byte
          ∙ ap (λ n. if nat_eq n 10 then joined 2 (setting_at a bus.switches) 63 else game.code_byte)
          (let small = fine.place in let same : part 10 6 a ≡ a / 0x400 = omega arith in same)
          ∙ ap (λ n. if nat_eq (a / 0x400) 10 then n else game.code_byte) (setting_is a bus.switches)
          ∙ ap (λ n. if nat_eq (a / 0x400) 10 then 252 + bus.switches / 4 ^ (a % 4) % 4 else n)
          (code ∙ ap held.code (code_is a fine.place)))

module _ (R image : List ℕ) (rom : ℕ → ℕ) (held : Held) (is_rom : IsRom R) (count : length R ≡ 2048) (rom_in : (a : ℕ) → rom a < 256)
    (loaded : HoldsGame R image rom held) where
  -- what holds between two clocks, beside what holds of a machine
  record Goes (clocks : List Bus) : Type 0 where
    latched : AreLatched held clocks
    counts : Counts held clocks
    lasts : (kind : ℕ → Bool) → last held clocks kind < 256
    ram : (after held clocks).answers ≡ 1 → write (after held clocks).cpu ≡ 0 → at (after held clocks).cpu < 0x400
        → (after held clocks).work_byte ≡ (after held clocks).work (place (at (after held clocks).cpu) (after held clocks).bank)

  module _ (clocks : List Bus) (all : All IsBus clocks) where
    stand : standing.Spot R image rom held is_rom count rom_in loaded (after held clocks) (board_clocks held clocks)
    stand = stands R image rom held is_rom count rom_in loaded clocks all

    fine_in : Goes clocks → Fine (after held clocks)
    fine_in goes = let pins = fits.2 (after held clocks).cpu stand.2.cpu in record {
      answers = stand.2.answers_in;
      bites = subst (λ n. n < 2) (sym goes.counts.watchdog) (bit_in _);
      place = pins.0;
      write = pins.1;
      byte = pins.2;
    }

    bank_in : Goes clocks → (after held clocks).bank < 2
    bank_in goes = subst (λ n. n < 2) (sym goes.latched.bank) (mod_below (last held clocks (in_area 0x3200) / 4) 2 (lit< tt))

  goes_on : (clocks : List Bus) → All IsBus clocks → (bus : Bus) → IsBus bus → Goes clocks → Goes (bus ∷ clocks)
  goes_on clocks all bus is was =
      let fine = fine_in clocks all was in
      let latched = latched_on held clocks bus is fine was.lasts was.latched in
      let still = kept R image rom held is_rom count rom_in loaded (after held clocks) (stand clocks all).0 (stand clocks all).1
      (board_clocks held clocks) (stand clocks all).2 bus is in record {
        latched = latched;
        counts = counts_on held clocks bus is fine was.counts;
        lasts = λ kind. last_on held clocks bus is fine kind (was.lasts kind);
        ram = λ first. subst (λ (c : Cells). write c ≡ 0 → at c < 0x400 → (clock (after held clocks) bus).work_byte
            ≡ (clock (after held clocks) bus).work (place (at c) (clock (after held clocks) bus).bank)) (sym (still first))
            (λ reads less. reads_ram held clocks bus is fine first reads was.latched latched);
      }

  goes : (clocks : List Bus) → All IsBus clocks → Goes clocks
  goes [] all = record {
    latched = latched_first held;
    counts = counts_first held;
    lasts = λ kind. lit< tt;
    ram = λ e. absurd (omega arith);
  }
  goes (bus ∷ clocks) all =
      goes_on clocks (All-tail IsBus bus clocks all) bus (All-head IsBus bus clocks all) (goes clocks (All-tail IsBus bus clocks all))

  pub around : (clocks : List Bus) → All IsBus clocks → (bus : Bus) → IsBus bus → GoesAround held clocks bus
  around clocks all bus is =
      let here = goes clocks all in
      let fine = fine_in clocks all here in record {
        latched = here.latched;
        timed = timed_now held clocks bus is fine here.counts;
        answered = record {
          read = λ amid reads. read held clocks bus is fine here.counts (bank_in clocks all here) ((stand clocks all).2.read_code amid)
              (here.ram amid reads);
          written = written held clocks bus is fine (bank_in clocks all here);
        };
        any = record { reset = lit< tt; tick = lit< tt; ready = lit< tt; held = lit< tt; switches = lit< tt };
      }

pub goes_around : BoardGoesAround
goes_around R image rom held is_rom count rom_in loaded clocks all bus is = around R image rom held is_rom count rom_in loaded clocks all bus is
