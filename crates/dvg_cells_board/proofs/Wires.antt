-- What the arbiter, the map and the RAM of the board do in a clock.
use Rattle.std.proofs.Common.{◌≡◌, ℕ, zero, suc, ◌+◌, ◌-◌, ◌*◌, ◌/◌, ◌%◌, ◌<◌, ◌≤◌, ◌⊎◌, Bool, true, false, not, List, ◌∷◌, length, Option, Some, None, refl, sym, ap, ◌∙◌, arith, inl, inr}
use Rattle.std.specs.Prelude.{nat_eq, nat_lt, nat_le, ◌&&◌, if◌then◌else◌, slice_index, slice_set, option_map}
use Rattle.std.proofs.lemmas.Bool.{ltb-true, ltb-false, le-ltb, lt-ltb}
use Rattle.std.proofs.lemmas.Bool.Decides.{eqb_tells, leb_tells}
use Rattle.std.proofs.lemmas.List.{get_or-set_same, get_or-set_other}
use Rattle.std.proofs.lemmas.List.Elements.{All-get_or}
use Rattle.dvg_code.specs.Words.{word_in}
use Rattle.dvg_mem.specs.Memory.{IsImage, IsRom, first_word, fetched_byte}
use Rattle.dvg_mem.proofs.Roms.{words_from_first}
use Rattle.dvg_gen.specs.Bytes.{Met, Waits, Whole}
use Rattle.dvg_gen.specs.Told.{Reply, More, Drew, Fails}
use Rattle.dvg_driver.specs.declared.action.Action.TheVariants.{Peek, Wrote, Read, Sent}
use Rattle.dvg_log.specs.declared.event.Event.TheVariants.{Strobe, Fetch, ResetGen, ResetAll}
use Rattle.dvg_log.specs.Entries.{Shown}
use Rattle.dvg_log.specs.declared.entry.Entry.TheVariants.{Started, Low, Still, Cleared}
use Rattle.dvg_log.specs.Log.{◌⟼◌, Log, ram, strobed}
use Rattle.dvg_cells_core.specs.Cells.{bit, both, lt, mux, none, some, part, joined}
use Rattle.dvg_cells_core.specs.Core.{Core, halted}
use Rattle.dvg_cells_core.specs.Core as cells
use Rattle.dvg_cells_board.specs.Memory.{memwr}
use Rattle.dvg_cells_board.specs.Board.{Board, Bus, clock}
use Rattle.dvg_cells_board.specs.Fetches.{entry_by, entry_of}
use Rattle.dvg_cells_board.specs.Clocks.{reads, writes, sends, looks, changes}
use Rattle.dvg_cells_board.specs.Logs.{did}
pub use Rattle.dvg_cells_board.proofs.System.{differ}

pub zero_or_one : (n : ℕ) → n < 2 → (n ≡ 0) ⊎ (n ≡ 1)
zero_or_one zero l = inl refl
zero_or_one (suc zero) l = inr refl
zero_or_one (suc (suc n)) l = absurd (omega arith)

-- what the processor looks at changes no memory and no strobe
module _ (image : List ℕ) where
  flag_ram : (flag byte1 halted : Bool) (log : Log)
      → ram image (did (if flag then Some (Read halted) else if byte1 then Some Peek else None) log) ≡ ram image log
  flag_ram true byte1 halted log = refl
  flag_ram false true halted log = refl
  flag_ram false false halted log = refl

  pub looks_ram : (board : Board) (bus : Bus) (log : Log) → ram image (did (looks board bus) log) ≡ ram image log
  looks_ram board bus log = flag_ram (reads bus 0x2002) (reads bus 0x4001) (nat_eq (halted board.core) 1) log

  changed_by : (writes sends : Bool) (a byte : ℕ) (log : Log)
      → ram image (did (if writes then Some (Wrote a byte) else if sends then Some Sent else None) log)
      ≡ (if writes then slice_set (ram image log) a byte else ram image log)
  changed_by true sends a byte log = refl
  changed_by false true a byte log = refl
  changed_by false false a byte log = refl

  -- what it changes is the byte that it writes
  pub changes_ram : (bus : Bus) (log : Log) → ram image (did (changes bus) log)
      ≡ (if writes bus then slice_set (ram image log) (bus.a % 0x800) bus.d else ram image log)
  changes_ram bus log = changed_by (writes bus) (sends bus) (bus.a % 0x800) bus.d log

  of_ram : (address : ℕ) (word : Option ℕ) (answer : Reply) (log : Log) → ram image ((Fetch ⟼ entry_of address word answer) ∷ log) ≡ ram image log
  of_ram address (Some word) More log = refl
  of_ram address (Some word) (Drew lines) log = refl
  of_ram address (Some word) (Fails fault) log = refl
  of_ram address None More log = refl
  of_ram address None (Drew lines) log = refl
  of_ram address None (Fails fault) log = refl

  low_ram : (b : Bool) (address byte : ℕ) (log : Log) → ram image ((Fetch ⟼ (if b then Still else Low address byte)) ∷ log) ≡ ram image log
  low_ram true address byte log = refl
  low_ram false address byte log = refl

  word_ram : (b : Bool) (address : ℕ) (word : Option ℕ) (answer : Reply) (log : Log) → ram image ((Fetch ⟼ (if b then Still else entry_of address word answer)) ∷ log) ≡ ram image log
  word_ram true address word answer log = refl
  word_ram false address word answer log = of_ram address word answer log

  pub entry_ram : (closed address : ℕ) (m : Met) (answer : Reply) (log : Log) → ram image ((Fetch ⟼ entry_by closed address m answer) ∷ log) ≡ ram image log
  entry_ram closed address (Waits byte) answer log = low_ram (nat_eq closed 1) address byte log
  entry_ram closed address (Whole word) answer log = word_ram (nat_eq closed 1) address word answer log

  pub core_ram : (r s p whole : Bool) (shown : Shown) (log : Log) → ram image ((Fetch ⟼ shown) ∷ log) ≡ ram image log
      → ram image (if r then if s then if p then log else (Fetch ⟼ shown) ∷ log else (Strobe ⟼ Started) ∷ log
      else if whole then (ResetAll (ram image log) ⟼ Cleared) ∷ log else (ResetGen ⟼ Cleared) ∷ log)
      ≡ ram image log
  core_ram true true true whole shown log e = refl
  core_ram true true false whole shown log e = e
  core_ram true false p whole shown log e = refl
  core_ram false s p true shown log e = refl
  core_ram false s p false shown log e = refl

pub sent_looks : (flag byte1 halted : Bool) (log : Log) → strobed log ≡ true
    → strobed (did (if flag then Some (Read halted) else if byte1 then Some Peek else None) log) ≡ true
sent_looks true byte1 halted log e = e
sent_looks false true halted log e = e
sent_looks false false halted log e = e

pub sent_sends : (writes sends : Bool) (a byte : ℕ) (log : Log) → writes ≡ false → sends ≡ true
    → strobed (did (if writes then Some (Wrote a byte) else if sends then Some Sent else None) log) ≡ true
sent_sends true sends a byte log off e = absurd (cc)
sent_sends false false a byte log off e = absurd (cc)
sent_sends false true a byte log off e = refl

-- the memory's cells
put_same : (L : List ℕ) (held : ℕ → ℕ) (at byte : ℕ) → at < length L → ((a : ℕ) → a < 2048 → held a ≡ slice_index L a)
    → (a : ℕ) → a < 2048 → (if nat_eq a at then byte else held a) ≡ slice_index (slice_set L at byte) a
put_same L held at byte inside same a small = elim (eqb_tells a at) [
  | inl t ↦ ap (λ b. if b then byte else held a) t.0
      ∙ sym (ap (λ i. slice_index (slice_set L at byte) i) t.1 ∙ get_or-set_same L at byte 0 inside)
  | inr t ↦ ap (λ b. if b then byte else held a) t.0 ∙ same a small
      ∙ sym (get_or-set_other L at a byte 0 t.1)
]

-- the wires of the arbiter, by what stands on the bus
abbrev pub on_of : Bool → Bool → ℕ
on_of acc on = if acc then 0 else some (bit on)

abbrev pub writes_of : Bool → Bool → Bool → ℕ
writes_of acc wr on = if nat_eq (on_of acc on) 0 then 0 else (if wr then 0 else 1)

module _ (board : Board) (bus : Bus) where
  abbrev pub other : ℕ
  other = joined 1 board.core.high (part 0 10 board.core.at)

  abbrev pub place_of : ℕ → ℕ
  place_of o = mux o (part 0 11 bus.a) other

  abbrev pub ram_of : (w o : ℕ) → ℕ → ℕ
  ram_of w o = memwr (mux w 255 0) (mux w (place_of o) (part 0 11 bus.undefined)) (mux w bus.d (part 0 8 bus.undefined)) board.ram

  abbrev unused : Bool
  unused = nat_eq bus.access 0

  abbrev reading : Bool
  reading = nat_eq bus.write 0

  abbrev named : Bool
  named = nat_eq (part 11 5 bus.a) 8

  -- by their values, whatever the cells between are
  ram_by : (x y z : Bool) → unused ≡ x → reading ≡ y → named ≡ z
      → (clock board bus).ram ≡ ram_of (writes_of x y z) (on_of x z)
  ram_by true y z a b c = rw a refl
  ram_by false y false a b c = rw (a, c) refl
  ram_by false true true a b c = rw (a, c, b) refl
  ram_by false false true a b c = rw (a, c, b) refl

  pub ram_is : (clock board bus).ram ≡ ram_of (writes_of unused reading named) (on_of unused named)
  ram_is = ram_by unused reading named refl refl refl

  read_by : (x y z : Bool) → unused ≡ x → reading ≡ y → named ≡ z
      → (clock board bus).read ≡ mux (writes_of x y z) board.read (board.ram (place_of (on_of x z)))
  read_by true y z a b c = rw a refl
  read_by false y false a b c = rw (a, c) refl
  read_by false true true a b c = rw (a, c, b) refl
  read_by false false true a b c = rw (a, c, b) refl

  pub read_is : (clock board bus).read ≡ mux (writes_of unused reading named) board.read (board.ram (place_of (on_of unused named)))
  read_is = read_by unused reading named refl refl refl

  -- the RAM after a clock is what the log says
  module _ (L : List ℕ) (size : length L ≡ 2048) (same : (a : ℕ) → a < 2048 → board.ram a ≡ slice_index L a) where
    pub written : (acc wr on : Bool) (a : ℕ) → a < 2048
        → ram_of (writes_of acc wr on) (on_of acc on) a
        ≡ slice_index (if not acc && (not wr && on) then slice_set L (bus.a % 2048) bus.d else L) a
    written true wr on a small = same a small
    written false true true a small = same a small
    written false true false a small = same a small
    written false false false a small = same a small
    written false false true a small =
        let at_is : part 0 11 bus.a ≡ bus.a % 2048 = omega arith in
        put_same L board.ram (part 0 11 bus.a) bus.d (omega arith) same a small
        ∙ ap (λ n. slice_index (slice_set L n bus.d) a) at_is

-- the generator's map
word_bytes : (L : List ℕ) (k high : ℕ) → high < 2 → slice_index L (2 * k) < 256 → slice_index L (2 * k + 1) < 256
    → slice_index L (2 * k + high) ≡ (if not (nat_eq high 0) then word_in L k / 256 else word_in L k % 256)
word_bytes L k zero l low_small high_small = let at : 2 * k + 0 ≡ 2 * k = omega arith in ap (slice_index L) at ∙ omega arith
word_bytes L k (suc zero) l low_small high_small = omega arith
word_bytes L k (suc (suc n)) l low_small high_small = absurd (omega arith)

le_is : (a b : ℕ) → nat_le a b ≡ not (nat_lt b a)
le_is a b = elim (leb_tells a b) [
  | inl t ↦ t.0 ∙ sym (ap not (le-ltb b a t.1))
  | inr t ↦ t.0 ∙ sym (ap not (lt-ltb b a t.1))
]

pub first_by : (b : Bool) → mux (bit (not b)) 1024 2048 ≡ (if b then 0x800 else 0x400)
first_by true = refl
first_by false = refl

abbrev hole_of : (l f t : Bool) → ℕ
hole_of l f t = both (none (bit l)) (none (both (none (bit f)) (bit t)))

module _ (L R : List ℕ) (at high read rom : ℕ) (is_image : IsImage L) (is_rom : IsRom R) (high_bit : high < 2)
    (ram_byte : at < 1024 → read ≡ slice_index L (2 * at + high))
    (rom_byte : first_word R ≤ at → at < 0xC00 → rom ≡ slice_index R (2 * (at - first_word R) + high)) where
  abbrev picked : ℕ → ℕ
  picked word = if not (nat_eq high 0) then word / 256 else word % 256

  in_image : (i : ℕ) → i < 2048 → slice_index L i < 256
  in_image i l = let count = is_image.count in All-get_or (λ byte. byte < 256) L i 0 (omega arith) is_image.bytes

  in_rom : (i : ℕ) → i + 2 * first_word R < 0x1800 → slice_index R i < 256
  in_rom i l = let count = words_from_first R is_rom in All-get_or (λ byte. byte < 256) R i 0 (omega arith) is_rom.bytes

  map_by : (l f t : Bool) → nat_lt at 0x400 ≡ l → nat_lt at (first_word R) ≡ f → nat_lt at 0xC00 ≡ t
      → (if nat_eq (hole_of l f t) 0 then Some (mux (bit l) read rom) else None)
      ≡ option_map picked (if l then Some (word_in L at) else if not f && t then Some (word_in R (at - first_word R)) else None)
  map_by true f t el ef et =
      let below = ltb-true at 0x400 el in
      ap Some (ram_byte below ∙ word_bytes L at high high_bit (in_image (2 * at) (omega arith)) (in_image (2 * at + 1) (omega arith)))
  map_by false true true el ef et = refl
  map_by false true false el ef et = refl
  map_by false false false el ef et = refl
  map_by false false true el ef et =
      let low = ltb-false at (first_word R) ef in
      let top = ltb-true at 0xC00 et in
      ap Some (rom_byte low top ∙ word_bytes R (at - first_word R) high high_bit (in_rom (2 * (at - first_word R)) (omega arith)) (in_rom (2 * (at - first_word R) + 1) (omega arith)))

  pub map_is : (first : ℕ) → first ≡ first_word R
      → (if nat_eq (hole_of (nat_lt at 0x400) (nat_lt at first) (nat_lt at 0xC00)) 0 then Some (mux (lt at 1024) read rom) else None)
      ≡ fetched_byte L R at (not (nat_eq high 0))
  map_is first e =
      ap (λ n. if nat_eq (hole_of (nat_lt at 0x400) (nat_lt at n) (nat_lt at 0xC00)) 0 then Some (mux (lt at 1024) read rom) else None) e
      ∙ map_by (nat_lt at 0x400) (nat_lt at (first_word R)) (nat_lt at 0xC00) refl refl refl
      ∙ ap (λ b. option_map picked (if nat_lt at 0x400 then Some (word_in L at) else if b && nat_lt at 0xC00 then Some (word_in R (at - first_word R)) else None))
      (sym (le_is (first_word R) at))

-- a clock in which nothing moves the core
pub still : (c : Core) (is_open reset start valid hole din : ℕ) → is_open < 2 → reset ≡ 0 → start ≡ 0 → valid ≡ 0
    → ((cells.clock (record c { is_open = is_open }) (record { reset = reset; start = start; valid = valid; hole = hole; din = din })).at ≡ c.at)
    × ((cells.clock (record c { is_open = is_open }) (record { reset = reset; start = start; valid = valid; hole = hole; din = din })).high ≡ c.high)
still c zero zero zero zero hole din l r s v = (refl, refl)
still c (suc zero) zero zero zero hole din l r s v = (refl, refl)
still c (suc (suc n)) reset start valid hole din l r s v = absurd (omega arith)
still c is_open (suc n) start valid hole din l r s v = absurd (omega arith)
still c is_open reset (suc n) valid hole din l r s v = absurd (omega arith)
still c is_open reset start (suc n) hole din l r s v = absurd (omega arith)

-- when the core's byte is asked for
abbrev pub moves_of : Bool → Bool → Bool → ℕ
moves_of r s p = if nat_eq (if r then (if s then 0 else 1) else 1) 0 then (if p then 0 else 1) else 1

abbrev pub asks_of : (x r s p acc on : Bool) → ℕ
asks_of x r s p acc on = both (if x then 0 else some (none (moves_of r s p))) (none (on_of acc on))

pub not_one : {A : Type 0} → ◌≡◌ {A = ℕ} 0 1 → A
not_one e = absurd (omega arith)

pub asks_needs : (x r s p acc on : Bool) → asks_of x r s p acc on ≡ 1 → (r ≡ true) × (s ≡ true) × (p ≡ true) × (on_of acc on ≡ 0)
asks_needs true r s p acc on e = not_one e
asks_needs false false s p acc on e = not_one e
asks_needs false true false p acc on e = not_one e
asks_needs false true true false acc on e = not_one e
asks_needs false true true true true on e = (refl, refl, refl, refl)
asks_needs false true true true false true e = not_one e
asks_needs false true true true false false e = (refl, refl, refl, refl)

pub bit_small : (a b : ℕ) → both a b < 2
bit_small a b = by (nat_eq a 0) (nat_eq b 0)
  where
    by : (x y : Bool) → (if x then 0 else if y then 0 else 1) < 2
    by true y = omega arith
    by false true = omega arith
    by false false = omega arith

pub takes_of : (p r s : ℕ) → r ≡ 0 → s ≡ 0 → p ≡ 1 → both (both p (none r)) (none s) ≡ 1
takes_of p (suc n) s r_is s_is p_is = absurd (omega arith)
takes_of p r (suc n) r_is s_is p_is = absurd (omega arith)
takes_of zero r s r_is s_is p_is = absurd (omega arith)
takes_of (suc (suc n)) r s r_is s_is p_is = absurd (omega arith)
takes_of (suc zero) zero zero r_is s_is p_is = refl

pub takes_none : (p r s : ℕ) → p ≡ 0 → both (both p (none r)) (none s) ≡ 0
takes_none zero r s p_is = refl
takes_none (suc p) r s p_is = absurd (omega arith)

pub sends_needs : (acc wr at reset : Bool) → both (both (if acc then 0 else if wr then 0 else 1) (bit at)) (if reset then 1 else 0) ≡ 1
    → (not acc && (not wr && at)) ≡ true
sends_needs true wr at reset e = not_one e
sends_needs false true at reset e = not_one e
sends_needs false false false reset e = not_one e
sends_needs false false true reset e = refl

pub third_of : (acc wr at : Bool) → (not acc && (not wr && at)) ≡ true → at ≡ true
third_of true wr at e = absurd (cc)
third_of false true at e = absurd (cc)
third_of false false at e = e

pub none_there : (acc wr : Bool) → (not acc && (not wr && nat_eq (0x3000 / 0x800) 8)) ≡ false
none_there true wr = refl
none_there false true = refl
none_there false false = refl
