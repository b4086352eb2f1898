-- Cycles that leave the board alone: the machine waits in their clocks.
use Rattle.std.proofs.Common.{◌≡◌, ℕ, zero, suc, ◌/◌, ◌<◌, Bool, true, false, not, List, [], ◌∷◌, ◌++◌, refl, sym, ap, ◌∙◌, subst}
use Rattle.std.proofs.Common.{append_assoc, arith, inl, inr, le-leb, eqb-true, lit<}
use Rattle.std.specs.Prelude.{◌%◌, nat_eq, nat_le, nat_lt, ◌&&◌, if◌then◌else◌, Some, None}
use Rattle.std.proofs.lemmas.Bool.{ne_eqb}
use Rattle.std.proofs.lemmas.Bool.Decides.{eqb_tells}
use Rattle.dvg_driver.specs.declared.action.Action.TheVariants.{Peek, Wrote, Read, Sent}
use Rattle.dvg_calls_6502.specs.Processor.{Access, Reads, Writes}
use Rattle.dvg_calls_6502.specs.Board.{is_ram}
use Rattle.dvg_calls_6502.specs.Calls.{Call}
use Rattle.dvg_cells_core.specs.Core.{Core, halted}
use Rattle.dvg_cells_core.specs.Core as wires
use Rattle.dvg_cells_board.specs.Board.{Board, Bus}
use Rattle.dvg_cells_board.specs.Board as pin
use Rattle.dvg_cells_board.specs.Clocks.{IsBus, IsServed, after, reads, writes, sends}
use Rattle.dvg_cells_board.specs.Logs.{answered}
use Rattle.dvg_log.specs.Log.{Log}
use Rattle.dvg_calls_board.specs.Machine as system
use Rattle.dvg_calls_board.specs.Machine.{IsMachine, IsIdle}
use Rattle.dvg_cells_cpu.specs.Cpu.{Cpu as Cells, clock, write, dout, at}
use Rattle.dvg_cells_cpu.specs.Refines.{Cycle, pins_of, access, made}
use Rattle.dvg_calls_cells.specs.Cycles.{Drive, Two, Turn, acts, idles, begins, between, next, ends, first_bus, second_bus, wait_bus, buses}
use Rattle.dvg_calls_cells.specs.Cycles.{cycles_of, cycle_of, WriteAt, IsQuiet, AreQuiet, IsSilent, SendNothing, AreAlike, same, elsewhere}
use Rattle.dvg_calls_cells.specs.Steps.{AreServed}

-- neither reads at the places that are looked at, nor writes that change something
idle_by : (board : Board) (bus : Bus) → reads bus 0x2002 ≡ false → reads bus 0x4001 ≡ false → writes bus ≡ false
    → sends bus ≡ false → IsIdle board bus
idle_by board bus a b c d = (
  ap (λ (t : Bool). if t then Some (Read (nat_eq (halted board.core) 1)) else if reads bus 0x4001 then Some Peek else None) a
      ∙ ap (λ (t : Bool). if t then Some Peek else None) b,
  ap (λ (t : Bool). if t then Some (Wrote (bus.a % 0x800) bus.d) else if sends bus then Some Sent else None) c
      ∙ ap (λ (t : Bool). if t then Some Sent else None) d,
)

last_no : (x y : Bool) → (x && (y && false)) ≡ false
last_no true true = refl
last_no true false = refl
last_no false y = refl

second_no : (x y : Bool) → (x && (false && y)) ≡ false
second_no true y = refl
second_no false y = refl

-- no read there, in a clock that accesses another place, and in one that writes; no write there either
module _ (bus : Bus) where
  no_read : (a : ℕ) → nat_eq bus.a a ≡ false → reads bus a ≡ false
  no_read a e = ap (λ t. not (nat_eq bus.access 0) && (nat_eq bus.write 0 && t)) e
      ∙ last_no (not (nat_eq bus.access 0)) (nat_eq bus.write 0)

  no_read_in : nat_eq bus.write 0 ≡ false → (a : ℕ) → reads bus a ≡ false
  no_read_in writing a = ap (λ t. not (nat_eq bus.access 0) && (t && nat_eq bus.a a)) writing
      ∙ second_no (not (nat_eq bus.access 0)) (nat_eq bus.a a)

  no_write : (t : Bool) → t ≡ false → (not (nat_eq bus.access 0) && (not (nat_eq bus.write 0) && t)) ≡ false
  no_write t e = ap (λ t. not (nat_eq bus.access 0) && (not (nat_eq bus.write 0) && t)) e
      ∙ last_no (not (nat_eq bus.access 0)) (not (nat_eq bus.write 0))

  no_write_in : nat_eq bus.write 0 ≡ true → (t : Bool)
      → (not (nat_eq bus.access 0) && (not (nat_eq bus.write 0) && t)) ≡ false
  no_write_in reading t = ap (λ w. not (nat_eq bus.access 0) && (not w && t)) reading
      ∙ second_no (not (nat_eq bus.access 0)) t

-- a page that isn't of the vector RAM
other_page : (a : ℕ) → is_ram a ≡ false → nat_eq (a / 0x800) 8 ≡ false
other_page a e = elim (eqb_tells (a / 0x800) 8) [
  | inl t ↦
      let page = t.1 in
      let low : nat_le 0x4000 a ≡ true = le-leb 0x4000 a (omega arith) in
      let high : nat_lt a 0x4800 ≡ true = le-leb (suc a) 0x4800 (omega arith) in
      absurd (let is : is_ram a ≡ true = ap (λ t. t && nat_lt a 0x4800) low ∙ high in cc)
  | inr t ↦ t.0
]

-- a write beside the vector RAM and the strobe leaves the board alone
pub idle_write : (board : Board) (bus : Bus) → nat_eq bus.write 0 ≡ false → is_ram bus.a ≡ false → nat_eq bus.a 0x3000 ≡ false
    → IsIdle board bus
idle_write board bus e ram strobe =
    idle_by board bus (no_read_in bus e 0x2002) (no_read_in bus e 0x4001)
    (no_write bus (nat_eq (bus.a / 0x800) 8) (other_page bus.a ram)) (no_write bus (nat_eq bus.a 0x3000) strobe)

idle_read : (board : Board) (bus : Bus) → nat_eq bus.write 0 ≡ true → nat_eq bus.a 0x2002 ≡ false
    → nat_eq bus.a 0x4001 ≡ false → IsIdle board bus
idle_read board bus e flag byte1 =
    idle_by board bus (no_read bus 0x2002 flag) (no_read bus 0x4001 byte1) (no_write_in bus e (nat_eq (bus.a / 0x800) 8))
    (no_write_in bus e (nat_eq bus.a 0x3000))

-- no strobe is sent
pub sends_nothing : (bus : Bus) (din : ℕ) → SendNothing ((if nat_eq bus.write 0 then Reads bus.a din else Writes bus.a bus.d) ∷ [])
    → sends bus ≡ false
sends_nothing bus din q = by (nat_eq bus.write 0) refl q
  where
    by : (w : Bool) → nat_eq bus.write 0 ≡ w → SendNothing ((if w then Reads bus.a din else Writes bus.a bus.d) ∷ [])
        → sends bus ≡ false
    by true e q = no_write_in bus e (nat_eq bus.a 0x3000)
    by false e q = no_write bus (nat_eq bus.a 0x3000) q.0

-- lists of accesses
pub write_both : (P : ℕ → Type 0) (l r : List Access) → WriteAt P (l ++ r) → WriteAt P l × WriteAt P r
write_both P [] r q = (tt, q)
write_both P (Reads a byte ∷ l) r q = write_both P l r q
write_both P (Writes a byte ∷ l) r q = let rest = write_both P l r q.1 in ((q.0, rest.0), rest.1)

pub write_append : (P : ℕ → Type 0) (l r : List Access) → WriteAt P l → WriteAt P r → WriteAt P (l ++ r)
write_append P [] r a b = b
write_append P (Reads a byte ∷ l) r q b = write_append P l r q b
write_append P (Writes a byte ∷ l) r q b = (q.0, write_append P l r q.1 b)

pub made_more : (cells : Cells) (list : List Cycle) (log : List Access) → made cells list log ≡ made cells list [] ++ log
made_more cells [] log = refl
made_more cells (cycle ∷ later) log =
    made_more (clock cells (pins_of cycle)) later (access cells cycle.din ∷ log)
    ∙ sym (append_assoc (made (clock cells (pins_of cycle)) later []) (access cells cycle.din ∷ []) log)
    ∙ ap (λ l. l ++ log) (sym (made_more (clock cells (pins_of cycle)) later (access cells cycle.din ∷ [])))

-- those of a cycle, and of later ones
pub write_first : (P : ℕ → Type 0) (cells : Cells) (cycle : Cycle) (later : List Cycle)
    → WriteAt P (made cells (cycle ∷ later) [])
    → WriteAt P (access cells cycle.din ∷ []) × WriteAt P (made (clock cells (pins_of cycle)) later [])
write_first P cells cycle later q =
    let then_cells = clock cells (pins_of cycle) in
    let both = write_both P (made then_cells later []) (access cells cycle.din ∷ [])
    (subst (WriteAt P) (made_more then_cells later (access cells cycle.din ∷ [])) q) in
    (both.1, both.0)

-- a core that gets no byte goes on as it does, whatever is on its pin
idle_core : (c : Core) (is_open reset start hole one two : ℕ)
    → wires.clock (record c { is_open = is_open }) (record { reset = reset; start = start; valid = 0; hole = hole; din = one })
    ≡ wires.clock (record c { is_open = is_open }) (record { reset = reset; start = start; valid = 0; hole = hole; din = two })
idle_core c zero reset start hole one two = refl
idle_core c (suc n) reset start hole one two = rw (ne_eqb (suc n) 0 (λ e. absurd (omega arith))) refl

pub both_none : (a : ℕ) → ◌≡◌ {A = ℕ} (if nat_eq a 0 then 0 else 0) 0
both_none a = by (nat_eq a 0)
  where
    by : (t : Bool) → ◌≡◌ {A = ℕ} (if t then 0 else 0) 0
    by true = refl
    by false = refl

-- a clock in which the processor makes an access, and the next one of its cycle, in which it makes none
module _ (board : Board) (first second : Drive) (d write_later a_later d_later : ℕ) where
  abbrev bus_at : (write a : ℕ) → Bus
  bus_at write a = record {
    reset = 0;
    hold = first.hold;
    access = 1;
    write = write;
    a = a;
    d = d;
    big = first.big;
    rom = first.rom;
    undefined = first.undefined;
  }

  abbrev other : Bus
  other = record {
    reset = 0;
    hold = second.hold;
    access = 0;
    write = write_later;
    a = a_later;
    d = d_later;
    big = second.big;
    rom = second.rom;
    undefined = second.undefined;
  }

  -- a board from which the core gets no byte next, with one or the other byte read
  same_without : (b : Board) (one two pending : ℕ) → pending ≡ 0
      → pin.clock (record b { read = one; pending = pending }) other ≡ pin.clock (record b { read = two; pending = pending }) other
  same_without b one two pending e =
      subst (λ p. pin.clock (record b { read = one; pending = p }) other ≡ pin.clock (record b { read = two; pending = p }) other)
      (sym e) at_zero
    where
      at_zero : pin.clock (record b { read = one; pending = 0 }) other ≡ pin.clock (record b { read = two; pending = 0 }) other
      at_zero =
          let now = pin.pins (record b { read = one; pending = 0 }) other in
          ap (λ c. record (pin.clock (record b { read = one; pending = 0 }) other) { core = c })
          (idle_core b.core b.core.is_open now.reset now.start now.hole now.din
          (pin.pins (record b { read = two; pending = 0 }) other).din)

  -- a read at another place, which looks at nothing, and leaves the board after the cycle as the read here does
  record Elsewhere (R : List ℕ) (write a : ℕ) : Type 0 where
    place : ℕ
    fits : a < 65536 → place < 65536
    idle : IsIdle board (bus_at write place)
    served : IsServed R board (bus_at write a) → IsServed R board (bus_at write place)
    later : IsServed R (pin.clock board (bus_at write a)) other → IsServed R (pin.clock board (bus_at write place)) other
    after : pin.clock (pin.clock board (bus_at write place)) other ≡ pin.clock (pin.clock board (bus_at write a)) other

  module _ (R : List ℕ) where
    of_flag : Elsewhere R 0 0x2002
    of_flag = record {
      place = 0x2003;
      fits = λ less. lit< tt;
      idle = idle_read board (bus_at 0 0x2003) refl refl refl;
      served = λ s. record { big = s.big; rom = s.rom };
      later = λ s. record { big = s.big; rom = s.rom };
      after = refl;
    }

    of_byte1 : Elsewhere R 0 0x4001
    of_byte1 = let now = pin.clock board (bus_at 0 0x4001) in record {
      place = 0x4000;
      fits = λ less. lit< tt;
      idle = idle_read board (bus_at 0 0x4000) refl refl refl;
      served = λ s. record { big = s.big; rom = s.rom };
      later = λ s. record { big = s.big; rom = s.rom };
      after = same_without now (board.ram 0) (board.ram 1) now.pending (both_none _);
    }

    of_place : (a : ℕ) → Elsewhere R 0 a
    of_place a = by (nat_eq a 0x2002) (nat_eq a 0x4001) refl refl
      where
        by : (f b : Bool) → nat_eq a 0x2002 ≡ f → nat_eq a 0x4001 ≡ b → Elsewhere R 0 a
        by true b flag byte1 = subst (Elsewhere R 0) (sym (eqb-true a 0x2002 flag)) of_flag
        by false true flag byte1 = subst (Elsewhere R 0) (sym (eqb-true a 0x4001 byte1)) of_byte1
        by false false flag byte1 = record {
          place = a;
          fits = λ less. less;
          idle = idle_read board (bus_at 0 a) refl flag byte1;
          served = λ s. s;
          later = λ s. s;
          after = refl;
        }

module _ (R image : List ℕ) (held : ℕ → ℕ) (calls : List Call) where
  -- a machine so far, after cycles from these cells on: of other clocks, which leave the board as it is
  pub record Quietly (older : List Bus) (board : Board) (cells : Cells) (turns : List Turn) : Type 0 where
    pub log : Log
    pub shown : List Bus
    pub on : IsMachine R image held calls log shown
    pub alike : AreAlike (buses (begins cells board) turns older) shown
    pub board_is : after held shown ≡ (ends (begins cells board) turns).board

  -- one cycle
  module _ (log : Log) (older shown : List Bus) (board : Board) (cells : Cells) (two : Two) (on : IsMachine R image held calls log shown)
      (alike : AreAlike older shown) (is : after held shown ≡ board) (is1 : IsBus (first_bus (begins cells board) two))
      (is2 : IsBus (second_bus (begins cells board) two)) (served1 : IsServed R board (first_bus (begins cells board) two))
      (served2 : IsServed R (between (begins cells board) two).board (second_bus (begins cells board) two)) where
    abbrev one : Bus
    one = first_bus (begins cells board) two

    abbrev last : Bus
    last = second_bus (begins cells board) two

    abbrev Found : (write a : ℕ) → Type 0
    Found write a = Elsewhere board two.first two.second (dout cells) last.write last.a last.d R write a

    -- by a clock that stands for the first one
    quiet_by : (bus : Bus) → IsBus bus → IsServed R board bus → IsIdle board bus → IsServed R (pin.clock board bus) last
        → AreAlike (one ∷ older) (bus ∷ shown) → pin.clock (pin.clock board bus) last ≡ (next (begins cells board) (acts two)).board
        → nat_eq bus.reset 0 ≡ true → Quietly older board cells (acts two ∷ [])
    quiet_by bus is_bus served idle later now after_is reset =
        let log1 = answered image held shown bus false log in
        let same_calls : system.calls_after bus false calls ≡ calls = ap (λ (t : Bool). if t then calls else calls) reset in
        let on1 : IsMachine R image held calls log1 (bus ∷ shown) = subst (λ c. IsMachine R image held c log1 (bus ∷ shown)) same_calls
        (system.waits bus false on is_bus (subst (λ b. IsServed R b bus) (sym is) served) (subst (λ b. IsIdle b bus) (sym is) idle)) in
        record {
          log = answered image held (bus ∷ shown) last false log1;
          shown = last ∷ bus ∷ shown;
          on = system.waits last false on1 is2 (subst (λ b. IsServed R (pin.clock b bus) last) (sym is) later) (refl, refl);
          alike = same last now;
          board_is = ap (λ b. pin.clock (pin.clock b bus) last) is ∙ after_is;
        }

    pub quiet_cycle : AreQuiet (access cells (cycle_of (begins cells board) two).din ∷ []) → Quietly older board cells (acts two ∷ [])
    quiet_cycle q = by (nat_eq (write cells) 0) refl q
      where
        by : (w : Bool) → nat_eq (write cells) 0 ≡ w
            → AreQuiet ((if w then Reads (at cells) (cycle_of (begins cells board) two).din else Writes (at cells) (dout cells)) ∷ [])
            → Quietly older board cells (acts two ∷ [])
        by true e q =
            let none = eqb-true (write cells) 0 e in
            let found : Found (write cells) (at cells) = subst (λ w. Found w (at cells)) (sym none)
            (of_place board two.first two.second (dout cells) last.write last.a last.d R (at cells)) in
            quiet_by (record one { a = found.place }) (record { reset = is1.reset; a = found.fits is1.a; d = is1.d; rom = is1.rom })
            (found.served served1) found.idle (found.later served2) (elsewhere one found.place none alike) found.after refl
        by false e q = quiet_by one is1 served1 (idle_write board one e q.0.0 q.0.1) served2 (same one alike) refl refl

  -- a clock in which the processor waits
  pub quiet_wait : (log : Log) (older shown : List Bus) (board : Board) (cells : Cells) (drive : Drive)
      → IsMachine R image held calls log shown → AreAlike older shown → after held shown ≡ board
      → IsBus (wait_bus (begins cells board) drive) → IsServed R board (wait_bus (begins cells board) drive)
      → Quietly older board cells (idles drive ∷ [])
  quiet_wait log older shown board cells drive on alike is is_bus served =
      let bus = wait_bus (begins cells board) drive in record {
        log = answered image held shown bus false log;
        shown = bus ∷ shown;
        on = system.waits bus false on is_bus (subst (λ b. IsServed R b bus) (sym is) served) (refl, refl);
        alike = same bus alike;
        board_is = ap (λ b. pin.clock b bus) is;
      }

  pub quietly : (turns : List Turn) (log : Log) (older shown : List Bus) (board : Board) (cells : Cells)
      → IsMachine R image held calls log shown → AreAlike older shown → after held shown ≡ board
      → AreServed R (begins cells board) turns
      → AreQuiet (made cells (cycles_of (begins cells board) turns) []) → Quietly older board cells turns
  quietly [] log older shown board cells on alike is served quiet =
      record { log = log; shown = shown; on = on; alike = alike; board_is = is }
  quietly (acts two ∷ later) log older shown board cells on alike is served quiet =
      let machine = begins cells board in
      let cycle = cycle_of machine two in
      let both = write_first IsQuiet cells cycle (cycles_of (next machine (acts two)) later) quiet in
      let done = quiet_cycle log older shown board cells two on alike is served.0 served.1.0 served.1.1.0 served.1.1.1.0 both.0 in
      let rest = quietly later done.log (second_bus machine two ∷ first_bus machine two ∷ older) done.shown
      (next machine (acts two)).board (clock cells (pins_of cycle)) done.on done.alike done.board_is served.1.1.1.1 both.1 in
      record { log = rest.log; shown = rest.shown; on = rest.on; alike = rest.alike; board_is = rest.board_is }
  quietly (idles drive ∷ later) log older shown board cells on alike is served quiet =
      let machine = begins cells board in
      let done = quiet_wait log older shown board cells drive on alike is served.0 served.1.0 in
      let rest = quietly later done.log (wait_bus machine drive ∷ older) done.shown (next machine (idles drive)).board cells
      done.on done.alike done.board_is served.1.1 quiet in
      record { log = rest.log; shown = rest.shown; on = rest.on; alike = rest.alike; board_is = rest.board_is }

-- the same before the first call, of cycles that send no strobe
module _ (R image : List ℕ) (held : ℕ → ℕ) where
  pub testing : (turns : List Turn) (log : Log) (older shown : List Bus) (board : Board) (cells : Cells)
      → IsMachine R image held [] log shown → AreAlike older shown → after held shown ≡ board
      → AreServed R (begins cells board) turns
      → SendNothing (made cells (cycles_of (begins cells board) turns) []) → Quietly R image held [] older board cells turns
  testing [] log older shown board cells on alike is served quiet =
      record { log = log; shown = shown; on = on; alike = alike; board_is = is }
  testing (acts two ∷ later) log older shown board cells on alike is served quiet =
      let machine = begins cells board in
      let one = first_bus machine two in
      let last = second_bus machine two in
      let cycle = cycle_of machine two in
      let both = write_first IsSilent cells cycle (cycles_of (next machine (acts two)) later) quiet in
      let on1 = system.tests one on served.0 (subst (λ b. IsServed R b one) (sym is) served.1.1.0)
      (sends_nothing one cycle.din both.0) in
      let on2 = system.tests last on1 served.1.0 (subst (λ b. IsServed R (pin.clock b one) last) (sym is) served.1.1.1.0) refl in
      let rest = testing later _ (last ∷ one ∷ older) (last ∷ one ∷ shown) (next machine (acts two)).board
      (clock cells (pins_of cycle)) on2 (same last (same one alike)) (ap (λ b. pin.clock (pin.clock b one) last) is)
      served.1.1.1.1 both.1 in
      record { log = rest.log; shown = rest.shown; on = rest.on; alike = rest.alike; board_is = rest.board_is }
  testing (idles drive ∷ later) log older shown board cells on alike is served quiet =
      let machine = begins cells board in
      let bus = wait_bus machine drive in
      let on1 = system.tests bus on served.0 (subst (λ b. IsServed R b bus) (sym is) served.1.0) refl in
      let rest = testing later _ (bus ∷ older) (bus ∷ shown) (next machine (idles drive)).board cells on1 (same bus alike)
      (ap (λ b. pin.clock b bus) is) served.1.1 quiet in
      record { log = rest.log; shown = rest.shown; on = rest.on; alike = rest.alike; board_is = rest.board_is }
