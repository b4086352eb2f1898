-- Boards that differ in what a look has found: they go on alike.
use Rattle.std.proofs.Common.{◌≡◌, ◌⊎◌, inl, inr, ℕ, zero, suc, ◌<◌, Bool, true, false, refl, sym, ap, ◌∙◌, subst, arith}
use Rattle.std.proofs.Common.{eqb-true}
use Rattle.std.specs.Prelude.{nat_eq, if◌then◌else◌, List, Some, None}
use Rattle.std.proofs.lemmas.Bool.{ne_eqb}
use Rattle.dvg_driver.specs.declared.action.Action.TheVariants.{Peek, Read}
use Rattle.dvg_calls_6502.specs.Processor.{Access, Reads, Writes}
use Rattle.dvg_cells_core.specs.Cells.{both, eq, joined, mux, none, part, some}
use Rattle.dvg_cells_core.specs.Core.{Core, halted}
use Rattle.dvg_cells_core.specs.Core as wires
use Rattle.dvg_cells_board.specs.Board.{Board, Bus, clock, pins, q}
use Rattle.dvg_cells_board.specs.Clocks.{IsServed}
use Rattle.dvg_calls_board.specs.Machine.{IsIdle, Makes}

-- the same, but for the flag that was looked at, and for a byte that the core doesn't get next
pub record Same (one two : Board) : Type 0 where
  pub starting : one.starting ≡ two.starting
  pub pending : one.pending ≡ two.pending
  pub ran : one.ran ≡ two.ran
  pub ram : one.ram ≡ two.ram
  pub core : one.core ≡ two.core
  pub read : (one.pending ≡ 0) ⊎ (one.read ≡ two.read)

pub itself : (b : Board) → Same b b
itself b = record { starting = refl; pending = refl; ran = refl; ram = refl; core = refl; read = inr refl }

pub joins : (one two more : Board) → Same one two → Same two more → Same one more
joins one two more s t = record {
  starting = s.starting ∙ t.starting;
  pending = s.pending ∙ t.pending;
  ran = s.ran ∙ t.ran;
  ram = s.ram ∙ t.ram;
  core = s.core ∙ t.core;
  read = by s.read t.read;
}
  where
    by : (one.pending ≡ 0) ⊎ (one.read ≡ two.read) → (two.pending ≡ 0) ⊎ (two.read ≡ more.read)
        → (one.pending ≡ 0) ⊎ (one.read ≡ more.read)
    by (inl e) f = inl e
    by (inr e) (inl f) = inl (s.pending ∙ f)
    by (inr e) (inr f) = inr (e ∙ f)

-- the second one, as the first one with two other registers
as_two : (one two : Board) → Same one two → record one { read = two.read; flag = two.flag } ≡ two
as_two one two s = λ j. record {
  read = two.read;
  starting = s.starting j;
  pending = s.pending j;
  flag = two.flag;
  ran = s.ran j;
  ram = s.ram j;
  core = s.core j;
}

-- a core that gets no byte goes on as it does, whatever is on its pin
idle_core : (c : Core) (is_open reset start hole one two : ℕ)
    → wires.clock (record c { is_open = is_open }) (record { reset = reset; start = start; valid = 0; hole = hole; din = one })
    ≡ wires.clock (record c { is_open = is_open }) (record { reset = reset; start = start; valid = 0; hole = hole; din = two })
idle_core c zero reset start hole one two = refl
idle_core c (suc n) reset start hole one two = rw (ne_eqb (suc n) 0 (λ e. absurd (omega arith))) refl

both_none : (a : ℕ) → both a 0 ≡ 0
both_none a = by (nat_eq a 0)
  where
    by : (t : Bool) → ◌≡◌ {A = ℕ} (if t then 0 else 0) 0
    by true = refl
    by false = refl

-- where the processor isn't on the RAM, or doesn't write it, what was read is new
fresh_read : (on write old other new : ℕ) → both on write ≡ 0 → mux (both on write) old new ≡ mux (both on write) other new
fresh_read on write old other new off = ap (λ w. mux w old new) off ∙ sym (ap (λ w. mux w other new) off)

either_read : (on write old other new asks : ℕ)
    → (both asks (none on) ≡ 0) ⊎ (mux (both on write) old new ≡ mux (both on write) other new)
either_read on write old other new asks = by (nat_eq on 0) refl
  where
    by : (t : Bool) → nat_eq on 0 ≡ t
        → (both asks (none on) ≡ 0) ⊎ (mux (both on write) old new ≡ mux (both on write) other new)
    by true off = inr (fresh_read on write old other new (ap (λ (t : Bool). if t then 0 else some write) off))
    by false here = inl (ap (λ (t : Bool). both asks (if t then 1 else 0)) here ∙ both_none asks)

module _ (b : Board) (read flag : ℕ) (bus : Bus) where
  abbrev other : Board
  other = record b { read = read; flag = flag }

  abbrev on_ram : ℕ
  on_ram = both bus.access (eq (part 11 5 bus.a) 8)

  core_same : (b.pending ≡ 0) ⊎ (b.read ≡ read) → (clock b bus).core ≡ (clock other bus).core
  core_same (inr e) = ap (λ v. (clock (record b { read = v }) bus).core) e
  core_same (inl e) =
      subst (λ p. (clock (record b { pending = p }) bus).core ≡ (clock (record b { pending = p; read = read }) bus).core)
      (sym e) at_zero
    where
      at_zero : (clock (record b { pending = 0 }) bus).core ≡ (clock (record b { pending = 0; read = read }) bus).core
      at_zero = let now = pins (record b { pending = 0 }) bus in
          idle_core b.core b.core.is_open now.reset now.start now.hole now.din
          (pins (record b { pending = 0; read = read }) bus).din

  read_same : (b.pending ≡ 0) ⊎ (b.read ≡ read)
      → ((clock b bus).pending ≡ 0) ⊎ ((clock b bus).read ≡ (clock other bus).read)
  read_same (inr e) = inr (ap (λ v. (clock (record b { read = v }) bus).read) e)
  read_same (inl e) = either_read on_ram bus.write b.read read _ _

  clock_other : (b.pending ≡ 0) ⊎ (b.read ≡ read) → Same (clock b bus) (clock other bus)
  clock_other same = record {
    starting = refl;
    pending = refl;
    ran = refl;
    ram = refl;
    core = core_same same;
    read = read_same same;
  }

  -- what a read finds on `q`
  q_other : bus.write ≡ 0 → (next : Bus) → q (clock b bus) next ≡ q (clock other bus) next
  q_other reading next = ap (λ v. mux (clock b bus).flag (joined 7 0 (clock b bus).ran) v)
      (fresh_read on_ram bus.write b.read read _ (ap (both on_ram) reading ∙ both_none on_ram))

module _ (one two : Board) (s : Same one two) where
  two_is : record one { read = two.read; flag = two.flag } ≡ two
  two_is = as_two one two s

  pub same_clock : (bus : Bus) → Same (clock one bus) (clock two bus)
  same_clock bus = subst (λ k. Same (clock one bus) (clock k bus)) two_is (clock_other one two.read two.flag bus s.read)

  pub same_served : (R : List ℕ) (bus : Bus) → IsServed R one bus → IsServed R two bus
  same_served R bus is = subst (λ k. IsServed R k bus) two_is (record { big = is.big; rom = is.rom })

  pub same_idle : (bus : Bus) → IsIdle one bus → IsIdle two bus
  same_idle bus is = subst (λ k. IsIdle k bus) two_is is

  pub same_makes : (bus : Bus) (access : Access) → Makes one bus access → Makes two bus access
  same_makes bus (Writes a byte) made = made
  same_makes bus (Reads a byte) made = (
    made.0,
    made.1,
    made.2,
    (λ next. subst (λ k. q (clock k bus) next ≡ byte) two_is (sym (q_other one two.read two.flag bus made.1 next) ∙ made.3 next)),
  )

-- a read at another place, which looks at nothing, and leaves the board as the read here does
pub record Elsewhere (R : List ℕ) (board : Board) (bus : Bus) (a : ℕ) : Type 0 where
  pub place : ℕ
  pub fits : a < 65536 → place < 65536
  pub idle : IsIdle board (record bus { access = 1; write = 0; a = place })
  pub same : Same (clock board (record bus { access = 1; write = 0; a = a }))
      (clock board (record bus { access = 1; write = 0; a = place }))

module _ (R : List ℕ) (board : Board) (bus : Bus) where
  abbrev at : ℕ → Bus
  at a = record bus { access = 1; write = 0; a = a }

  idle_at : (a : ℕ) → nat_eq a 0x2002 ≡ false → nat_eq a 0x4001 ≡ false → IsIdle board (at a)
  idle_at a flag byte1 = (
    ap (λ (t : Bool). if t then Some (Read (nat_eq (halted board.core) 1)) else if nat_eq a 0x4001 then Some Peek else None)
        flag ∙ ap (λ (t : Bool). if t then Some Peek else None) byte1,
    refl,
  )

  of_place : (a : ℕ) → Elsewhere R board bus a
  of_place a = by (nat_eq a 0x2002) (nat_eq a 0x4001) refl refl
    where
      of_flag : Elsewhere R board bus 0x2002
      of_flag = record {
        place = 0x2003;
        fits = λ less. omega arith;
        idle = (refl, refl);
        same = record { starting = refl; pending = refl; ran = refl; ram = refl; core = refl; read = inr refl };
      }

      of_byte1 : Elsewhere R board bus 0x4001
      of_byte1 = record {
        place = 0x4000;
        fits = λ less. omega arith;
        idle = (refl, refl);
        same = record { starting = refl; pending = refl; ran = refl; ram = refl; core = refl; read = inl (both_none _) };
      }

      by : (f b : Bool) → nat_eq a 0x2002 ≡ f → nat_eq a 0x4001 ≡ b → Elsewhere R board bus a
      by true b flag byte1 = subst (Elsewhere R board bus) (sym (eqb-true a 0x2002 flag)) of_flag
      by false true flag byte1 = subst (Elsewhere R board bus) (sym (eqb-true a 0x4001 byte1)) of_byte1
      by false false flag byte1 = record {
        place = a;
        fits = λ less. less;
        idle = idle_at a flag byte1;
        same = itself (clock board (at a));
      }

  -- any read
  pub read_elsewhere : bus.access ≡ 1 → bus.write ≡ 0 → (place : ℕ) × (bus.a < 65536 → place < 65536)
      × IsIdle board (record bus { a = place }) × Same (clock board bus) (clock board (record bus { a = place }))
  read_elsewhere access write = let one = of_place bus.a in (
    one.place,
    one.fits,
    subst (λ k. IsIdle board (record k { a = one.place })) is_read one.idle,
    subst (λ k. Same (clock board k) (clock board (record k { a = one.place }))) is_read one.same,
  )
    where
      is_read : record bus { access = 1; write = 0 } ≡ bus
      is_read = λ j. record bus { access = sym access j; write = sym write j }
