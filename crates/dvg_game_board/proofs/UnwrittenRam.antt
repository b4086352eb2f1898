-- A clock in which nobody writes the RAM leaves it as it is.
use Rattle.std.proofs.Common.{◌≡◌, ℕ, ◌/◌, ◌%◌, ◌<◌, Bool, true, false, refl, ap, ◌∙◌, arith}
use Rattle.std.specs.Prelude.{◌&&◌, not, nat_eq, if◌then◌else◌, Some, None}
use Rattle.dvg_driver.specs.declared.action.Action.TheVariants.{Wrote, Sent}
use Rattle.dvg_cells_core.specs.Cells.{bit, both, mux, part}
use Rattle.dvg_cells_board.specs.Board.{Board, Bus, clock}
use Rattle.dvg_cells_board.specs.Clocks.{IsBus, changes, sends, writes}
use Rattle.dvg_cells_board.specs.Memory.{memwr}

unwritten : (t s : Bool) (a d : ℕ) → (if t then Some (Wrote a d) else if s then Some Sent else None) ≡ None → t ≡ false
unwritten true s a d is = absurd (cc)
unwritten false s a d is = refl

-- the cells' enable is off
closed : (t u e : Bool) → (not t && (not u && e)) ≡ false
    → mux (if nat_eq (if t then 0 else if nat_eq (bit e) 0 then 0 else 1) 0 then 0 else if u then 0 else 1) 255 0 ≡ 0
closed true u e is = refl
closed false true true is = refl
closed false true false is = refl
closed false false true is = absurd (cc)
closed false false false is = refl

page : (a : ℕ) → a < 65536 → part 11 5 a ≡ a / 0x800
page a small = omega (arith, small)

enable : (bus : Bus) → IsBus bus → writes bus ≡ false
    → mux (both (both bus.access (bit (nat_eq (part 11 5 bus.a) 8))) bus.write) 255 0 ≡ 0
enable bus is none = closed (nat_eq bus.access 0) (nat_eq bus.write 0) (nat_eq (part 11 5 bus.a) 8)
    (ap (λ n. not (nat_eq bus.access 0) && (not (nat_eq bus.write 0) && nat_eq n 8)) (page bus.a is.a) ∙ none)

pub ram_stays : (board : Board) (bus : Bus) (a : ℕ) → IsBus bus → changes bus ≡ None → (clock board bus).ram a ≡ board.ram a
ram_stays board bus a is none = ap (λ n. memwr n (mux (both (both bus.access (bit (nat_eq (part 11 5 bus.a) 8))) bus.write)
    (mux (both bus.access (bit (nat_eq (part 11 5 bus.a) 8))) (part 0 11 bus.a)
    (Rattle.dvg_cells_core.specs.Cells.joined 1 board.core.high (part 0 10 board.core.at))) (part 0 11 bus.undefined))
    (mux (both (both bus.access (bit (nat_eq (part 11 5 bus.a) 8))) bus.write) bus.d (part 0 8 bus.undefined)) board.ram a)
    (enable bus is (unwritten (writes bus) (sends bus) (bus.a % 0x800) bus.d none))
