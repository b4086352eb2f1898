-- What the board answers the processor.
use Rattle.std.proofs.Common.{◌≡◌, ◌≢◌, ℕ, ◌+◌, ◌*◌, ◌/◌, ◌%◌, ◌<◌, Bool, true, false, not, List, length, refl, sym, ap, ◌∙◌, arith, inl, inr}
use Rattle.std.specs.Prelude.{is_none, nat_eq, ◌&&◌, if◌then◌else◌, slice_index}
use Rattle.std.proofs.lemmas.Bool.{eqb-true}
use Rattle.std.proofs.lemmas.Bool.Decides.{eqb_tells}
use Rattle.dvg_log.specs.Log.{Log, ram, open_run}
use Rattle.dvg_cells_core.specs.Cells.{bit, both, none, some, mux, joined, part}
use Rattle.dvg_cells_core.specs.Core.{halted}
use Rattle.dvg_cells_board.specs.Board.{Board, Bus, q, clock}
use Rattle.dvg_cells_board.specs.Clocks.{IsBus, after, reads}
use Rattle.dvg_cells_board.specs.Logs.{OfEachBoard}
use Rattle.dvg_cells_board.specs.Answers.{uses_ram, Answers, AnswersNext, Works, BoardWorks}
use Rattle.dvg_cells_board.proofs.System.{pin_is, never}
use Rattle.dvg_cells_board.proofs.Cores.{cores, core_is}
use Rattle.dvg_cells_board.proofs.Board.{holds}
use Rattle.dvg_cells_board.proofs.Wires.{on_of, writes_of, other, place_of, asks_of, not_one, ram_of, ram_is, read_is}

never' : {A : Type 0} → true ≡ false → A
never' e = cc

-- the three tests of an access
pub third : (x y z : Bool) → (not x && (y && z)) ≡ true → (x ≡ false) × (y ≡ true) × (z ≡ true)
third true y z e = never e
third false false z e = never e
third false true false e = never e
third false true true e = (refl, refl, refl)

second : (x z : Bool) → (not x && z) ≡ true → (x ≡ false) × (z ≡ true)
second true z e = never e
second false false e = never e
second false true e = (refl, refl)

on_none : (x z : Bool) → (not x && z) ≡ false → on_of x z ≡ 0
on_none true z e = refl
on_none false true e = never' e
on_none false false e = refl

abbrev looks_of : (x y z : Bool) → ℕ
looks_of x y z = both (if x then 0 else some (if y then 1 else 0)) (bit z)

flag_by : (shut : Bool) → joined 7 0 (if nat_eq (if shut then 1 else 0) 0 then 1 else 0) ≡ (if nat_eq (if shut then 1 else 0) 1 then 0 else 128)
flag_by true = refl
flag_by false = refl

starts_by : (x y z r : Bool) → (not x && (not y && z)) ≡ true → r ≡ true
    → both (both (if x then 0 else if y then 0 else 1) (bit z)) (if r then 1 else 0) ≡ 1
starts_by true y z r e f = never e
starts_by false true z r e f = never e
starts_by false false false r e f = never e
starts_by false false true false e f = never f
starts_by false false true true e f = refl

asks_by : (x r s p u on : Bool) → x ≡ false → r ≡ true → s ≡ true → p ≡ true → on_of u on ≡ 0 → asks_of x r s p u on ≡ 1
asks_by true r s p u on e f g h o = never' e
asks_by false false s p u on e f g h o = never f
asks_by false true false p u on e f g h o = never g
asks_by false true true false u on e f g h o = never h
asks_by false true true true true on e f g h o = refl
asks_by false true true true false false e f g h o = refl
asks_by false true true true false true e f g h o = not_one (sym o)

is_not : (a b : ℕ) → a ≢ b → nat_eq a b ≡ false
is_not a b n = elim (eqb_tells a b) [ inl t ↦ absurd (n t.1) | inr t ↦ t.0 ]

module _ (image : List ℕ) (board : Board) (log : Log) (bus : Bus) (is : IsBus bus) (size : length (ram image log) ≡ 2048)
    (same : (a : ℕ) → a < 2048 → board.ram a ≡ slice_index (ram image log) a)
    (pin : nat_eq (halted board.core) 1 ≡ is_none (open_run log)) where
  abbrev unused : Bool
  unused = nat_eq bus.access 0

  abbrev reading : Bool
  reading = nat_eq bus.write 0

  abbrev Q : (x y z n : Bool) → ℕ
  Q x y z n = mux (looks_of x y z) (joined 7 0 (none (halted board.core))) (mux (writes_of x y n) board.read (board.ram (place_of board bus (on_of x n))))

  by_byte : (x y z n : Bool) → x ≡ false → y ≡ true → z ≡ false → n ≡ true → Q x y z n ≡ board.ram (part 0 11 bus.a)
  by_byte true y z n xe ye ze ne = never' xe
  by_byte false false z n xe ye ze ne = never ye
  by_byte false true true n xe ye ze ne = never' ze
  by_byte false true false false xe ye ze ne = never ne
  by_byte false true false true xe ye ze ne = refl

  by_flag : (x y z n : Bool) → x ≡ false → y ≡ true → z ≡ true → Q x y z n ≡ joined 7 0 (none (halted board.core))
  by_flag true y z n xe ye ze = never' xe
  by_flag false false z n xe ye ze = never ye
  by_flag false true false n xe ye ze = never ze
  by_flag false true true n xe ye ze = refl

  named : (b : Bool) → nat_eq (bus.a / 0x800) 8 ≡ b → nat_eq (part 11 5 bus.a) 8 ≡ b
  named b e = let small = is.a in let parts : part 11 5 bus.a ≡ bus.a / 0x800 = omega arith in ap (λ n. nat_eq n 8) parts ∙ e

  byte : (next : Bus) → uses_ram bus ≡ true → bus.write ≡ 0 → q (clock board bus) next ≡ slice_index (ram image log) (bus.a % 0x800)
  byte next uses reads =
      let two = second unused (nat_eq (bus.a / 0x800) 8) uses in
      let page : bus.a / 0x800 ≡ 8 = eqb-true (bus.a / 0x800) 8 two.1 in
      let low : part 0 11 bus.a ≡ bus.a % 0x800 = omega arith in
      by_byte unused reading (nat_eq bus.a 8194) (nat_eq (part 11 5 bus.a) 8) two.0 (ap (λ n. nat_eq n 0) reads) (is_not bus.a 8194 (λ e. omega arith)) (named true two.1)
      ∙ same (part 0 11 bus.a) (omega arith) ∙ ap (slice_index (ram image log)) low

  answers : Answers image board log bus
  answers = record {
    byte = byte;
    flag = λ next is. let three = third unused reading (nat_eq bus.a 0x2002) is in
        by_flag unused reading (nat_eq bus.a 8194) (nat_eq (part 11 5 bus.a) 8) three.0 three.1 three.2
        ∙ flag_by (nat_eq board.core.is_open 0) ∙ ap (λ b. if b then 0 else 128) pin;
    starts = λ is reset. starts_by unused reading (nat_eq bus.a 12288) (nat_eq bus.reset 0) is (ap (λ n. nat_eq n 0) reset);
    serves = λ free running hold reset start pending.
        asks_by (nat_eq (both (none (halted board.core)) (none bus.hold)) 0) (nat_eq bus.reset 0) (nat_eq board.starting 0) (nat_eq board.pending 0) unused (nat_eq (part 11 5 bus.a) 8)
        (ap (λ n. nat_eq (both (none n) (none bus.hold)) 0) running ∙ ap (λ n. nat_eq (both (none 0) (none n)) 0) hold)
        (ap (λ n. nat_eq n 0) reset) (ap (λ n. nat_eq n 0) start) (ap (λ n. nat_eq n 0) pending)
        (ap (on_of unused) (named (nat_eq (bus.a / 0x800) 8) refl) ∙ on_none unused (nat_eq (bus.a / 0x800) 8) free);
  }

pub answers_next : OfEachBoard (λ R image held log clocks. AnswersNext image held log clocks)
answers_next R image held log clocks is_board bus is =
    let h = holds is_board in
    answers image (after held clocks) log bus is h.is_image.count h.same
    (ap (λ c. nat_eq (halted c) 1) (core_is held clocks) ∙ pin_is R image log (cores held clocks) h.keeps)

sends_is : (x y z r : Bool) → both (both (if x then 0 else if y then 0 else 1) (bit z)) (if r then 1 else 0)
    ≡ bit ((not x && (not y && z)) && r)
sends_is true y z r = refl
sends_is false true z r = refl
sends_is false false false r = refl
sends_is false false true true = refl
sends_is false false true false = refl

asks_is : (h o r s p acc on : Bool)
    → asks_of (nat_eq (both (if h then 1 else 0) (if o then 1 else 0)) 0) r s p acc on
    ≡ bit (h && (o && (r && (s && (p && not (not acc && on))))))
asks_is false o r s p acc on = refl
asks_is true false r s p acc on = refl
asks_is true true false s p acc on = refl
asks_is true true true false p acc on = refl
asks_is true true true true false acc on = refl
asks_is true true true true true true on = refl
asks_is true true true true true false true = refl
asks_is true true true true true false false = refl

takes_is : (p r s : Bool) → both (if p then 0 else some (if r then 1 else 0)) (if s then 1 else 0) ≡ bit (not p && (r && s))
takes_is true r s = refl
takes_is false false s = refl
takes_is false true true = refl
takes_is false true false = refl

answers_by : (x y z shut : Bool) (r : ℕ) → mux (looks_of x y z) (joined 7 0 (none (if shut then 1 else 0))) r
    ≡ (if not x && (y && z) then (if nat_eq (if shut then 1 else 0) 0 then 128 else 0) else r)
answers_by true y z shut r = refl
answers_by false false z shut r = refl
answers_by false true false shut r = refl
answers_by false true true true r = refl
answers_by false true true false r = refl

module _ (board : Board) (bus : Bus) (is : IsBus bus) where
  page : nat_eq (part 11 5 bus.a) 8 ≡ nat_eq (bus.a / 0x800) 8
  page = let small = is.a in let parts : part 11 5 bus.a ≡ bus.a / 0x800 = omega arith in ap (λ n. nat_eq n 8) parts

  place : part 0 11 bus.a ≡ bus.a % 0x800
  place = omega arith

  ram_steps : (acc wr on : Bool) (a : ℕ) → ram_of board bus (writes_of acc wr on) (on_of acc on) a
      ≡ (if (not acc && (not wr && on)) && nat_eq a (bus.a % 0x800) then bus.d else board.ram a)
  ram_steps true wr on a = refl
  ram_steps false true true a = refl
  ram_steps false true false a = refl
  ram_steps false false false a = refl
  ram_steps false false true a = ap (λ n. if nat_eq a n then bus.d else board.ram a) place

  core_place : other board bus ≡ 2 * (board.core.at % 0x400) + board.core.high
  core_place = omega arith

  read_steps : (acc wr on : Bool) → mux (writes_of acc wr on) board.read (board.ram (place_of board bus (on_of acc on)))
      ≡ (if not acc && (not wr && on) then board.read
      else board.ram (if not acc && on then bus.a % 0x800 else 2 * (board.core.at % 0x400) + board.core.high))
  read_steps true wr on = ap board.ram core_place
  read_steps false true true = ap board.ram place
  read_steps false true false = ap board.ram core_place
  read_steps false false true = refl
  read_steps false false false = ap board.ram core_place

  works : Works board bus
  works = record {
    starts = sends_is (nat_eq bus.access 0) (nat_eq bus.write 0) (nat_eq bus.a 12288) (nat_eq bus.reset 0);
    serves = asks_is (nat_eq (halted board.core) 0) (nat_eq bus.hold 0) (nat_eq bus.reset 0) (nat_eq board.starting 0)
        (nat_eq board.pending 0) (nat_eq bus.access 0) (nat_eq (part 11 5 bus.a) 8)
        ∙ ap (λ on. bit (nat_eq (halted board.core) 0 && (nat_eq bus.hold 0 && (nat_eq bus.reset 0
        && (nat_eq board.starting 0 && (nat_eq board.pending 0 && not (not (nat_eq bus.access 0) && on))))))) page;
    takes = takes_is (nat_eq board.pending 0) (nat_eq bus.reset 0) (nat_eq board.starting 0);
    ram = λ a. ap (λ f. f a) (ram_is board bus)
        ∙ ram_steps (nat_eq bus.access 0) (nat_eq bus.write 0) (nat_eq (part 11 5 bus.a) 8) a
        ∙ ap (λ on. if (not (nat_eq bus.access 0) && (not (nat_eq bus.write 0) && on)) && nat_eq a (bus.a % 0x800)
        then bus.d else board.ram a) page;
    answers = λ next. answers_by (nat_eq bus.access 0) (nat_eq bus.write 0) (nat_eq bus.a 8194)
        (nat_eq board.core.is_open 0) (clock board bus).read;
    read = read_is board bus ∙ read_steps (nat_eq bus.access 0) (nat_eq bus.write 0) (nat_eq (part 11 5 bus.a) 8)
        ∙ ap (λ on. if not (nat_eq bus.access 0) && (not (nat_eq bus.write 0) && on) then board.read
        else board.ram (if not (nat_eq bus.access 0) && on then bus.a % 0x800
        else 2 * (board.core.at % 0x400) + board.core.high)) page;
  }

pub board_works : BoardWorks
board_works board bus is = works board bus is
