-- The latches have what was written last.
use Rattle.std.proofs.Common.{◌≡◌, ℕ, ◌/◌, ◌%◌, ◌<◌, Bool, true, false, List, [], ◌∷◌, refl, sym, ap, ◌∙◌, arith, lit<}
use Rattle.std.specs.Prelude.{nat_eq, ◌&&◌, if◌then◌else◌}
use Rattle.dvg_cells_core.specs.Cells.{bit, both, either, eq, mux, none, part}
use Rattle.dvg_cells_cpu.specs.Cpu.{at, dout, write}
use Rattle.dvg_game_circuit.specs.Game.{Game, Bus}
use Rattle.dvg_game_circuit.specs.Circuit.{Held, IsBus, after}
use Rattle.dvg_game_circuit.specs.Around.{AreLatched, at_place, begins, in_area, is_reset, last, writes}
use Rattle.dvg_game_circuit.proofs.Bits.{access_is, and_both, area_is, bit_of, both_bit, none_is, resets_is}

-- what the registers and the processor's pins fit
pub record Fine (game : Game) : Type 0 where
  pub answers : game.answers < 2
  pub bites : game.bites < 2
  pub place : at game.cpu < 65536
  pub write : write game.cpu < 2
  pub byte : dout game.cpu < 256

latch_on : (r o p s : Bool) (f : ℕ → ℕ) (new d old was : ℕ) → (o && p) ≡ s → f 0 ≡ 0 → new ≡ f d → old ≡ f was
    → mux (bit r) 0 (mux (bit o) (mux (bit p) new old) old) ≡ f (if r then 0 else if s then d else was)
latch_on true o p s f new d old was e zero_is now then_is = sym zero_is
latch_on false true true true f new d old was e zero_is now then_is = now
latch_on false true true false f new d old was e zero_is now then_is = absurd (cc)
latch_on false true false true f new d old was e zero_is now then_is = absurd (cc)
latch_on false true false false f new d old was e zero_is now then_is = then_is
latch_on false false p true f new d old was e zero_is now then_is = absurd (cc)
latch_on false false p false f new d old was e zero_is now then_is = then_is

module _ (held : Held) (clocks : List Bus) (bus : Bus) (is : IsBus bus) (fine : Fine (after held clocks)) where
  abbrev pub game : Game
  game = after held clocks

  abbrev pub a : ℕ
  a = at game.cpu

  abbrev pub restarts : ℕ
  restarts = either bus.reset game.bites

  abbrev pub access : ℕ
  access = mux bus.ready (both (none game.answers) (none restarts)) 0

  abbrev pub is_three : Bool
  is_three = nat_eq (part 12 4 a) 3

  abbrev pub is_output : ℕ
  is_output = both (both access (write game.cpu)) (eq (part 12 4 a) 3)

  pub reset_is : both restarts (none game.answers) ≡ bit (is_reset game bus)
  reset_is = resets_is bus.reset game.bites game.answers is.reset fine.bites

  pub begins_is : access ≡ bit (begins game bus)
  begins_is = access_is bus.ready game.answers bus.reset game.bites is.ready is.reset fine.bites

  pub writes_is : both access (write game.cpu) ≡ bit (begins game bus && nat_eq (write game.cpu) 1)
  writes_is = ap (λ n. both n (write game.cpu)) begins_is ∙ ap (both (bit (begins game bus))) (bit_of (write game.cpu) fine.write)
      ∙ both_bit (begins game bus) (nat_eq (write game.cpu) 1)

  pub output_is : is_output ≡ bit ((begins game bus && nat_eq (write game.cpu) 1) && is_three)
  output_is = ap (λ n. both n (eq (part 12 4 a) 3)) writes_is ∙ both_bit (begins game bus && nat_eq (write game.cpu) 1) is_three

  -- a write at a place of this kind
  pub written_is : (p : Bool) (kind : ℕ → Bool) → (is_three && p) ≡ kind a
      → (((begins game bus && nat_eq (write game.cpu) 1) && is_three) && p) ≡ writes game bus kind
  written_is p kind e =
      and_both (begins game bus && nat_eq (write game.cpu) 1) is_three p
      ∙ ap (λ t. (begins game bus && nat_eq (write game.cpu) 1) && t) e
      ∙ and_both (begins game bus) (nat_eq (write game.cpu) 1) (kind a)

  latch : (f : ℕ → ℕ) (new old : ℕ) (p : Bool) (kind : ℕ → Bool) → (is_three && p) ≡ kind a → f 0 ≡ 0 → new ≡ f (dout game.cpu)
      → old ≡ f (last held clocks kind)
      → mux (both restarts (none game.answers)) 0 (mux is_output (mux (bit p) new old) old) ≡ f (last held (bus ∷ clocks) kind)
  latch f new old p kind e zero_is now then_is =
      ap (λ n. mux n 0 (mux is_output (mux (bit p) new old) old)) reset_is
      ∙ ap (λ n. mux (bit (is_reset game bus)) 0 (mux n (mux (bit p) new old) old)) output_is
      ∙ latch_on (is_reset game bus) ((begins game bus && nat_eq (write game.cpu) 1) && is_three) p (writes game bus kind) f new
      (dout game.cpu) old (last held clocks kind) (written_is p kind e) zero_is now then_is

  -- one of the eight places of an area
  place_is : (k : ℕ) → (is_three && (nat_eq (part 9 3 a) 6 && nat_eq (part 0 3 a) k)) ≡ (nat_eq (a / 0x200) 30 && nat_eq (a % 8) k)
  place_is k = sym (and_both is_three (nat_eq (part 9 3 a) 6) (nat_eq (part 0 3 a) k))
      ∙ ap (λ t. t && nat_eq (part 0 3 a) k) (area_is a 6 fine.place (lit< tt))
      ∙ ap (λ n. nat_eq (a / 0x200) 30 && nat_eq n k) (let same : part 0 3 a ≡ a % 8 = omega arith in same)

  abbrev sound : (select bit7 old : ℕ) → ℕ
  sound select bit7 old = mux (both restarts (none game.answers)) 0 (mux is_output (mux select bit7 old) old)

  sound_is : (select old k : ℕ) (kind : ℕ → Bool) → select ≡ bit (nat_eq (part 9 3 a) 6 && nat_eq (part 0 3 a) k)
      → (nat_eq (a / 0x200) 30 && nat_eq (a % 8) k) ≡ kind a → old ≡ last held clocks kind / 128
      → sound select (part 7 1 (dout game.cpu)) old ≡ last held (bus ∷ clocks) kind / 128
  sound_is select old k kind e f then_is =
      ap (λ n. sound n (part 7 1 (dout game.cpu)) old) e
      ∙ latch (λ d. d / 128) (part 7 1 (dout game.cpu)) old (nat_eq (part 9 3 a) 6 && nat_eq (part 0 3 a) k) kind (place_is k ∙ f) refl
      (let small = fine.byte in omega arith) then_is

  -- what was written last is a byte
  pub last_on : (kind : ℕ → Bool) → last held clocks kind < 256 → last held (bus ∷ clocks) kind < 256
  last_on kind less = by (is_reset game bus) (writes game bus kind)
    where
      by : (r s : Bool) → (if r then 0 else if s then dout game.cpu else last held clocks kind) < 256
      by true s = lit< tt
      by false true = fine.byte
      by false false = less

  pub latched_on : ((kind : ℕ → Bool) → last held clocks kind < 256) → AreLatched held clocks → AreLatched held (bus ∷ clocks)
  latched_on small was =
      let area = λ (k : ℕ). nat_eq (part 9 3 a) k in
      let s0 = small (at_place 0x3C00) in
      let s1 = small (at_place 0x3C01) in
      let s2 = small (at_place 0x3C02) in
      let s3 = small (at_place 0x3C03) in
      let s4 = small (at_place 0x3C04) in
      let s5 = small (at_place 0x3C05) in
      let all = was.sounds in
      let six = nat_eq (part 9 3 a) 6 in
      let b0 = sound_is (both (eq (part 9 3 a) 6) (none (part 0 3 a))) (part 0 1 game.sounds) 0 (at_place 0x3C00)
      (ap (both (bit six)) (none_is (part 0 3 a)) ∙ both_bit six (nat_eq (part 0 3 a) 0)) refl (omega arith) in
      let b1 = sound_is (both (eq (part 9 3 a) 6) (eq (part 0 3 a) 1)) (part 1 1 game.sounds) 1 (at_place 0x3C01)
      (both_bit six (nat_eq (part 0 3 a) 1)) refl (omega arith) in
      let b2 = sound_is (both (eq (part 9 3 a) 6) (eq (part 0 3 a) 2)) (part 2 1 game.sounds) 2 (at_place 0x3C02)
      (both_bit six (nat_eq (part 0 3 a) 2)) refl (omega arith) in
      let b3 = sound_is (both (eq (part 9 3 a) 6) (eq (part 0 3 a) 3)) (part 3 1 game.sounds) 3 (at_place 0x3C03)
      (both_bit six (nat_eq (part 0 3 a) 3)) refl (omega arith) in
      let b4 = sound_is (both (eq (part 9 3 a) 6) (eq (part 0 3 a) 4)) (part 4 1 game.sounds) 4 (at_place 0x3C04)
      (both_bit six (nat_eq (part 0 3 a) 4)) refl (omega arith) in
      let b5 = sound_is (both (eq (part 9 3 a) 6) (eq (part 0 3 a) 5)) (part 5 1 game.sounds) 5 (at_place 0x3C05)
      (both_bit six (nat_eq (part 0 3 a) 5)) refl (omega arith) in
      record {
        lamps = latch (λ d. d % 4) (part 0 2 (dout game.cpu)) game.lamps (nat_eq (part 9 3 a) 1) (in_area 0x3200)
            (area_is a 1 fine.place (lit< tt)) refl (omega arith) was.lamps;
        bank = latch (λ d. d / 4 % 2) (part 2 1 (dout game.cpu)) game.bank (nat_eq (part 9 3 a) 1) (in_area 0x3200)
            (area_is a 1 fine.place (lit< tt)) refl refl was.bank;
        counters = latch (λ d. d / 8 % 8) (part 3 3 (dout game.cpu)) game.counters (nat_eq (part 9 3 a) 1) (in_area 0x3200)
            (area_is a 1 fine.place (lit< tt)) refl refl was.counters;
        explosion = latch (λ d. d) (dout game.cpu) game.explosion (nat_eq (part 9 3 a) 3) (in_area 0x3600)
            (area_is a 3 fine.place (lit< tt)) refl refl was.explosion;
        thump = latch (λ d. d % 32) (part 0 5 (dout game.cpu)) game.thump (nat_eq (part 9 3 a) 5) (in_area 0x3A00)
            (area_is a 5 fine.place (lit< tt)) refl (omega arith) was.thump;
        sounds = rw b0 (rw b1 (rw b2 (rw b3 (rw b4 (rw b5 refl)))));
      }

pub latched_first : (held : Held) → AreLatched held []
latched_first held =
    record { lamps = refl; bank = refl; counters = refl; explosion = refl; thump = refl; sounds = refl }
