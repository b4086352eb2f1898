-- What a read of the circuit's own memories finds.
use Rattle.std.proofs.Common.{◌≡◌, ℕ, suc, ◌-◌, ◌/◌, ◌%◌, ◌<◌, ◌≤◌, Bool, true, false, refl, sym, ap, ◌∙◌, arith, lit<, le-leb, leb-true, inl, inr}
use Rattle.std.specs.Prelude.{nat_eq, nat_le, nat_lt, ◌&&◌, ◌⊎◌, if◌then◌else◌}
use Rattle.std.proofs.lemmas.Bool.{cases_lt, lt-leb, ne_eqb}
use Rattle.std.proofs.lemmas.Nat.{mod_below}
use Rattle.dvg_cells_core.specs.Cells.{bit, both, eq, mux, none, part, joined}
use Rattle.dvg_cells_cpu.specs.Refines.{Where}
use Rattle.dvg_cells_cpu.proofs.Bounds.{mux_in, none_in}
use Rattle.dvg_game_cells.specs.Whole.{Finds}
use Rattle.dvg_game_circuit.specs.Circuit.{read}
use Rattle.dvg_game_circuit.proofs.Projection.{byte_of_input, found_at, input_at, setting_at}

pub both_tests : (t u : Bool) → (t && u) ≡ true → (t ≡ true) × (u ≡ true)
both_tests true true e = (refl, refl)
both_tests true false e = absurd (cc)
both_tests false u e = absurd (cc)

pub where_by : (t : Bool) {P : Type 0} → (t ≡ true → P) → Where t P
where_by true f = f refl
where_by false f = tt

pub read_low : (code : ℕ → ℕ) (a : ℕ) → a < 0x6800 → read code a ≡ code (a % 0x800)
read_low code a less = ap (λ t. code (if t then a % 0x800 else a - 0x6000)) (le-leb (suc a) 0x6800 less)

pub read_high : (code : ℕ → ℕ) (a : ℕ) → 0x6800 ≤ a → read code a ≡ code (a - 0x6000)
read_high code a more = ap (λ t. code (if t then a % 0x800 else a - 0x6000)) (lt-leb (suc a) 0x6800 (omega arith))

-- the place of a byte of the ROM
abbrev pub code_place : ℕ → ℕ
code_place a = joined 11 (part 0 11 a) (mux (both (part 14 1 a) (part 13 1 a)) (part 11 2 a) 0)

code_low : (a : ℕ) → 0x4800 ≤ a → a < 0x6000 → code_place a ≡ a % 0x800
code_low a from to = let high : part 13 1 a ≡ 0 = omega arith in let low : part 14 1 a ≡ 1 = omega arith in
    rw high (rw low (omega arith))

code_mid : (a : ℕ) → 0x6000 ≤ a → a < 0x6800 → code_place a ≡ a % 0x800
code_mid a from to = let high : part 13 1 a ≡ 1 = omega arith in let low : part 14 1 a ≡ 1 = omega arith in
    rw high (rw low (omega arith))

code_high : (a : ℕ) → 0x6800 ≤ a → a < 0x8000 → code_place a ≡ a - 0x6000
code_high a from to = let high : part 13 1 a ≡ 1 = omega arith in let low : part 14 1 a ≡ 1 = omega arith in
    rw high (rw low (omega arith))

code_top : (a : ℕ) → 0xF800 ≤ a → a < 0x10000 → code_place a ≡ a - 0x8000 - 0x6000
code_top a from to = let high : part 13 1 a ≡ 1 = omega arith in let low : part 14 1 a ≡ 1 = omega arith in
    rw high (rw low (omega arith))

chosen : (x y one two three other : ℕ) → nat_eq x 0 ≡ false → nat_eq y 4 ≡ false → nat_eq x 10 ≡ false
    → mux (none x) one (mux (eq y 4) two (mux (eq x 10) three other)) ≡ other
chosen x y one two three other p q r = by (nat_eq x 0) (nat_eq y 4) (nat_eq x 10) p q r
  where
    by : (t u v : Bool) → t ≡ false → u ≡ false → v ≡ false
        → mux (if t then 1 else 0) one (mux (bit u) two (mux (bit v) three other)) ≡ other
    by false false false p q r = refl
    by true u v p q r = absurd (cc)
    by false true v p q r = absurd (cc)
    by false false true p q r = absurd (cc)

-- what is found where nothing else answers
module _ (a held beat switches work_byte code_byte : ℕ) where
  abbrev found : ℕ
  found = found_at a held beat switches work_byte code_byte

  in_work : a < 0x200 → found ≡ work_byte
  in_work less = let low : part 10 6 a ≡ 0 = omega arith in rw low refl

  in_rom : (part 10 6 a ≡ 0 → ⊥) → (part 11 5 a ≡ 4 → ⊥) → (part 10 6 a ≡ 10 → ⊥) → found ≡ code_byte
  in_rom p q r = chosen (part 10 6 a) (part 11 5 a) work_byte (byte_of_input (input_at a held beat))
      (joined 2 (setting_at a switches) 63) code_byte (ne_eqb (part 10 6 a) 0 p) (ne_eqb (part 11 5 a) 4 q) (ne_eqb (part 10 6 a) 10 r)

  pub finds : (code rom work : ℕ → ℕ) → ((b : ℕ) → 0x4800 ≤ b → b < 0x8000 → read code b ≡ rom b) → a < 65536
      → (a < 0x200 → work_byte ≡ work a) → code_byte ≡ code (code_place a) → Finds rom work a found
  finds code rom work loaded small from_work from_code = record {
    in_work = where_by (nat_lt a 0x200) (λ e. let less = leb-true (suc a) 0x200 e in in_work less ∙ from_work less);
    in_rom = where_by (nat_le 0x4800 a && nat_lt a 0x8000) (λ e. let two = both_tests (nat_le 0x4800 a) (nat_lt a 0x8000) e in
        from_rom (leb-true 0x4800 a two.0) (leb-true (suc a) 0x8000 two.1));
    vectors = where_by (nat_le 0xFFFA a) (λ e. from_top (leb-true 0xFFFA a e));
  }
    where
      read_at : 0x4800 ≤ a → a < 0x8000 → (a < 0x6800) ⊎ (0x6800 ≤ a) → (a < 0x6000) ⊎ (0x6000 ≤ a)
          → code (code_place a) ≡ read code a
      read_at from to (inl low) (inl lower) = ap code (code_low a from lower) ∙ sym (read_low code a low)
      read_at from to (inl low) (inr higher) = ap code (code_mid a higher low) ∙ sym (read_low code a low)
      read_at from to (inr high) any = ap code (code_high a high to) ∙ sym (read_high code a high)

      from_rom : 0x4800 ≤ a → a < 0x8000 → found ≡ rom a
      from_rom from to =
          in_rom (λ e. absurd (omega arith)) (λ e. absurd (omega arith)) (λ e. absurd (omega arith)) ∙ from_code
          ∙ read_at from to (cases_lt a 0x6800) (cases_lt a 0x6000) ∙ loaded a from to

      from_top : 0xFFFA ≤ a → found ≡ rom (a - 0x8000)
      from_top from =
          in_rom (λ e. absurd (omega arith)) (λ e. absurd (omega arith)) (λ e. absurd (omega arith)) ∙ from_code
          ∙ ap code (code_top a (omega arith) small) ∙ sym (read_high code (a - 0x8000) (omega arith))
          ∙ loaded (a - 0x8000) (omega arith) (omega arith)

  abbrev last_of : ℕ → ℕ
  last_of two = mux (part 0 1 a) (part 1 1 two) (part 0 1 two)

  last_in : (two : ℕ) → last_of two < 2
  last_in two = mux_in (part 0 1 a) (part 1 1 two) (part 0 1 two) 2 (mod_below (two / 2) 2 (lit< tt)) (mod_below (two / 1) 2 (lit< tt))

  inputs_in : (held : ℕ) → held < 2 → byte_of_input held < 256
  inputs_in held less = byte_in (none held) (none_in held)
    where
      byte_in : (n : ℕ) → n < 2
          → joined 1 n (joined 1 n (joined 1 n (joined 1 n (joined 1 n (joined 1 n (joined 1 n held)))))) < 256
      byte_in n few = omega arith

  abbrev setting_of : ℕ → ℕ
  setting_of pairs = mux (part 0 1 a) (part 2 2 pairs) (part 0 2 pairs)

  settings_in : (pairs : ℕ) → joined 2 (setting_of pairs) 63 < 256
  settings_in pairs = small (setting_of pairs) (mux_in (part 0 1 a) (part 2 2 pairs) (part 0 2 pairs) 4
      (mod_below (pairs / 4) 4 (lit< tt)) (mod_below (pairs / 1) 4 (lit< tt)))
    where
      small : (n : ℕ) → n < 4 → joined 2 n 63 < 256
      small n less = omega arith

  chosen_in : (one two three : ℕ) → one < 256 → two < 256 → three < 256 → code_byte < 256
      → mux (none (part 10 6 a)) one (mux (eq (part 11 5 a) 4) two (mux (eq (part 10 6 a) 10) three code_byte)) < 256
  chosen_in one two three p q r s =
      let last = mux_in (eq (part 10 6 a) 10) three code_byte 256 r s in
      let most = mux_in (eq (part 11 5 a) 4) two (mux (eq (part 10 6 a) 10) three code_byte) 256 q last in
      mux_in (none (part 10 6 a)) one (mux (eq (part 11 5 a) 4) two (mux (eq (part 10 6 a) 10) three code_byte)) 256 p most

  pub found_in : work_byte < 256 → code_byte < 256 → found < 256
  found_in p q =
      chosen_in work_byte (byte_of_input (input_at a held beat)) (joined 2 (setting_at a switches) 63) p
      (inputs_in (input_at a held beat) input_less) (settings_in (mux (part 1 1 a) (part 4 4 switches) (part 0 4 switches))) q
    where
      input_less : input_at a held beat < 2
      input_less =
          let eight : ℕ = mux (part 10 1 a) (part 8 8 held) (joined 1 (part 0 1 held) (joined 1 (part 8 1 beat) (joined 1 0 (part 3 5 held)))) in
          let four : ℕ = mux (part 2 1 a) (part 4 4 eight) (part 0 4 eight) in
          last_in (mux (part 1 1 a) (part 2 2 four) (part 0 2 four))
