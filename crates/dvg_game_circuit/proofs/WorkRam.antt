-- The zero page and the stack of the circuit's RAM are a work RAM, whatever the bank is.
use Rattle.std.proofs.Common.{◌≡◌, ℕ, zero, suc, ◌/◌, ◌<◌, ◌≤◌, Bool, true, false, refl, ap, ◌∙◌, arith, lit<, le-leb, inl, inr}
use Rattle.std.specs.Prelude.{nat_eq, nat_lt, bit_xor, ◌&&◌, ◌⊎◌, if◌then◌else◌}
use Rattle.std.proofs.lemmas.Bool.{cases_lt, lt-leb, ne_eqb}
use Rattle.std.proofs.lemmas.Nat.{mod_below}
use Rattle.dvg_calls_6502.specs.Processor.{put}
use Rattle.dvg_cells_core.specs.Cells.{both, mux, none, part, joined}
use Rattle.dvg_cells_board.specs.Memory.{memrd, memwr}
use Rattle.dvg_cells_cpu.proofs.Bounds.{mux_in}

-- the place of a byte of the RAM
abbrev pub place : (a bank : ℕ) → ℕ
place a bank = joined 8 (part 0 8 a) (joined 1 (bit_xor (part 8 1 a) (both (part 9 1 a) bank)) (part 9 1 a))

xor_none : (n : ℕ) → n < 2 → bit_xor n 0 ≡ n
xor_none zero less = refl
xor_none (suc zero) less = refl
xor_none (suc (suc n)) less = absurd (omega arith)

pub place_low : (a bank : ℕ) → a < 0x200 → place a bank ≡ a
place_low a bank less =
    let high : part 9 1 a ≡ 0 = omega arith in
    let same = xor_none (part 8 1 a) (mod_below (a / 256) 2 (lit< tt)) in rw high (rw same (omega arith))

place_high : (a bank : ℕ) → 0x200 ≤ a → a < 0x400 → 0x200 ≤ place a bank
place_high a bank from to = let high : part 9 1 a ≡ 1 = omega arith in omega arith

-- the RAM after a clock, and the work RAM
abbrev pub ram_after : (access write a d bank undefined : ℕ) → (ℕ → ℕ) → ℕ → ℕ
ram_after access write a d bank undefined ram =
    let writes = both (both access write) (none (part 10 6 a)) in
    memwr (mux writes 255 0) (mux writes (place a bank) (part 0 10 undefined)) (mux writes d (part 0 8 undefined)) ram

abbrev pub work_by : (access write a d : ℕ) → (ℕ → ℕ) → ℕ → ℕ
work_by access write a d work = if nat_eq access 1 && (nat_eq write 1 && nat_lt a 0x200) then put a d work else work

module _ (a d bank undefined : ℕ) (ram work : ℕ → ℕ) (small : a < 65536) (same : (b : ℕ) → b < 0x200 → ram b ≡ work b) where
  abbrev Same : (ram work : ℕ → ℕ) → Type 0
  Same ram work = (b : ℕ) → b < 0x200 → ram b ≡ work b

  put_low : (t : Bool) (b : ℕ) → b < 0x200 → (if t then d else ram b) ≡ (if t then d else work b)
  put_low true b less = refl
  put_low false b less = same b less

  written : (a < 0x200) ⊎ (0x200 ≤ a) → (a < 0x400) ⊎ (0x400 ≤ a) → Same (ram_after 1 1 a d bank undefined ram) (work_by 1 1 a d work)
  written (inl low) any b less =
      let of_ram : part 10 6 a ≡ 0 = omega arith in
      rw of_ram (rw (place_low a bank low) (rw (le-leb (suc a) 0x200 low) (put_low (nat_eq b a) b less)))
  written (inr more) (inl most) b less =
      let of_ram : part 10 6 a ≡ 0 = omega arith in let far = place_high a bank more most in
      rw of_ram (rw (ne_eqb b (place a bank) (λ e. absurd (omega arith))) (rw (lt-leb (suc a) 0x200 (omega arith)) (same b less)))
  written (inr more) (inr far) b less =
      rw (ne_eqb (part 10 6 a) 0 (λ e. absurd (omega arith))) (rw (lt-leb (suc a) 0x200 (omega arith)) (same b less))

  pub same_on : (access write : ℕ) → access < 2 → write < 2
      → Same (ram_after access write a d bank undefined ram) (work_by access write a d work)
  same_on zero write p q = same
  same_on (suc zero) zero p q = same
  same_on (suc zero) (suc zero) p q = written (cases_lt a 0x200) (cases_lt a 0x400)
  same_on (suc zero) (suc (suc n)) p q = absurd (omega arith)
  same_on (suc (suc n)) write p q = absurd (omega arith)

  -- where nothing is written, the RAM's byte is read
  pub byte_read : (access write byte : ℕ) → write ≡ 0 → a < 0x200
      → mux (both (both access write) (none (part 10 6 a))) byte (memrd ram (place a bank)) ≡ work a
  byte_read access write byte reads less =
      let none_writes : both access write ≡ 0 = ap (both access) reads ∙ both_zero access in
      rw none_writes (rw (place_low a bank less) (same a less))
    where
      both_zero : (n : ℕ) → both n 0 ≡ 0
      both_zero n = by (nat_eq n 0)
        where
          by : (t : Bool) → ◌≡◌ {A = ℕ} (if t then 0 else 0) 0
          by true = refl
          by false = refl

pub bytes_on : (access write a d bank undefined : ℕ) (ram : ℕ → ℕ) → d < 256 → ((b : ℕ) → ram b < 256)
    → (b : ℕ) → ram_after access write a d bank undefined ram b < 256
bytes_on access write a d bank undefined ram less all b =
    let writes = both (both access write) (none (part 10 6 a)) in
    if_in (nat_eq (mux writes 255 0) 0) (ram b)
    (if nat_eq b (mux writes (place a bank) (part 0 10 undefined)) then mux writes d (part 0 8 undefined) else ram b) (all b)
    (if_in (nat_eq b (mux writes (place a bank) (part 0 10 undefined))) (mux writes d (part 0 8 undefined)) (ram b)
    (mux_in writes d (part 0 8 undefined) 256 less (mod_below (undefined / 1) 256 (lit< tt))) (all b))
  where
    if_in : (t : Bool) (x y : ℕ) → x < 256 → y < 256 → (if t then x else y) < 256
    if_in true x y p q = p
    if_in false x y p q = q
