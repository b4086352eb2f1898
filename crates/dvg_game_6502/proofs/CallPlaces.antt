-- Where a call of the driver is, and what is known there.
use Rattle.std.proofs.Common.{◌≡◌, ◌⊎◌, inl, inr, ℕ, ◌+◌, ◌%◌, ◌<◌, ◌≤◌, Bool, true, false, List, [], ◌∷◌}
use Rattle.std.proofs.Common.{refl, sym, ap, ◌∙◌, arith, eqb-true, leb-true, Some}
use Rattle.std.specs.Prelude.{nat_eq, nat_lt, nat_le, ◌&&◌, ◌||◌, if◌then◌else◌}
use Rattle.dvg_calls_6502.specs.Processor.{Cpu, stack_place, word_at}
use Rattle.dvg_calls_6502.specs.Amid.{is_code, is_work}
use Rattle.dvg_calls_6502.specs.Board.{is_hardware, is_own}
use Rattle.dvg_calls_6502.proofs.FewAccesses.{high_plain, low_plain, outside}
use Rattle.dvg_game_rules.proofs.Facts.{both_true}
use Rattle.dvg_game_6502.specs.Stays.{is_written}
use Rattle.dvg_game_6502.proofs.Claims.{HoldsIn, MeansIn, Note, Nothing, Ready, is_known, is_touched}
use Rattle.dvg_game_6502.proofs.Notes.{lookup, noted, notes, outer}
use Rattle.dvg_game_6502.proofs.Rows.{Rows, byte_at, rows_of_both}
use Rattle.dvg_game_6502.proofs.TickRows.{burst_rows, reset_rows, run_rows, tick_rows, ticks_rows, write_rows}
use Rattle.dvg_game_6502.proofs.FrameRows.{axes_rows, close_rows, offer_rows, pair_rows, put_rows, vector_rows}

-- S is as where the call began; or it is two lower, and above it stands where dvg_tick returns to
pub data Level (s : ℕ) (within : Bool) (cpu : Cpu) : Type 0 where
  home : cpu.s ≡ s → Level s within cpu
  below : within ≡ true → cpu.s < 256 → (cpu.s + 2) % 256 ≡ s
      → noted ((word_at cpu.mem (stack_place (cpu.s + 1)) (stack_place (cpu.s + 2)) + 1) % 65536)
      ≡ Some (outer Ready Nothing) → Level s within cpu

-- what is noted holds; and it isn't nothing, if that is asked
pub record Good (awake : Bool) (s : ℕ) (cpu : Cpu) : Type 0 where
  pub coded : (b : ℕ) → is_code b ≡ true → cpu.mem b ≡ byte_at b
  pub place : cpu.mem 0x13 < 256
  pub note : Note
  pub here : noted cpu.pc ≡ Some note
  pub level : Level s note.inner cpu
  pub claim : HoldsIn note.claim cpu.mem
  pub also : MeansIn note.also cpu
  pub aware : awake ≡ true → is_known note.claim ≡ true

pub all_rows : Rows notes
all_rows = rows_of_both reset_rows
    (rows_of_both run_rows (rows_of_both burst_rows (rows_of_both ticks_rows
    (rows_of_both tick_rows (rows_of_both write_rows (rows_of_both offer_rows (rows_of_both put_rows
    (rows_of_both pair_rows (rows_of_both close_rows (rows_of_both axes_rows vector_rows))))))))))

-- each noted address is one of the code
abbrev are_code : List (ℕ × Note) → Bool
are_code [] = true
are_code (row ∷ rows) = is_code row.0 && are_code rows

code_of : (table : List (ℕ × Note)) (at : ℕ) (note : Note) → are_code table ≡ true → lookup table at ≡ Some note
    → is_code at ≡ true
code_of [] at note all is = absurd (cc)
code_of (row ∷ rows) at note all is =
    by (nat_eq row.0 at) refl (code_of rows at note
    (both_true (is_code row.0) (are_code rows) all).1)
  where
    by : (t : Bool) → nat_eq row.0 at ≡ t → (lookup rows at ≡ Some note → is_code at ≡ true) → is_code at ≡ true
    by true same rest = ap is_code (sym (eqb-true row.0 at same)) ∙ (both_true (is_code row.0) (are_code rows) all).0
    by false other rest = rest (sym (ap (λ (t : Bool). if t then Some row.1 else lookup rows at) other) ∙ is)

pub noted_is_code : (at : ℕ) (note : Note) → noted at ≡ Some note → is_code at ≡ true
noted_is_code at note is = code_of notes at note refl is

-- the code and the stack aren't touched
neither : (t u v : Bool) → t ≡ false → u ≡ false → v ≡ false → (t || (u || v)) ≡ false
neither false false v a b c = c
neither true u v a b c = absurd (cc)
neither false true v a b c = absurd (cc)

pub untouched : (b : ℕ) → 0x21 ≤ b → (b < 0x2002) ⊎ (0x4800 ≤ b) → is_touched b ≡ false
untouched b above far = neither (is_own b) (is_work b) (is_hardware b) (outside 0x10 0x1B b (omega arith))
    (outside 0x1B 0x21 b above) (plain far)
  where
    plain : (b < 0x2002) ⊎ (0x4800 ≤ b) → is_hardware b ≡ false
    plain (inl low) = low_plain b low
    plain (inr high) = high_plain b high

pub code_untouched : (b : ℕ) → is_code b ≡ true → is_touched b ≡ false
code_untouched b is = let two = both_true (nat_le 0x6800 b) (nat_lt b 0x6A87) is in
    let low = leb-true 0x6800 b two.0 in untouched b (omega (arith, low)) (inr (omega (arith, low)))

pub stack_untouched : (k : ℕ) → is_touched (stack_place k) ≡ false
stack_untouched k = untouched (stack_place k) (omega arith) (inl (omega arith))

-- what isn't written isn't touched, and is none of two bytes of the stack
pub apart : (s b : ℕ) → is_written s b ≡ false → (is_touched b ≡ false)
    × (nat_eq b (stack_place s) ≡ false)
    × (nat_eq b (stack_place (s + 255)) ≡ false)
apart s b off = by (is_own b) (is_work b) (is_hardware b) (nat_eq b (stack_place s))
    (nat_eq b (stack_place (s + 255))) off
  where
    by : (t u v w x : Bool) → (t || (u || (v || (w || x)))) ≡ false
        → ((t || (u || v)) ≡ false) × (w ≡ false) × (x ≡ false)
    by false false false false false is = (refl, refl, refl)
    by true u v w x is = absurd (cc)
    by false true v w x is = absurd (cc)
    by false false true w x is = absurd (cc)
    by false false false true x is = absurd (cc)
    by false false false false true is = absurd (cc)
