-- Of any cells and any bytes a processor of the definition can be made, which is where a reset begins; and what memory may
-- answer.
use Rattle.std.proofs.Common.{◌≡◌, ℕ, suc, ◌+◌, ◌-◌, ◌<◌, ◌≤◌, Bool, true, false, List, refl, ap, ◌∙◌, arith}
use Rattle.std.proofs.Common.{le-leb, leb-true}
use Rattle.std.specs.Prelude.{nat_le, nat_lt, ◌&&◌, if◌then◌else◌}
use Rattle.std.proofs.lemmas.Bool.{lt-leb}
use Rattle.dvg_calls_6502.specs.Processor.{Cpu}
use Rattle.dvg_cells_board.specs.Board.{Bus}
use Rattle.dvg_cells_board.specs.Clocks.{after}
use Rattle.dvg_cells_cpu.specs.Cpu.{Cpu as Cells}
use Rattle.dvg_cells_cpu.specs.Refines.{Holds, Where}
use Rattle.dvg_cells_cpu.proofs.Sums.{low_bit}
use Rattle.dvg_game_rules.proofs.Facts.{both_true}
use Rattle.dvg_calls_cells.proofs.Fits.{AllFit}
use Rattle.dvg_calls_cells.proofs.CellsFollowCpu.{of_cells}
use Rattle.dvg_game_cells.specs.Whole.{Finds}
use Rattle.dvg_game_cells.specs.GoesOn.{answer}
use Rattle.dvg_game_cells.proofs.CellsTask.{Shares}

pub choose : (t : Bool) (x y : ℕ) → x < 256 → y < 256 → (if t then x else y) < 256
choose true x y p q = p
choose false x y p q = q

module _ (rom work : ℕ → ℕ) (free a : ℕ) where
  abbrev by_place : (low code high : Bool) → ℕ
  by_place low code high = if low then work a else if code then rom a else if high then rom (a - 0x8000) else free

  answer_in : free < 256 → ((a : ℕ) → work a < 256) → ((a : ℕ) → rom a < 256) → (low code high : Bool) → by_place low code high < 256
  answer_in small work_in rom_in true code high = work_in a
  answer_in small work_in rom_in false true high = rom_in a
  answer_in small work_in rom_in false false true = rom_in (a - 0x8000)
  answer_in small work_in rom_in false false false = small

  pub answer_small : free < 256 → ((a : ℕ) → work a < 256) → ((a : ℕ) → rom a < 256) → answer rom work free a < 256
  answer_small small work_in rom_in =
      answer_in small work_in rom_in (nat_lt a 0x200) (nat_le 0x4800 a && nat_lt a 0x8000) (nat_le 0xFFFA a)

  -- no address is of two of these
  finds_by : (low code high : Bool) → (low ≡ true → code ≡ false) → (low ≡ true → high ≡ false) → (code ≡ true → high ≡ false)
      → Where low (by_place low code high ≡ work a) × Where code (by_place low code high ≡ rom a)
      × Where high (by_place low code high ≡ rom (a - 0x8000))
  finds_by true true high p q r = absurd (let x = p refl in cc)
  finds_by true false true p q r = absurd (let x = q refl in cc)
  finds_by true false false p q r = (refl, tt, tt)
  finds_by false true true p q r = absurd (let x = r refl in cc)
  finds_by false true false p q r = (tt, refl, tt)
  finds_by false false true p q r = (tt, tt, refl)
  finds_by false false false p q r = (tt, tt, tt)

  low_code : nat_lt a 0x200 ≡ true → (nat_le 0x4800 a && nat_lt a 0x8000) ≡ false
  low_code e = let small = leb-true (suc a) 0x200 e in ap (λ t. t && nat_lt a 0x8000) (lt-leb 0x4800 a (omega (arith, small)))

  low_high : nat_lt a 0x200 ≡ true → nat_le 0xFFFA a ≡ false
  low_high e = let small = leb-true (suc a) 0x200 e in lt-leb 0xFFFA a (omega (arith, small))

  code_high : (nat_le 0x4800 a && nat_lt a 0x8000) ≡ true → nat_le 0xFFFA a ≡ false
  code_high e = let small = leb-true (suc a) 0x8000 (both_true (nat_le 0x4800 a) (nat_lt a 0x8000) e).1 in
      lt-leb 0xFFFA a (omega (arith, small))

  pub answer_finds : Finds rom work a (answer rom work free a)
  answer_finds = let f = finds_by (nat_lt a 0x200) (nat_le 0x4800 a && nat_lt a 0x8000) (nat_le 0xFFFA a) low_code low_high code_high in
      record { in_work = f.0; in_rom = f.1; vectors = f.2 }

module _ (R image : List ℕ) (held rom : ℕ → ℕ) (start : ℕ) where
  abbrev memory : (ℕ → ℕ) → (ℕ → ℕ) → ℕ → ℕ
  memory work ram b =
      if nat_lt b 0x200 then work b else if nat_lt b 0x4000 then 0 else if nat_lt b 0x4800 then ram (b - 0x4000) else rom b

  module _ (cells : Cells) (work : ℕ → ℕ) (clocks : List Bus) (f : AllFit R held clocks cells)
      (work_in : (a : ℕ) → work a < 256) (rom_in : (a : ℕ) → rom a < 256) where
    abbrev ram : ℕ → ℕ
    ram = (after held clocks).ram

    abbrev pub fresh_cpu : Cpu
    fresh_cpu = of_cells cells (memory work ram)

    pub fresh_holds : Holds cells fresh_cpu
    fresh_holds = record {
      a = refl;
      x = refl;
      y = refl;
      s = refl;
      pc = refl;
      n = low_bit cells.n f.of_cells.n;
      z = low_bit cells.z f.of_cells.z;
      c = low_bit cells.c f.of_cells.c;
      v = low_bit cells.v f.of_cells.v;
      d = low_bit cells.d f.of_cells.d;
      i = low_bit cells.i f.of_cells.i;
    }

    pub fresh_shares : Shares R image held rom start fresh_cpu work clocks
    fresh_shares = record {
      low = λ b less. ap (λ t. if t then work b else if nat_lt b 0x4000 then 0
          else if nat_lt b 0x4800 then ram (b - 0x4000) else rom b) (le-leb (suc b) 0x200 less);
      ram = λ a less. in_ram a less;
      loaded = λ b low high. in_rom b low;
      bytes = record {
        a = f.of_cells.a;
        x = f.of_cells.x;
        y = f.of_cells.y;
        s = f.of_cells.s;
        mem = λ b. choose (nat_lt b 0x200) (work b) _ (work_in b)
            (choose (nat_lt b 0x4000) 0 _ (omega arith)
            (choose (nat_lt b 0x4800) (ram (b - 0x4000)) (rom b) (f.of_board.ram (b - 0x4000)) (rom_in b)));
      };
    }
      where
        in_ram : (a : ℕ) → a < 2048 → memory work ram (0x4000 + a) ≡ ram a
        in_ram a less =
            let e : 0x4000 + a - 0x4000 ≡ a = omega arith in
            ap (λ t. if t then work (0x4000 + a) else if nat_lt (0x4000 + a) 0x4000 then 0
            else if nat_lt (0x4000 + a) 0x4800 then ram (0x4000 + a - 0x4000) else rom (0x4000 + a))
            (lt-leb (suc (0x4000 + a)) 0x200 (omega arith))
            ∙ ap (λ t. if t then 0 else if nat_lt (0x4000 + a) 0x4800 then ram (0x4000 + a - 0x4000) else rom (0x4000 + a))
            (lt-leb (suc (0x4000 + a)) 0x4000 (omega arith))
            ∙ ap (λ t. if t then ram (0x4000 + a - 0x4000) else rom (0x4000 + a))
            (le-leb (suc (0x4000 + a)) 0x4800 (omega (arith, less)))
            ∙ ap ram e

        in_rom : (b : ℕ) → 0x4800 ≤ b → memory work ram b ≡ rom b
        in_rom b low =
            ap (λ t. if t then work b else if nat_lt b 0x4000 then 0
            else if nat_lt b 0x4800 then ram (b - 0x4000) else rom b) (lt-leb (suc b) 0x200 (omega (arith, low)))
            ∙ ap (λ t. if t then 0 else if nat_lt b 0x4800 then ram (b - 0x4000) else rom b)
            (lt-leb (suc b) 0x4000 (omega (arith, low)))
            ∙ ap (λ t. if t then ram (b - 0x4000) else rom b) (lt-leb (suc b) 0x4800 (omega (arith, low)))
