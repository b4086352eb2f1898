-- A run of a game on its board: the driver boots, and reads byte 001 in a clock.
use Rattle.std.proofs.Common.{◌≡◌, ℕ, zero, suc, ◌+◌, ◌-◌, ◌/◌, ◌%◌, ◌<◌, ◌==◌, Bool, not, [], refl}
use Rattle.std.proofs.Common.{sym, ap, arith, inl, le-leb, lit<}
use Rattle.std.specs.Prelude.{nat_lt, if◌then◌else◌, replicate, slice_index}
use Rattle.std.proofs.lemmas.List.{length-replicate}
use Rattle.std.proofs.lemmas.List.Elements.{All-replicate}
use Rattle.dvg_mem.specs.Memory.{IsImage, IsRom}
use Rattle.dvg_calls_6502.specs.Calls.{Reset}
use Rattle.dvg_calls_6502.specs.Code.{code}
use Rattle.dvg_calls_6502.specs.Processor.{Reads}
use Rattle.dvg_cells_core.specs.Cells.{bit}
use Rattle.dvg_cells_board.specs.Board.{Bus}
use Rattle.dvg_cells_board.specs.Clocks.{IsBus, IsServed, after}
use Rattle.dvg_cells_board.specs.Example.{zeros}
use Rattle.dvg_calls_board.specs.Machine.{SharesRam}
use Rattle.dvg_game_rules.specs.Checker.{first}
use Rattle.dvg_game_rules.specs.Written.{of_list, rom_of}
use Rattle.dvg_game_6502.specs.SomeGame.{bytes, vectors, rom, start}
use Rattle.dvg_game_6502.proofs.SomeGame.{begun, it_begins}
use Rattle.dvg_game_board.specs.Cabinet.{IsCabinet, powers, begins, does, no_more, one_more}
use Rattle.dvg_game_board.specs.Example.{SomeCabinet, nothing}

pub is_rom : IsRom zeros
is_rom = record { count = inl (length-replicate {A = ℕ} 2048 0); bytes = All-replicate (λ b. b < 256) 2048 0 (lit< tt) }

pub is_image : IsImage zeros
is_image = record { count = length-replicate {A = ℕ} 2048 0; bytes = All-replicate (λ b. b < 256) 2048 0 (lit< tt) }

pub zero_at : (n a : ℕ) → 0 ≡ slice_index (replicate n 0) a
zero_at zero a = refl
zero_at (suc n) zero = refl
zero_at (suc n) (suc a) = zero_at n a

-- the RAM is zeros, as the processor has it
shares : SharesRam Reset (rom nothing) (after nothing [])
unfolding rom rom_of
shares a few = ap (λ (t : Bool). if t then 0 else if nat_lt (0x4000 + a) first then of_list 0 code (0x4000 + a - 0x6800)
    else if nat_lt (0x4000 + a) 0x7FFA then of_list 0xFF (of_list [] bytes ((0x4000 + a - first) / 64)) ((0x4000 + a - first) % 64)
    else if nat_lt (0x4000 + a) 0x8000 then of_list 0 vectors (0x4000 + a - 0x7FFA) else 0)
    (le-leb (suc (0x4000 + a)) 0x6800 (omega (arith, few)))

-- the clock that reads byte 001
abbrev clock : Bus
clock = record { reset = 0; hold = 0; access = 1; write = 0; a = 0x4001; d = 0; big = 0; rom = 0; undefined = 0 }

is_clock : IsBus clock
is_clock = record { reset = omega arith; a = omega arith; d = omega arith; rom = omega arith }

served : IsServed zeros (after nothing []) clock
served = record {
  big = sym (ap (λ n. bit (not (n == 2048))) (length-replicate {A = ℕ} 2048 0));
  rom = λ takes from to. absurd (cc);
}

pub some_cabinet : SomeCabinet
unfolding of_list rom_of bytes vectors rom begun
some_cabinet =
    let on0 : IsCabinet zeros zeros nothing (rom nothing) start (Rattle.std.specs.Prelude.Some (begun nothing, 0)) [] =
    begins (begun nothing) 0 (powers is_rom is_image (λ a few. zero_at 2048 a))
    (it_begins nothing (λ b. omega arith)) shares in
    let on1 = does (λ n. 0) on0 refl (omega arith) no_more in
    let on2 = does (λ n. 0) on1 refl (omega arith) no_more in
    let on3 = does (λ n. 0) on2 refl (omega arith) no_more in
    let on4 = does (λ n. 0) on3 refl (omega arith) no_more in
    let on5 = does (λ n. 0) on4 refl (omega arith) no_more in
    let on6 = does (λ n. 0) on5 refl (omega arith) no_more in
    let on7 = does (λ n. 0) on6 refl (omega arith) no_more in
    let on8 = does (λ n. 0) on7 refl (omega arith) no_more in
    let on9 = does (λ n. 0) on8 refl (omega arith) no_more in
    let on10 = does (λ n. 0) on9 refl (omega arith) no_more in
    let on11 = does (λ n. 0) on10 refl (omega arith) no_more in
    let on12 = does (λ n. 0) on11 refl (omega arith) no_more in
    let on13 = does (λ n. 0) on12 refl (omega arith) no_more in
    let on14 = does (λ n. 0) on13 refl (omega arith) no_more in
    let on15 = does (λ n. 0) on14 refl (omega arith) no_more in
    let on16 = does (λ n. 0) on15 refl (omega arith) no_more in
    let on17 = does (λ n. 0) on16 refl (omega arith) no_more in (
      _,
      clock,
      does (λ n. 0) on17 refl (omega arith)
          (one_more (Reads 0x4001 0) clock no_more is_clock served (refl, refl, refl, λ next. refl)),
      refl,
    )
