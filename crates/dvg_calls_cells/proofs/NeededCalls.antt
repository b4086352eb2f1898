-- A call of dvg_reset, over a memory that has an instruction where a return leads: STA 4000, at 0001.
use Rattle.std.proofs.Common.{◌≡◌, ℕ, ◌+◌, ◌<◌, false, [], ◌∷◌, sym, arith, lit<}
use Rattle.std.specs.Prelude.{nat_eq, nat_le}
use Rattle.std.proofs.lemmas.Bool.{ne_eqb}
use Rattle.std.proofs.lemmas.List.{get_or-replicate}
use Rattle.dvg_calls_6502.specs.Processor.{Cpu, put}
use Rattle.dvg_calls_6502.specs.Calls as calls
use Rattle.dvg_calls_6502.specs.Calls.{Call, IsSession}
use Rattle.dvg_calls_6502.proofs.Memory.{laid, in_page, loaded, put_small, le_not, out_of_page}
use Rattle.dvg_cells_board.proofs.Example.{held}
use Rattle.dvg_calls_cells.proofs.ExampleCalls.{plain, reset_page, resets, resetting, small}

abbrev world : ℕ → ℕ
world = put 1 0x8D (put 3 0x40 (λ b. 0))

world_small : (b : ℕ) → world b < 256
world_small = put_small 1 0x8D (put 3 0x40 (λ b. 0)) (lit< tt) (put_small 3 0x40 (λ b. 0) (lit< tt) (λ b. lit< tt))

abbrev pub reset_from : Cpu
reset_from = resetting world 0xFD

abbrev pub reset : ℕ → Call
reset n = plain calls.Reset n reset_from

pub reset_session : (n : ℕ) → IsSession (reset n ∷ [])
reset_session n = resets world world_small 0xFD n (lit< tt)

pub reset_bytes : (b : ℕ) → laid reset_page world b < 256
reset_bytes = (loaded reset_page world (small 0 0 0 (lit< tt) (lit< tt) (lit< tt)) world_small).bytes

-- the RAM is zeros, as the processor has it
pub shares : (a : ℕ) → a < 2048 → laid reset_page world (0x4000 + a) ≡ held a
shares a few =
    let page : in_page (0x4000 + a) ≡ false = out_of_page (0x4000 + a) (omega arith) in
    let code : nat_le 0x6800 (0x4000 + a) ≡ false = le_not 0x6800 (0x4000 + a) (omega arith) in
    let one : nat_eq (0x4000 + a) 1 ≡ false = ne_eqb (0x4000 + a) 1 (λ e. omega (arith, e)) in
    let three : nat_eq (0x4000 + a) 3 ≡ false = ne_eqb (0x4000 + a) 3 (λ e. omega (arith, e)) in
    rw (page, code, one, three) (sym (get_or-replicate 2048 a 0 0 few))
