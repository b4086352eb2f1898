-- What is known where a cabinet stands: its 6502 is one of bytes, with the ROM in memory, and is about to do an instruction
-- of the driver or of a game that the checker accepts.
use Rattle.std.proofs.Common.{◌≡◌, inl, inr, ℕ, true, List, refl, arith, leb-true}
use Rattle.std.specs.Prelude.{nat_le, Some}
use Rattle.dvg_calls_6502.specs.Processor.{Cpu, Instr, JumpAt}
use Rattle.dvg_calls_6502.specs.Amid.{is_code}
use Rattle.dvg_calls_6502.specs.Single.{is_single}
use Rattle.dvg_cells_board.specs.Board.{Bus}
use Rattle.dvg_game_rules.specs.Kinds.{kind}
use Rattle.dvg_game_rules.specs.Machine.{IsLoaded, State}
use Rattle.dvg_game_rules.specs.Safe.{IsSafe, IsSafeBy}
use Rattle.dvg_game_rules.specs.Alike.{of_cpu}
use Rattle.dvg_game_rules.proofs.Facts.{both_true, inside}
use Rattle.dvg_game_rules.proofs.Memory.{between}
use Rattle.dvg_calls_cells.specs.Steps.{instr_of}
use Rattle.dvg_game_6502.specs.Play.{IsByteWide}
use Rattle.dvg_game_board.specs.Cabinet.{IsCabinet}
use Rattle.dvg_game_6502.proofs.Plays.{Brought}
use Rattle.dvg_game_6502.proofs.Stages.{IsAccepted, Stage, safe_at}
use Rattle.dvg_game_board.proofs.OnBoard.{on_board}
use Rattle.dvg_game_board.proofs.Runs.{standing}
use Rattle.dvg_game_board.proofs.SharedRam.{Laws}
use Rattle.dvg_game_board.proofs.OneAccess as its
use Rattle.dvg_game_cells.proofs.InstructionReads.{InRom, is_direct}

pub record Known (rom : ℕ → ℕ) (cpu : Cpu) : Type 0 where
  pub in_rom : InRom cpu
  pub bytes : IsByteWide cpu
  pub loaded : IsLoaded rom cpu.mem
  pub direct : is_direct (instr_of cpu) ≡ true
  pub single : is_code cpu.pc ≡ true → is_single (instr_of cpu) ≡ true

pub safe_direct : (i : Instr) (st : State) → IsSafeBy (kind i) st → is_direct i ≡ true
safe_direct JumpAt st safe = absurd safe
safe_direct i st safe = refl

single_direct : (i : Instr) → is_single i ≡ true → is_direct i ≡ true
single_direct JumpAt is = is
single_direct i is = refl

module _ (laws : Laws) (R image : List ℕ) (held rom : ℕ → ℕ) (start : ℕ) (game : IsAccepted rom start) where
  of_game : (cpu : Cpu) (st : State) → IsSafe rom (of_cpu cpu st) → IsByteWide cpu → Known rom cpu
  of_game cpu st safe bytes =
      let place = inside cpu.pc safe.inside in
      let low = place.0 in
      let high = place.1 in record {
        in_rom = record { low = omega (arith, low); high = omega (arith, high); bytes = bytes.mem };
        bytes = bytes;
        loaded = safe.rom_kept;
        direct = safe_direct (instr_of cpu) (of_cpu cpu st) safe.next;
        single = λ code. absurd (let top = (between 0x6800 0x6A87 cpu.pc code).1 in
            let bottom = leb-true 0x6A87 cpu.pc (both_true (nat_le 0x6A87 cpu.pc) _ safe.inside).0 in omega (arith, bottom, top));
      }

  of_stage : (cpu : Cpu) (since : ℕ) (clocks : List Bus) → Stage R (on_board laws R image held) rom start cpu since clocks → Known rom cpu
  of_stage cpu since clocks (inl g) = of_game cpu g.st (safe_at game (of_cpu cpu g.st) g.run) g.bytes
  of_stage cpu since clocks (inr (inl d)) =
      let place = between 0x6800 0x6A87 cpu.pc d.place in
      let low = place.0 in
      let high = place.1 in
      let one = its.single cpu (λ n. 0) d.bytes R d.routine d.s d.calls d.mine (λ n. 0) (d.doing (λ n. 0)).0 d.place in record {
        in_rom = record { low = omega (arith, low); high = omega (arith, high); bytes = d.bytes.mem };
        bytes = d.bytes;
        loaded = d.rom_kept;
        direct = single_direct (instr_of cpu) one;
        single = λ code. one;
      }
  of_stage cpu since clocks (inr (inr n)) = of_game cpu n.st (safe_at game (of_cpu cpu n.st) n.run) n.bytes

module _ (laws : Laws) (R image : List ℕ) (held rom : ℕ → ℕ) (start : ℕ) (game : IsAccepted rom start)
    (brought : Brought R (on_board laws R image held) rom start) where
  pub known : (cpu : Cpu) (since : ℕ) (clocks : List Bus) → IsCabinet R image held rom start (Some (cpu, since)) clocks
      → Known rom cpu
  known cpu since clocks on =
      let one = standing laws R image held rom start game brought on in
      of_stage laws R image held rom start game cpu since one.shown one.stage
