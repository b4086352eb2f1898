-- The RAM that a program's calls have in memory is the board's.
use Rattle.std.proofs.Common.{◌≡◌, ℕ, ◌+◌, ◌<◌, List, [], ◌∷◌}
use Rattle.dvg_frame.specs.declared.op.OpKind.{OpKind}
use Rattle.dvg_log.specs.Log.{Log}
use Rattle.dvg_calls_6502.specs.Calls.{Call, after}
use Rattle.dvg_calls_6502.specs.Programs.{with_drafts}
use Rattle.dvg_cells_board.specs.Board.{Bus}
use Rattle.dvg_cells_board.specs.Clocks as clocked
use Rattle.dvg_calls_board.specs.Hindsight.{HindsightKeeps, IsProgram}
use Rattle.dvg_calls_board.specs.Machine.{HaveRam, OfEachMachine}

-- what dvg_calls_board has proved of its machines
pub record Laws : Type 0 where
  pub hindsight : HindsightKeeps
  pub shared : OfEachMachine (λ R image held calls log clocks. HaveRam calls (clocked.after held clocks))

module _ (laws : Laws) (R image : List ℕ) (held : ℕ → ℕ) (call : Call) (calls : List Call) (log : Log) (clocks : List Bus) where
  -- with any drafts the call has the same memory
  by : (drafts : List (List OpKind)) → HaveRam (with_drafts (call ∷ calls) drafts) (clocked.after held clocks)
      → (a : ℕ) → a < 2048 → (after call).mem (0x4000 + a) ≡ (clocked.after held clocks).ram a
  by [] has = has
  by (G ∷ drafts) has = has

  pub shared : IsProgram R image held (call ∷ calls) log clocks → (a : ℕ) → a < 2048
      → (after call).mem (0x4000 + a) ≡ (clocked.after held clocks).ram a
  shared on = let all = laws.hindsight R image held (call ∷ calls) log clocks on in
      by all.0 (laws.shared R image held (with_drafts (call ∷ calls) all.0) all.1 clocks all.2)
