-- A call of the driver that a processor on the board is in: step by step, over an NMI, and its end.
use Rattle.std.proofs.Common.{◌≡◌, ℕ, ◌<◌, ◌≤◌, Bool, true, false, List, [], ◌∷◌, ◌++◌, sym, ap, ◌∙◌}
use Rattle.dvg_log.specs.Log.{Log}
use Rattle.dvg_calls_6502.specs.Processor.{Cpu, Access, at_return, decoded, opcodes, step}
use Rattle.dvg_calls_6502.specs.Amid.{changed, guards, is_code, is_kept}
use Rattle.dvg_calls_6502.specs.Board.{seen}
use Rattle.dvg_calls_6502.specs.Calls as calls_of
use Rattle.dvg_calls_6502.specs.Calls.{Routine, Call, bounds, entry, frame_of, has_returned, is_offered, UnlessReset}
use Rattle.dvg_calls_6502.specs.Programs.{CallBrings}
use Rattle.dvg_calls_6502.specs.Routines.{Enters}
use Rattle.dvg_calls_6502.proofs.LogsGrow.{seen_append}
use Rattle.dvg_cells_board.specs.Board.{Board, Bus}
use Rattle.dvg_cells_board.specs.Clocks as clocked
use Rattle.dvg_cells_board.specs.Clocks.{IsBus, IsServed}
use Rattle.dvg_calls_board.specs.Hindsight.{IsCheckedTable, IsProgram}
use Rattle.dvg_calls_board.specs.Machine.{IsIdle, Makes, SharesRam, accesses_of}
use Rattle.dvg_game_6502.specs.Play.{done, fresh}
use Rattle.dvg_game_6502.specs.Open.{InRom, IsIn, IsOpen, Rested}
use Rattle.dvg_game_6502.proofs.Flags.{opens, told}
use Rattle.dvg_game_6502.proofs.OpenCall.{after_step, begun, passed, refreshed, returned_is, same_as_left, stepped}
use Rattle.dvg_game_6502.proofs.Sessions.{further}
use Rattle.dvg_game_board.proofs.CallProgress.{Stand, stand_accesses, stand_begins, stand_steps, stand_waits}

-- in a call, which the machine does on the board; whatever the flag will say
abbrev pub OnBoard : (R image : List ℕ) (held : ℕ → ℕ) → Routine → ℕ → List Call → Cpu → List Access → List Bus → Type 0
OnBoard R image held routine s calls cpu log clocks = (flags : ℕ → ℕ)
    → (is : IsIn R routine s calls cpu log flags) × Stand R image held is.call calls clocks

module _ {R image : List ℕ} {held : ℕ → ℕ} {routine : Routine} {s : ℕ} {calls : List Call} {cpu : Cpu}
    {log : List Access} {clocks : List Bus} (inside : OnBoard R image held routine s calls cpu log clocks) where
  abbrev pub is_open : IsOpen R routine s calls cpu log
  is_open = λ flags. (inside flags).0

  pub board_waits : (bus : Bus) → IsBus bus → IsServed R (clocked.after held clocks) bus
      → IsIdle (clocked.after held clocks) bus → OnBoard R image held routine s calls cpu log (bus ∷ clocks)
  board_waits bus is served idle flags =
      let one = inside flags in (one.0, stand_waits R image held one.0.call calls clocks bus one.1 is served idle)

  -- an instruction of the driver
  module _ (flags : ℕ → ℕ) (code : is_code cpu.pc ≡ true) (not_there : at_return s cpu ≡ false) where
    -- what the flag had to say before it
    one : (future : ℕ → ℕ) → (first : ℕ → ℕ) × (step (told first (fresh flags cpu)) ≡ told future (done flags cpu))
    one future = opens (fresh flags cpu) future (decoded opcodes (cpu.mem cpu.pc))

    abbrev before : (future : ℕ → ℕ) → IsIn R routine s calls cpu log (one future).0
    before future = (inside (one future).0).0

    abbrev new : (future : ℕ → ℕ) → IsIn R routine s calls (done flags cpu) ((done flags cpu).log ++ log) future
    new future = stepped (before future) flags future (one future).1 not_there

    same_before : (future : ℕ → ℕ) (b : ℕ)
        → guards (is_kept (calls_of.is_table (before future).call calls)) (before future).call.from.s
        (calls_of.after (before future).call).s b ≡ true
        → cpu.mem b ≡ (calls_of.after (before future).call).mem b
    same_before future = same_as_left (before future)

    -- what it has accessed
    news : (future : ℕ → ℕ) (now : List Access) → seen (done flags cpu).log ≡ now
        → accesses_of (further (before future).call cpu.mem) ≡ now ++ accesses_of (before future).call
    news future now is =
        ap (λ (k : Cpu). seen k.log) (after_step (before future) flags future (one future).1 not_there)
        ∙ seen_append (done flags cpu).log log ∙ ap (λ l. l ++ seen log) is
        ∙ ap (λ (k : Cpu). now ++ seen k.log) (sym (before future).after)

    goes : (future : ℕ → ℕ) → has_returned (before future).call ≡ false
    goes future = returned_is (before future) code ∙ not_there

    -- one that does nothing with the hardware
    pub board_steps : seen (done flags cpu).log ≡ []
        → OnBoard R image held routine s calls (done flags cpu) ((done flags cpu).log ++ log) clocks
    board_steps none future = (
      new future,
      stand_steps R image held (before future).call calls clocks cpu.mem (before future).session (goes future)
          (same_before future) (news future [] none) (inside (one future).0).1,
    )

    -- and one with an access, in a clock that makes it
    pub board_accesses : (access : Access) (bus : Bus) → seen (done flags cpu).log ≡ access ∷ [] → IsBus bus
        → IsServed R (clocked.after held clocks) bus → Makes (clocked.after held clocks) bus access
        → OnBoard R image held routine s calls (done flags cpu) ((done flags cpu).log ++ log) (bus ∷ clocks)
    board_accesses access bus is_one is served made future = (
      new future,
      stand_accesses R image held (before future).call calls clocks cpu.mem (before future).session (goes future)
          (new future).session access bus (news future (access ∷ []) is_one) is served made (inside (one future).0).1,
    )

  -- others that leave what is guarded, of any tables in the ROM, and give back the processor
  pub board_passes : (m : ℕ → ℕ) → ((tables : ℕ → Bool) → ((b : ℕ) → tables b ≡ true → InRom b)
      → (b : ℕ) → guards (is_kept tables) s cpu.s b ≡ true → m b ≡ cpu.mem b)
      → OnBoard R image held routine s calls (changed m cpu) log clocks
  board_passes m spares future = let one = inside future in (passed one.0 m spares, one.1)

  -- its flag and its log are none of the call
  pub board_refreshed : (flags : ℕ → ℕ) → OnBoard R image held routine s calls (fresh flags cpu) log clocks
  board_refreshed flags future = let one = inside future in (refreshed one.0 flags, one.1)

-- dvg_reset asks for the RAM, and no other routine does
shares_for : (r : Routine) (mem : ℕ → ℕ) (board : Board) → SharesRam calls_of.Reset mem board → SharesRam r mem board
shares_for calls_of.Reset mem board shares = shares
shares_for _ mem board shares = tt

-- a call begins
pub board_begins : (R image : List ℕ) (held : ℕ → ℕ) (routine : Routine) (cpu : Cpu) (calls : List Call) (log : Log)
    (clocks : List Bus) → IsProgram R image held calls log clocks
    → UnlessReset routine (Rested R calls cpu.mem)
    → ((flags : ℕ → ℕ) → Enters (fresh flags cpu) (entry routine))
    → ((flags : ℕ → ℕ) → CallBrings R routine (fresh flags cpu) (frame_of calls))
    → IsCheckedTable R routine → SharesRam calls_of.Reset cpu.mem (clocked.after held clocks)
    → ((b : ℕ) → (bounds calls).0 ≤ b → b < (bounds calls).1 → InRom b)
    → ((b : ℕ) → is_offered routine cpu b ≡ true → InRom b)
    → OnBoard R image held routine cpu.s calls cpu [] clocks
board_begins R image held routine cpu calls log clocks on rested enters brought checked shares table offered flags =
    let is = begun R routine cpu calls rested enters brought table offered flags in (
      is,
      stand_begins R image held routine (fresh flags cpu) (λ k b. 0) calls clocks log on is.session checked
          (shares_for routine cpu.mem (clocked.after held clocks) shares),
    )
