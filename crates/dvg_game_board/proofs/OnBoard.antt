-- A board's clocks bear the calls of a game: the machine of dvg_calls_board has come as far with them.
use Rattle.std.proofs.Common.{◌≡◌, inl, inr, ℕ, ◌+◌, ◌<◌, true, false, List, [], ◌∷◌, ◌++◌, refl, sym, ◌∙◌}
use Rattle.std.proofs.lemmas.Bool.{or_right}
use Rattle.dvg_log.specs.Log.{Log}
use Rattle.dvg_calls_6502.specs.Processor.{Cpu, Access, at_return}
use Rattle.dvg_calls_6502.specs.Amid.{is_code}
use Rattle.dvg_calls_6502.specs.Board.{is_own, is_ram, seen}
use Rattle.dvg_calls_6502.specs.Calls as calls_of
use Rattle.dvg_calls_6502.specs.Calls.{Routine, Call, is_table}
use Rattle.dvg_calls_board.proofs.Ram.{in_ram}
use Rattle.dvg_cells_board.specs.Board.{Bus}
use Rattle.dvg_cells_board.specs.Clocks as clocked
use Rattle.dvg_calls_board.specs.Hindsight.{IsCheckedTable, IsProgram}
use Rattle.dvg_calls_board.specs.Machine.{SharesRam}
use Rattle.dvg_game_6502.specs.Play.{IsByteWide, done}
use Rattle.dvg_game_6502.specs.Open.{IsIn}
use Rattle.dvg_game_6502.proofs.Bearers.{Bearer, Ended, IsChecked}
use Rattle.dvg_game_6502.proofs.OpenCall.{has_come}
use Rattle.dvg_game_6502.proofs.Returns.{ended_kept, needed_kept}
use Rattle.dvg_game_board.specs.Cabinet.{AreMade, no_more, one_more}
use Rattle.dvg_game_board.proofs.Open.{OnBoard, board_accesses, board_begins, board_passes, board_refreshed}
use Rattle.dvg_game_board.proofs.Open.{board_steps, is_open}
use Rattle.dvg_game_board.proofs.GameSparesBoard.{quiet}
use Rattle.dvg_game_board.proofs.SharedRam.{Laws, shared}
use Rattle.dvg_game_board.proofs.OneAccess.{AreFew, few}
use Rattle.dvg_game_board.proofs.CallProgress.{Last, stand_ends}

-- what is offered is checked
pub by_check : (R : List ℕ) (r : Routine) → IsChecked R r → IsCheckedTable R r
by_check R (calls_of.Offer F) is = is
by_check R _ is = tt

pub nothing : (R : List ℕ) (held : ℕ → ℕ) (older newer : List Bus) → AreMade R held [] older newer → older ≡ newer
nothing R held older newer no_more = refl

module _ (laws : Laws) (R image : List ℕ) (held : ℕ → ℕ) where
  -- a machine with these calls, whose RAM is the game's
  abbrev pub Shares : List Call → (ℕ → ℕ) → List Bus → Type 0
  Shares calls mem clocks = (log : Log) × IsProgram R image held calls log clocks
      × SharesRam calls_of.Reset mem (clocked.after held clocks)

  module _ {routine : Routine} {s : ℕ} {calls : List Call} {cpu : Cpu} {mine : List Access} {older : List Bus}
      (on : OnBoard R image held routine s calls cpu mine older) (code : is_code cpu.pc ≡ true) where
    -- an instruction makes one access at most
    pub steps : (newer : List Bus) (flags : ℕ → ℕ) → IsByteWide cpu → at_return s cpu ≡ false
        → AreMade R held (seen (done flags cpu).log) older newer
        → OnBoard R image held routine s calls (done flags cpu) ((done flags cpu).log ++ mine) newer
    steps newer flags bytes not_there made = by older newer (seen (done flags cpu).log) on refl
        (few cpu flags bytes R routine s calls mine (λ n. 0) (on (λ n. 0)).0 code) made
      where
        by : (old new : List Bus) (now : List Access) → OnBoard R image held routine s calls cpu mine old
            → seen (done flags cpu).log ≡ now → AreFew (seen (done flags cpu).log) → AreMade R held now old new
            → OnBoard R image held routine s calls (done flags cpu) ((done flags cpu).log ++ mine) new
        by old new [] doing none less no_more = board_steps doing flags code not_there none
        by old new (it ∷ []) doing one less (one_more access bus no_more is served makes) =
            board_accesses doing flags code not_there access bus one is served makes
        by old new (it ∷ next ∷ more) doing some (inl none) made = absurd (let e = sym none ∙ some in cc)
        by old new (it ∷ next ∷ more) doing some (inr single) made = absurd (let e = sym single.1 ∙ some in cc)

    -- and its RTS ends the call
    pub returns : at_return s cpu ≡ true
        → (is : IsIn R routine s calls cpu mine (λ n. 0)) × (end : Ended R calls is.call)
        × Shares (end.last ∷ calls) cpu.mem older
    returns there = (is, last.end, (last.log, last.on, shares))
      where
        is : IsIn R routine s calls cpu mine (λ n. 0)
        is = (on (λ n. 0)).0

        last : Last R image held (on (λ n. 0)).0.call calls older
        last = stand_ends R image held (on (λ n. 0)).0.call calls older (on (λ n. 0)).0.session
            (has_come R routine s calls cpu mine (λ n. 0) (on (λ n. 0)).0 code there) (on (λ n. 0)).1

        shares : (a : ℕ) → a < 2048 → cpu.mem (0x4000 + a) ≡ (clocked.after held older).ram a
        shares a few = ended_kept R routine s calls cpu mine (on (λ n. 0)).0 last.end (0x4000 + a)
            (needed_kept (is_table (on (λ n. 0)).0.call calls) (0x4000 + a)
            (or_right (is_own (0x4000 + a)) (is_ram (0x4000 + a)) (in_ram a few)))
            ∙ shared laws R image held last.end.last calls last.log older last.on a few

  abbrev pub on_board : Bearer R
  on_board = record {
    World = List Bus;
    Makes = λ now older newer. AreMade R held now older newer;
    Between = Shares;
    Amid = λ routine s calls cpu mine clocks. OnBoard R image held routine s calls cpu mine clocks;
    nothing = nothing R held;
    is_open = λ routine s calls cpu mine clocks on. is_open on;
    keeps = λ calls mem now clocks same between.
        (between.0, between.1, λ a few. same (0x4000 + a) (in_ram a few) ∙ between.2 a few);
    aside = λ calls cpu st flags clocks bytes safe between. (
      between.0,
      between.1,
      λ a few. (quiet cpu st flags bytes.x bytes.y safe).ram (0x4000 + a) (in_ram a few) ∙ between.2 a few,
    );
    begins = λ routine cpu calls clocks rested enters tells checked tables offered between.
        board_begins R image held routine cpu calls between.0 clocks between.1 rested enters tells
        (by_check R routine checked) between.2 tables offered;
    steps = λ routine s calls cpu mine older newer flags bytes code not_there made on.
        steps on code newer flags bytes not_there made;
    passes = λ routine s calls cpu mine clocks m spares on. board_passes on m spares;
    refreshes = λ routine s calls cpu mine clocks flags on. board_refreshed on flags;
    returns = λ routine s calls cpu mine clocks code there on. returns on code there;
  }
