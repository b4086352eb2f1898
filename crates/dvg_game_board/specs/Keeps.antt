-- The joined law: what the checker's yes to a ROM says of each run of the game on its board.
use Rattle.std.specs.Prelude.{◌≡◌, ℕ, true, false, List, [], Option, Some}
use Rattle.dvg_log.specs.Log.{Log, Throughout}
use Rattle.dvg_log.specs.Legal.{IsLegal}
use Rattle.dvg_log.specs.Headline.{KeepsHeadline}
use Rattle.dvg_calls_6502.specs.Processor.{Cpu}
use Rattle.dvg_calls_6502.specs.Amid.{is_code}
use Rattle.dvg_calls_6502.specs.Calls.{Call}
use Rattle.dvg_calls_6502.specs.Code.{dvg_offer, dvg_pair, dvg_put}
use Rattle.dvg_cells_board.specs.Board.{Bus}
use Rattle.dvg_calls_board.specs.Machine.{IsMachine}
use Rattle.dvg_frame.specs.declared.op.OpKind.{OpKind}
use Rattle.dvg_game_rules.specs.Checker.{Notes, accepts}
use Rattle.dvg_game_content.specs.Brings.{Ways, brings}
use Rattle.dvg_game_6502.specs.Games.{Content, never_calls}
use Rattle.dvg_game_6502.specs.Play.{done}
use Rattle.dvg_game_board.specs.Cabinet.{ClocksDrawAlike, IsCabinet, written}

-- there is a log that these clocks make, with calls of the driver: it is legal, and each line keeps the headline. It is
-- of the same clocks, but that what the game reads by itself isn't in it; at each clock the two boards draw the same
pub record GameKeepsHeadline (R image : List ℕ) (held : ℕ → ℕ) (clocks : List Bus) : Type 0 where
  pub calls : List Call
  pub log : Log
  pub shown : List Bus
  pub alike : ClocksDrawAlike held clocks shown
  pub machine : IsMachine R image held calls log shown
  pub legal : IsLegal R image log
  pub headline : Throughout (KeepsHeadline R image) log

-- where the checker accepts a game, and what it offers and puts is so, each run of it on its board keeps this
abbrev pub GamesKeep : Type 0
GamesKeep = (R image : List ℕ) (held rom : ℕ → ℕ) (start : ℕ) (notes : Notes)
    → accepts rom start notes ≡ true → Content R rom start
    → (at : Option (Cpu × ℕ)) (clocks : List Bus) → IsCabinet R image held rom start at clocks
    → GameKeepsHeadline R image held clocks

-- then no instruction outside of the driver's code writes the vector RAM or the strobe
abbrev pub GamesLeaveBoard : Type 0
GamesLeaveBoard = (R image : List ℕ) (held rom : ℕ → ℕ) (start : ℕ) (notes : Notes)
    → Content R rom start → accepts rom start notes ≡ true
    → (cpu : Cpu) (since : ℕ) (clocks : List Bus) → IsCabinet R image held rom start (Some (cpu, since)) clocks
    → is_code cpu.pc ≡ false → (flags : ℕ → ℕ) → written (done flags cpu).log ≡ []

-- a game that builds its frames by dvg_open, dvg_labs, dvg_vector and dvg_close alone: its bytes say so, and of what it
-- draws there is no premise
abbrev pub VectorsKeep : Type 0
VectorsKeep = (R image : List ℕ) (held rom : ℕ → ℕ) (start : ℕ) (notes : Notes)
    → accepts rom start notes ≡ true → never_calls rom dvg_offer ≡ true → never_calls rom dvg_put ≡ true
    → never_calls rom dvg_pair ≡ true
    → (at : Option (Cpu × ℕ)) (clocks : List Bus) → IsCabinet R image held rom start at clocks
    → GameKeepsHeadline R image held clocks

-- where two tests of a game's bytes say so, with notes of them that nobody has to trust, and with
-- no premise on what the game does
abbrev pub GamesKeepByBytes : Type 0
GamesKeepByBytes = (R image : List ℕ) (held rom : ℕ → ℕ) (start : ℕ) (notes : Notes) (ways : Ways)
    (drafts : ℕ → List OpKind) → accepts rom start notes ≡ true → brings R rom start notes ways drafts ≡ true
    → (at : Option (Cpu × ℕ)) (clocks : List Bus) → IsCabinet R image held rom start at clocks
    → GameKeepsHeadline R image held clocks

-- of a game: each run of these bytes, whatever stands beside them, with this vector ROM
abbrev pub KeepsAlways : (R : List ℕ) → (rom : (ℕ → ℕ) → ℕ → ℕ) → (start : ℕ) → Type 0
KeepsAlways R rom start = (other : ℕ → ℕ) (image : List ℕ) (held : ℕ → ℕ) (at : Option (Cpu × ℕ)) (clocks : List Bus)
    → IsCabinet R image held (rom other) start at clocks → GameKeepsHeadline R image held clocks
