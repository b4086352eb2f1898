-- What the driver's bytes hold: a stage of the script.
use Rattle.std.specs.Prelude.{◌≡◌, ℕ, ◌+◌, ◌-◌, ◌*◌, ◌%◌, ◌<◌, ◌≤◌, ◌⊎◌, Bool, true, false, not, nat_eq, List, ◌++◌}
use Rattle.std.specs.Prelude.{length, slice_index}
use Rattle.dvg_mem.specs.declared.half.Half.{Half}
use Rattle.dvg_mem.specs.Areas.{other, high}
use Rattle.dvg_frame.specs.Bytes.{addressed}
use Rattle.dvg_driver.specs.Script.{word_zero}
use Rattle.dvg_driver.specs.Place.{Place, Start, Booting, Resting, Writing, Waiting, Sending}
use Rattle.dvg_driver.specs.Stands.{Stage}
use Rattle.dvg_calls_6502.specs.Board.{phase_in, free_in, publish_in, place_in, pages_in, end_in, second_in, source_in}
use Rattle.dvg_calls_6502.specs.Board.{goal_in, is_hardware}
use Rattle.dvg_calls_6502.specs.Feed.{fed, second_byte}

-- the phase after a frame's last byte: DVG_FLIP, once a frame was published since the reset, and else DVG_ZERO
abbrev pub publish_byte : Bool → ℕ
publish_byte true = 4
publish_byte false = 3

-- a table of these bounds is being written, whose rest leads to these writes
pub record IsFeeding (mem : ℕ → ℕ) (begin stop : ℕ) (half : Half) (flipped : Bool) (writes : List (ℕ × ℕ)) :
    Type 0 where
  pub phase : phase_in mem ≡ 0x80
  pub rest : List ℕ
  pub odd : Bool
  pub second : Bool
  pub parity : nat_eq (place_in mem % 2) 1 ≡ odd
  pub mark : second_in mem ≡ second_byte second
  pub some : 1 ≤ length rest
  pub left : place_in mem + length rest ≡ 256 * pages_in mem + end_in mem
  pub even : end_in mem % 2 ≡ 0
  pub reads : (k : ℕ) → k < length rest → mem (source_in mem + k) ≡ slice_index rest k
  pub far : (k : ℕ) → k < length rest → (0x200 ≤ source_in mem + k) × (is_hardware (source_in mem + k) ≡ false)
  pub after : begin ≤ source_in mem
  pub ends : source_in mem + length rest ≡ stop
  pub top : stop ≤ 65536
  pub low : 0x4002 ≤ goal_in mem
  pub high : goal_in mem + length rest ≤ 0x4800
  pub are : writes ≡ addressed (goal_in mem - 0x4000) (fed (free_in mem) odd second rest)
      ++ word_zero (other half) (not flipped)

-- how a place in the script stands in the driver's bytes
abbrev pub HoldsPlace : (ℕ → ℕ) → (begin stop : ℕ) → Place → Half → Bool → Type 0
HoldsPlace mem begin stop Start half flipped = (phase_in mem ≡ 0) × (flipped ≡ false)
HoldsPlace mem begin stop Booting half flipped = (phase_in mem ≡ 1) × (free_in mem ≡ high (other half))
    × (flipped ≡ false)
HoldsPlace mem begin stop (Resting first) half flipped = (phase_in mem ≡ 2) × (free_in mem ≡ high (other half))
    × (first ≡ not flipped)
HoldsPlace mem begin stop (Writing writes) half flipped = (free_in mem ≡ high (other half))
    × (IsFeeding mem begin stop half flipped writes
    ⊎ ((phase_in mem ≡ 3) × (writes ≡ word_zero (other half) true))
    ⊎ ((phase_in mem ≡ 4) × (writes ≡ word_zero (other half) false)))
HoldsPlace mem begin stop (Waiting first) half flipped = (phase_in mem ≡ 5) × (free_in mem ≡ high (other half))
    × (first ≡ not flipped)
HoldsPlace mem begin stop (Sending first) half flipped = (phase_in mem ≡ 6) × (free_in mem ≡ high (other half))
    × (first ≡ not flipped)

-- a memory holds a driver's stage; a table that is being written has these bounds
pub record Holds (mem : ℕ → ℕ) (begin stop : ℕ) (stage : Stage) : Type 0 where
  pub flipped : publish_in mem ≡ publish_byte stage.flipped
  pub place : HoldsPlace mem begin stop stage.place stage.half stage.flipped
