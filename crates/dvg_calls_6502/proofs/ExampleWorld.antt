-- A memory with the code, and a table of a frame.
use Rattle.std.proofs.Common.{ℕ, ◌-◌, ◌<◌, Bool, true, false, List, [], ◌∷◌, refl, arith, cond}
use Rattle.std.specs.Prelude.{nat_le, nat_lt, slice_index, ◌&&◌, if◌then◌else◌}
use Rattle.dvg_calls_6502.specs.Processor.{put}
use Rattle.dvg_calls_6502.specs.Board.{IsLoaded}
use Rattle.dvg_calls_6502.proofs.Memory.{laid, page_of, put_small, loaded, are_small}
use Rattle.dvg_calls_6502.proofs.UninterruptedCalls.{small}

-- the table's bytes: the number of words, and the words
abbrev pub table : List ℕ
table = 5 ∷ 0 ∷ 0x00 ∷ 0xA2 ∷ 0x00 ∷ 0x02 ∷ 0x00 ∷ 0x90 ∷ 0x64 ∷ 0x70 ∷ 0x00 ∷ 0xB0 ∷ []

abbrev tabled : ℕ → ℕ
tabled b = if nat_le 0x5000 b && nat_lt b 0x500C then slice_index table (b - 0x5000) else 0

-- dvg_y and dvg_x are 512
abbrev pub world : ℕ → ℕ
world = put 0x1C 2 (put 0x1E 2 tabled)

-- with the code
abbrev pub page : List ℕ
page = page_of 0 0 0 0 0 0 0 0 0 0 0

abbrev pub start : ℕ → ℕ
start = laid page world

pub start_loaded : IsLoaded start
start_loaded = loaded page world (small page refl) (put_small 0x1C 2 _ (omega arith) (put_small 0x1E 2 _ (omega arith)
    (λ b. byte_of (nat_le 0x5000 b && nat_lt b 0x500C) (b - 0x5000))))
  where
    byte_of : (t : Bool) (i : ℕ) → cond t (slice_index table i) 0 < 256
    byte_of false i = omega arith
    byte_of true i = are_small table (small table refl) i
