-- Pairs of a place and a depth, counted in the order of the faults. Only the check's own functions cite this.
use Rattle.std.specs.Prelude.{ℕ, ◌+◌, ◌-◌, ◌*◌, ◌/◌, ◌%◌, ◌<◌, ◌≤◌, if◌then◌else◌, nat_lt}
use Rattle.dvg_frame.specs.declared.draft.TheConstants.{MAX_OPS}
use Rattle.dvg_frame.specs.declared.checking.pair.TheConstants.{DEEPEST, ROM_FIRST}
use Rattle.dvg_mem.specs.declared.TheConstants.{ROM_END}
use Rattle.dvg_frame.specs.declared.place.Place.{Place}
use Rattle.dvg_frame.specs.declared.place.Place.TheVariants.{InFrame, InRom}
use Rattle.dvg_frame.specs.declared.checking.pair.Pair.{Pair}

-- the pair of a place and a depth
abbrev pub pair_of : Place → ℕ → Pair
pair_of p d = record { place = p; depth = d }

-- the pair at which each run begins
abbrev pub first_pair : Pair
first_pair = pair_of (InFrame 0) 0

-- a place that a draft can have
abbrev pub IsPlace : Place → Type 0
IsPlace (InFrame i) = i < MAX_OPS
IsPlace (InRom a) = (ROM_FIRST ≤ a) × (a < ROM_END)

-- the places in their order: the operations, and then the words of the ROM
abbrev pub place_index : Place → ℕ
place_index (InFrame i) = i
place_index (InRom a) = MAX_OPS + (a - ROM_FIRST)

-- the pairs in their order: for each place its depths
abbrev pub index : Pair → ℕ
index pair = (DEEPEST + 1) * place_index pair.place + pair.depth

-- the place of this number in their order
abbrev pub place_at : ℕ → Place
place_at n = if nat_lt n MAX_OPS then InFrame n else InRom (ROM_FIRST + (n - MAX_OPS))

-- the pair of this number in their order
abbrev pub pair_at : ℕ → Pair
pair_at n = pair_of (place_at (n / (DEEPEST + 1))) (n % (DEEPEST + 1))

-- a pair that a draft can have
pub record IsPair (pair : Pair) : Type 0 where
  pub place : IsPlace pair.place
  pub depth : pair.depth ≤ DEEPEST
