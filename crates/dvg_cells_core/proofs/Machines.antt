-- The machine that the registers of a core are.
use Rattle.std.specs.Prelude.{ℕ, not, nat_eq, if◌then◌else◌, List, [], ◌∷◌, take, Option, Some, None}
use Rattle.dvg_gen.specs.declared.stroke.Stroke.{Stroke}
use Rattle.dvg_gen.specs.Machine.{Machine}
use Rattle.dvg_cells_core.specs.Core.{Core}

-- a value with a flag that says whether it is kept
abbrev pub kept : ℕ → ℕ → Option ℕ
kept flag value = if nat_eq flag 0 then None else Some value

-- the machine of a core whose run drew this; it keeps no picture
abbrev pub machine_of : Core → List Stroke → Machine
machine_of core drew = record {
  at = core.at;
  held = kept core.second core.first;
  low = kept core.high core.low;
  stack = take core.depth (core.s0 ∷ core.s1 ∷ core.s2 ∷ core.s3 ∷ []);
  beam = record { x = core.x; y = core.y; scale = core.scale };
  strokes = drew;
  picture = [];
  is_open = not (nat_eq core.is_open 0);
}
