-- Where a beam can stand.
use Rattle.std.specs.Prelude.{ℕ, ◌<◌, ◌≤◌}
use Rattle.dvg_gen.specs.declared.stroke.Stroke.{Stroke}

-- what a beam is: its position, in 1/512 of a screen unit, and the global scale
pub record BeamState : Type 0 where
  pub x : ℕ
  pub y : ℕ
  pub scale : ℕ

-- positions are below 2,097,152, which is 4,096 units of 512 each, and the scale has four bits
pub record IsBeam (x y scale : ℕ) : Type 0 where
  pub x_inside : x < 2097152
  pub y_inside : y < 2097152
  pub scale_small : scale < 16

-- a stroke leads from a position to a position, with an intensity of 1 to 15
abbrev pub IsStroke : Stroke → Type 0
IsStroke stroke = (stroke.x0 < 2097152) × (stroke.y0 < 2097152) × (stroke.x1 < 2097152) × (stroke.y1 < 2097152)
    × (1 ≤ stroke.z) × (stroke.z ≤ 15)
