-- A picture as SVG: the line of a stroke.
use Rattle.std.specs.Prelude.{ℕ, ℤ, pos, negsuc, ◌+◌, ◌-◌, ◌*◌, ◌%◌, nat_lt, if◌then◌else◌, List, [], ◌∷◌, ◌++◌}
use Rattle.std.specs.Prelude.{codes, decimal}
use Rattle.std.specs.Fmt.{signed_decimal}
use Rattle.dvg_gen.specs.declared.stroke.Stroke.{Stroke}
use Rattle.dvg_print.specs.Lines.{spaced}

-- the same place along an axis that is 2,097,152 long, from -1,048,576 to 1,048,575
abbrev pub centred : ℕ → ℤ
centred place =
    let n = place % 2097152 in
    if nat_lt n 1048576 then pos n else negsuc (2097151 - n)

-- the shorter way from one place to another
abbrev pub way : (from to : ℕ) → ℤ
way from to = centred (to % 2097152 + (2097152 - from % 2097152))

-- a point or a way, as a path has it
abbrev pub pair_text : ℤ → ℤ → List ℕ
pair_text x y = signed_decimal x ++ spaced (signed_decimal y ∷ [])

-- how bright an intensity is: 0.30 for 1 and 1 for 15, in steps of 0.05
abbrev pub opacity : ℕ → List ℕ
opacity z = if nat_lt z 15 then codes "." ++ decimal (5 * (z + 5)) else codes "1.0"

-- the line of a stroke: where it begins, the way that it goes, and how bright it is; 10 is LF
abbrev pub path_line : Stroke → List ℕ
path_line stroke =
    codes "<path d=\"M" ++ pair_text (centred stroke.x0) (centred stroke.y0)
    ++ codes "l" ++ pair_text (way stroke.x0 stroke.x1) (way stroke.y0 stroke.y1)
    ++ codes "\" opacity=\"" ++ opacity stroke.z ++ codes "\"/>" ++ 10 ∷ []
