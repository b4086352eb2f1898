-- What the pins of a core show after a clock.
use Rattle.std.specs.Prelude.{◌≡◌, nat_eq, if◌then◌else◌, List, [], ◌∷◌}
use Rattle.dvg_gen.specs.declared.stroke.Stroke.{Stroke}
use Rattle.dvg_gen.specs.Numbers.{fault_number}
use Rattle.dvg_gen.specs.Told.{Reply, More, Drew, Fails}
use Rattle.dvg_cells_core.specs.Core.{Core}

-- the stroke that the pins show, if `stroke` is high
abbrev pub line_of : Core → List Stroke
line_of core =
    if nat_eq core.stroke 0 then []
    else record { x0 = core.x0; y0 = core.y0; x1 = core.x; y1 = core.y; z = core.z } ∷ []

-- what the pins are after a word or a hole that is answered so, where the run drew these strokes
abbrev pub ShowsReply : Reply → Core → List Stroke → Type 0
ShowsReply More core drew = (core.done ≡ 0) × (core.fault ≡ 0)
ShowsReply (Drew strokes) core drew = (core.done ≡ 1) × (core.fault ≡ 0) × (drew ≡ strokes)
ShowsReply (Fails fault) core drew = (core.done ≡ 0) × (core.fault ≡ fault_number fault) × (core.stroke ≡ 0)
