-- What draws, and what does not.
use Rattle.std.proofs.Common.{◌≡◌, ℕ, zero, suc, ◌<◌, [], ◌∷◌, refl, arith}
use Rattle.dvg_code.specs.declared.instr.Instr.{Instr}
use Rattle.dvg_code.specs.declared.instr.Instr.TheVariants.{Vctr, Labs, Halt, Jsrl, Rtsl, Jmpl, Svec}
use Rattle.dvg_gen.specs.declared.beam.Beam.{Beam}
use Rattle.dvg_gen.specs.declared.stroke.Stroke.{Stroke}
use Rattle.dvg_gen.specs.Completing.{IsSeen}
use Rattle.dvg_gen.specs.Drawing.{moved, line, drawn}

-- a line of intensity 1 at least
line_seen : (from to : Beam) (z : ℕ) → 0 < z → (stroke : Stroke) × (line from to z ≡ stroke ∷ [])
line_seen from to zero seen = absurd (omega arith)
line_seen from to (suc z) seen = (_, refl)

-- a vector that is seen draws one stroke
pub seen_draws : (beam : Beam) (code : Instr) → IsSeen code → (stroke : Stroke) × (drawn beam code ≡ stroke ∷ [])
seen_draws beam (Vctr scale dx dy z) seen = line_seen beam (moved beam (Vctr scale dx dy z)) z seen
seen_draws beam (Labs x y scale) seen = absurd seen
seen_draws beam Halt seen = absurd seen
seen_draws beam (Jsrl address) seen = absurd seen
seen_draws beam Rtsl seen = absurd seen
seen_draws beam (Jmpl address) seen = absurd seen
seen_draws beam (Svec scale dx dy z) seen = line_seen beam (moved beam (Svec scale dx dy z)) z seen
