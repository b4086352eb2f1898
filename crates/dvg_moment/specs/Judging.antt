-- What a judge keeps of a log, and what it answers.
use Rattle.std.specs.Prelude.{◌≡◌, ◌≢◌, ℕ, ◌<◌, ◌++◌, List, [], ◌∷◌, length, slice_index_or, None}
use Rattle.std.specs.Prelude.{Bool, false, IsTrue, ◌↔◌}
use Rattle.dvg_log.specs.Log.{Line, Log, waiting, open_run}
use Rattle.dvg_moment.specs.declared.judge.Phase.{Phase}
use Rattle.dvg_moment.specs.declared.judge.Phase.TheVariants.{Closed, Whole, Past, Torn}
use Rattle.dvg_moment.specs.declared.judge.MomentJudge.{MomentJudge}
use Rattle.dvg_moment.specs.Moment.{told, HasRead, HasChanged, StillStands, IsMoment, OfOneMoment}

-- a run is open, and is mixed
abbrev pub IsTorn : Log → Type 0
IsTorn log = (open_run log ≢ None) × ¬ OfOneMoment told log

-- whether byte a is marked
abbrev pub is_marked : List Bool → ℕ → Bool
is_marked marks a = slice_index_or marks a false

-- the moment is before a line that changed a byte which the run had read, and the marked bytes changed since
pub record IsPast (changed : List Bool) (log : Log) : Type 0 where
  pub part : Log
  pub line : Line
  pub moment : Log
  pub is_moment : IsMoment told log (part ++ line ∷ []) moment
  pub latest : ¬ StillStands told (line ∷ moment)
  pub marks : (a : ℕ) → a < 0x800 → IsTrue (is_marked changed a) ↔ HasChanged told a (part ++ line ∷ []) moment

-- the newest run of a log stands so
abbrev pub StandsSo : (changed : List Bool) → Phase → Log → Type 0
StandsSo changed Closed log = Unit {0}
StandsSo changed Whole log = StillStands told log
StandsSo changed Past log = IsPast changed log
StandsSo changed Torn log = ¬ OfOneMoment told log

-- the judge was given this log: of each byte it knows what was told, at the addresses that words of 12 bits have, and of
-- those of the RAM whether the newest run has read it
pub record StandsAfter (judge : MomentJudge) (log : Log) : Type 0 where
  pub sizes : (length judge.told ≡ 0x2000) × (length judge.read ≡ 0x800) × (length judge.changed ≡ 0x800)
  pub tells : (a : ℕ) → a < 0x2000 → slice_index_or judge.told a None ≡ told log a
  pub marks : (a : ℕ) → a < 0x800 → IsTrue (is_marked judge.read a) ↔ HasRead a log
  pub waits : judge.low ≡ waiting log
  pub closed : (judge.phase ≡ Closed) ↔ (open_run log ≡ None)
  pub stands : StandsSo judge.changed judge.phase log
