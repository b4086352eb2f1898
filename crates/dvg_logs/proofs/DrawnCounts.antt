-- How many runs of a log drew a half.
use Rattle.std.proofs.Common.{◌≡◌, ◌≤◌, ◌+◌, ℕ, suc, Bool, true, false, ◌&&◌, not, cond, [], ◌∷◌, length, ap, ◌∙◌, arith, refl}
use Rattle.dvg_log.specs.Log.{Line, Log, open_run}
use Rattle.dvg_world.specs.Judging.{draws_half}
use Rattle.dvg_print.specs.declared.log_verdict.LogCounts.{LogCounts}
use Rattle.dvg_logs.specs.declared.log_line.LogLine.{LogLine}
use Rattle.dvg_logs.specs.declared.log_line.LogLine.TheVariants as code
use Rattle.dvg_logs.specs.LogLineTells.{line_of}
use Rattle.dvg_logs.specs.LogCounts.{counts_of, draws_from, drew_of}

-- no more than there are lines
pub drew_few : (log : Log) → drew_of log ≤ length log
drew_few [] = omega arith
drew_few (line ∷ log) = by_case (draws_from line log) (drew_few log)
  where
    by_case : (draws : Bool) → drew_of log ≤ length log → cond draws 1 0 + drew_of log ≤ suc (length log)
    by_case true few = omega (arith, few)
    by_case false few = omega (arith, few)

-- whether one begins by a line, as it is told
pub draws_by : (line : Line) (log : Log) (draws before after : Bool) → draws ≡ (after && not before) → before ≡ draws_half (open_run log)
    → after ≡ draws_half (open_run (line ∷ log)) → draws ≡ draws_from line log
draws_by line log draws before after is was now = is ∙ ap (λ b. b && not before) now ∙ ap (λ b. draws_half (open_run (line ∷ log)) && not b) was

-- the count after a line
pub drew_more : (line : Line) (log : Log) → draws_from line log ≡ true → drew_of (line ∷ log) ≡ 1 + drew_of log
drew_more line log draws = ap (λ b. cond b 1 0 + drew_of log) draws

pub drew_same : (line : Line) (log : Log) → draws_from line log ≡ false → drew_of (line ∷ log) ≡ drew_of log
drew_same line log draws =
    let same : drew_of (line ∷ log) ≡ 0 + drew_of log = ap (λ b. cond b 1 0 + drew_of log) draws in
    omega (arith, same)

abbrev with_drew : LogCounts → ℕ → LogCounts
with_drew counts n = record counts { drew = n }

same_counts : {counts others : LogCounts} {n m : ℕ} → counts ≡ others → n ≡ m → with_drew counts n ≡ with_drew others m
same_counts is drew = rw (is, drew) refl

-- a line that begins no run, ends none and writes nothing
pub other_counts : (logged : LogLine) (log : Log) (counts : LogCounts) (n : ℕ) → (logged ≡ code.Started → ⊥) → (logged ≡ code.Halted → ⊥)
    → ((address byte : ℕ) → logged ≡ code.Wrote address byte → ⊥) → counts ≡ counts_of log → n ≡ drew_of (line_of logged ∷ log)
    → with_drew counts n ≡ counts_of (line_of logged ∷ log)
other_counts code.Started log counts n begins halts writes is drew = absurd (begins refl)
other_counts code.Halted log counts n begins halts writes is drew = absurd (halts refl)
other_counts (code.Wrote address byte) log counts n begins halts writes is drew = absurd (writes address byte refl)
other_counts code.Passed log counts n begins halts writes is drew = same_counts is drew
other_counts (code.Fetched address word) log counts n begins halts writes is drew = same_counts is drew
other_counts (code.Low address byte) log counts n begins halts writes is drew = same_counts is drew
other_counts code.Reset log counts n begins halts writes is drew = same_counts is drew
