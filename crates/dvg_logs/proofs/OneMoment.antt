-- Of the text of a log one verdict by moments is given at most, and none where a line tells nothing.
use Rattle.std.proofs.Common.{◌≡◌, ℕ, List, [], ◌∷◌, refl, sym, ap, ◌∙◌, subst, inl, inr, true, false, true≢false, Option, Some, arith}
use Rattle.dvg_log.specs.declared.entry.Entry.TheVariants.{Offered, Refused, Busy, Asked, NothingPublished, Acted, Started, NoStrobe, Low, Fetched, Done, Broke, Still, Cleared}
use Rattle.dvg_log.specs.declared.event.Event.TheVariants.{Fetch}
use Rattle.dvg_log.specs.Log.{◌⟼◌, Line, Log, Throughout}
use Rattle.dvg_moment.specs.Judging.{IsTorn}
use Rattle.dvg_read.specs.Texts.{lines}
use Rattle.dvg_read.specs.declared.fault.TextFault.TheVariants.{Syntax, TooLong}
use Rattle.dvg_print.specs.declared.moment_verdict.Reading.{Reading}
use Rattle.dvg_print.specs.declared.moment_verdict.Reading.TheVariants as of
use Rattle.dvg_print.specs.declared.moment_verdict.MomentVerdict.{MomentVerdict}
use Rattle.dvg_print.specs.declared.moment_verdict.MomentVerdict.TheVariants as say
use Rattle.dvg_logs.specs.declared.log_reading.LogStop.{LogStop}
use Rattle.dvg_logs.specs.declared.log_reading.LogStop.TheVariants as stop
use Rattle.dvg_logs.specs.LogLaws.{IsJudgedByMoments}
use Rattle.dvg_logs.specs.LogCounts.{halts}
use Rattle.dvg_logs.specs.LogReading as reading
use Rattle.dvg_logs.specs.MomentLogs.{Decides, Ends, IsSound, TornSince, judged_log, reading_entry}
use Rattle.dvg_logs.specs.MomentTears.{JudgesMoments}
use Rattle.dvg_logs.proofs.MomentLines.{torn_of}
use Rattle.dvg_logs.proofs.OneVerdict.{Of, one_said}

-- ---- what decides

-- a torn run is decided by its HALT alone
pub record IsHalt (n : ℕ) (last line : Line) (log : Log) : Type 0 where
  pub since : TornSince (judged_log log) n last
  pub sound : Of IsSound log line → ¬ IsTorn (judged_log log)
  pub halts : halts line ≡ true

halt_of : (n : ℕ) (read : Reading) (line : Line) (log : Log) → Decides (say.Torn n read) line log → IsHalt n (Fetch ⟼ reading_entry read) line log
halt_of n read (event ⟼ Done address word drew) log since = record { since = since; sound = λ sound. sound; halts = refl }
halt_of n read (event ⟼ Offered) log since = absurd since
halt_of n read (event ⟼ Refused fault) log since = absurd since
halt_of n read (event ⟼ Busy) log since = absurd since
halt_of n read (event ⟼ Asked) log since = absurd since
halt_of n read (event ⟼ NothingPublished) log since = absurd since
halt_of n read (event ⟼ Acted action) log since = absurd since
halt_of n read (event ⟼ Started) log since = absurd since
halt_of n read (event ⟼ NoStrobe) log since = absurd since
halt_of n read (event ⟼ Low address byte) log since = absurd since
halt_of n read (event ⟼ Fetched address word) log since = absurd since
halt_of n read (event ⟼ Broke address fault) log since = absurd since
halt_of n read (event ⟼ Still) log since = absurd since
halt_of n read (event ⟼ Cleared) log since = absurd since

-- a line that decides isn't sound
pub unsound : (verdict : MomentVerdict) (line : Line) (log : Log) → Decides verdict line log → ¬ Of IsSound log line
unsound (say.Whole runs halted judged) line log decides sound = absurd decides
unsound (say.NoRun runs halted) line log decides sound = absurd decides
unsound (say.SomeTorn runs halted torn) line log decides sound = absurd decides
unsound (say.Torn n read) line log decides sound =
    let halt = halt_of n read line log decides in
    halt.sound sound (torn_of (judged_log log) n (Fetch ⟼ reading_entry read) halt.since)
unsound (say.Contradicts n (of.Low address byte)) line log (is, at, contradicts) sound = subst (Of IsSound log) is sound contradicts
unsound (say.Contradicts n (of.Fetched address word)) line log (is, at, contradicts) sound = subst (Of IsSound log) is sound contradicts

-- the line by which no moment is left is one
since_once : (log : Log) (n m : ℕ) (one other : Line) → TornSince log n one → TornSince log m other → (n ≡ m) × (one ≡ other)
since_once [] n m one other a b = absurd a
since_once (line ∷ log) n m one other (torn, inl (before, a)) (also, inl (same, b)) = since_once log n m one other a b
since_once (line ∷ log) n m one other (torn, inl (before, a)) (also, inr (whole, at, is)) = absurd (whole before)
since_once (line ∷ log) n m one other (torn, inr (whole, at, is)) (also, inl (before, b)) = absurd (whole before)
since_once (line ∷ log) n m one other (torn, inr (whole, at, is)) (also, inr (same, here, too)) = (at ∙ sym here, sym is ∙ too)

read_once : (one other : Reading) → Fetch ⟼ reading_entry one ≡ Fetch ⟼ reading_entry other → one ≡ other
read_once (of.Low a b) (of.Low x y) e = let p : a ≡ x = cc in let q : b ≡ y = cc in rw (p, q) refl
read_once (of.Fetched a b) (of.Fetched x y) e = let p : a ≡ x = cc in let q : b ≡ y = cc in rw (p, q) refl
read_once (of.Low a b) (of.Fetched x y) e = absurd cc
read_once (of.Fetched a b) (of.Low x y) e = absurd cc

reading_halts : (read : Reading) → halts (Fetch ⟼ reading_entry read) ≡ false
reading_halts (of.Low address byte) = refl
reading_halts (of.Fetched address word) = refl

no_halt : (n m : ℕ) (read other : Reading) (line : Line) (log : Log) → Decides (say.Torn n read) line log → line ≡ Fetch ⟼ reading_entry other → ⊥
no_halt n m read other line log decides is =
    true≢false (sym (halt_of n read line log decides).halts ∙ (ap halts is ∙ reading_halts other))

pub decides_once : (one other : MomentVerdict) (line : Line) (log : Log) → Decides one line log → Decides other line log → other ≡ one
decides_once (say.Whole runs halted judged) other line log a b = absurd a
decides_once (say.NoRun runs halted) other line log a b = absurd a
decides_once (say.SomeTorn runs halted torn) other line log a b = absurd a
decides_once (say.Torn n read) (say.SomeTorn runs halted torn) line log a b = absurd b
decides_once (say.Contradicts n read) (say.SomeTorn runs halted torn) line log a b = absurd b
decides_once (say.Torn n read) (say.Whole runs halted judged) line log a b = absurd b
decides_once (say.Torn n read) (say.NoRun runs halted) line log a b = absurd b
decides_once (say.Torn n read) (say.Torn m other) line log a b =
    let since = (halt_of n read line log a).since in
    let also = (halt_of m other line log b).since in
    let (at, is) = since_once (judged_log log) m n (Fetch ⟼ reading_entry other) (Fetch ⟼ reading_entry read) also since in
    let same = read_once other read is in rw (at, same) refl
decides_once (say.Torn n read) (say.Contradicts m other) line log a b = absurd (no_halt n m read other line log a b.0)
decides_once (say.Contradicts n read) (say.Whole runs halted judged) line log a b = absurd b
decides_once (say.Contradicts n read) (say.NoRun runs halted) line log a b = absurd b
decides_once (say.Contradicts n read) (say.Torn m other) line log a b = absurd (no_halt m n other read line log b a.0)
decides_once (say.Contradicts n read) (say.Contradicts m other) line log a b =
    let same = read_once other read (sym b.0 ∙ a.0) in
    let number : m ≡ n = b.1 ∙ sym a.1 in rw (number, same) refl

-- ---- what is said at the end

pub ends_once : (one other : MomentVerdict) (log : Log) → Ends one log → Ends other log → other ≡ one
ends_once (say.Whole r h j) (say.Whole s k i) log (a, b, c, some) (x, y, z, also) =
    let p : s ≡ r = x ∙ sym a in let q : k ≡ h = y ∙ sym b in let t : i ≡ j = z ∙ sym c in rw (p, q, t) refl
ends_once (say.NoRun r h) (say.NoRun s k) log (a, b, c) (x, y, z) = let p : s ≡ r = x ∙ sym a in let q : k ≡ h = y ∙ sym b in rw (p, q) refl
ends_once (say.Whole r h j) (say.NoRun s k) log (a, b, c, some) (x, y, none) = absurd (omega (arith, c, some, none))
ends_once (say.NoRun r h) (say.Whole s k i) log (a, b, none) (x, y, z, some) = absurd (omega (arith, z, some, none))
ends_once (say.Whole r h j) (say.Torn n read) log a b = absurd b
ends_once (say.Whole r h j) (say.Contradicts n read) log a b = absurd b
ends_once (say.NoRun r h) (say.Torn n read) log a b = absurd b
ends_once (say.NoRun r h) (say.Contradicts n read) log a b = absurd b
ends_once (say.Whole r h j) (say.SomeTorn s k t) log a b = absurd b
ends_once (say.NoRun r h) (say.SomeTorn s k t) log a b = absurd b
ends_once (say.SomeTorn s k t) other log a b = absurd a
ends_once (say.Torn n read) other log a b = absurd a
ends_once (say.Contradicts n read) other log a b = absurd a

-- ---- the laws

pub one_moment_verdict : (base : Option ℕ) (text : List ℕ) (one other : MomentVerdict) (at end : Option ℕ) → JudgesMoments base text one at → JudgesMoments base text other end → other ≡ one
one_moment_verdict base text one other at end a b = one_said base IsSound Decides Ends unsound decides_once ends_once (lines text) one other at end a b

pub moments_judged_at : {base : Option ℕ} (text : List ℕ) (why : LogStop MomentVerdict) → reading.StopsAt base (Throughout IsSound) Decides why (lines text) → IsJudgedByMoments base text
moments_judged_at text (stop.Found n verdict) stops = inl (verdict, Some n, stops)
moments_judged_at text (stop.Syntax n) stops = inr (Syntax n, stops)
moments_judged_at text stop.TooLong stops = inr (TooLong, stops)
