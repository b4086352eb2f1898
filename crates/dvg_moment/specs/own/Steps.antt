-- What the steps of a judge leave (for private contracts).
use Rattle.std.specs.Prelude.{ℕ, ◌+◌, ◌*◌, ◌/◌, ◌%◌, nat_lt, ◌==◌, replicate, slice_set, Option, Some}
use Rattle.std.specs.Prelude.{None, Bool, true, false, if◌then◌else◌}
use Rattle.dvg_log.specs.Events.{Happening}
use Rattle.dvg_log.specs.declared.event.Event.TheVariants.{ResetGen, ResetAll}
use Rattle.dvg_moment.specs.declared.judge.Phase.{Phase}
use Rattle.dvg_moment.specs.declared.judge.Phase.TheVariants.{Closed, Whole, Past, Torn}
use Rattle.dvg_moment.specs.declared.judge.MomentJudge.{MomentJudge}
use Rattle.dvg_moment.specs.Judging.{is_marked}

-- this number is there
abbrev pub is_some_of : Option ℕ → ℕ → Bool
is_some_of None number = false
is_some_of (Some there) number = there == number

-- how a run stands once it has read bytes, of which some may have changed since the moment
abbrev pub phase_after : Phase → (some_changed : Bool) → Phase
phase_after Past true = Torn
phase_after phase some_changed = phase

-- a byte was read, of the RAM or from 800 on
abbrev pub after_read : MomentJudge → (at byte : ℕ) → MomentJudge
after_read judge at byte = if nat_lt at 0x2000 then (if nat_lt at 0x800 then record judge {
  told = slice_set judge.told at (Some byte);
  read = slice_set judge.read at true;
  phase = phase_after judge.phase (is_marked judge.changed at);
} else record judge { told = slice_set judge.told at (Some byte) }) else judge

-- a word was completed, whose low byte may have been read before
abbrev pub after_word : (low_waits : Bool) → MomentJudge → (address word : ℕ) → MomentJudge
after_word true judge address word = after_read judge (2 * address + 1) (word / 256)
after_word false judge address word =
    after_read (after_read judge (2 * address) (word % 256)) (2 * address + 1) (word / 256)

-- a byte changed, while the run stood so, and had read the byte or not
abbrev pub after_change : Phase → (has_read : Bool) → MomentJudge → (at : ℕ) → MomentJudge
after_change Whole true judge at = record judge { phase = Past; changed = slice_set (replicate 0x800 false) at true }
after_change Past has_read judge at = record judge { changed = slice_set judge.changed at true }
after_change phase has_read judge at = judge

-- a byte was told
abbrev pub after_told : MomentJudge → (at byte : ℕ) → MomentJudge
after_told judge at byte = record judge { told = slice_set judge.told at (Some byte) }

-- a byte was written, which is what was told there or isn't
abbrev pub after_write : (is_told : Bool) → MomentJudge → (at byte : ℕ) → MomentJudge
after_write true judge at byte = after_told judge at byte
after_write false judge at byte =
    after_told (after_change judge.phase (is_marked judge.read at) judge at) at byte

-- the run ended
abbrev pub after_end : MomentJudge → MomentJudge
after_end judge = record judge { phase = Closed; low = None }

-- nothing is told any more
abbrev pub void : MomentJudge → MomentJudge
void judge = record judge { told = replicate 0x2000 None }

-- the run ended, unless one began
abbrev pub after_reset : (starts : Bool) → MomentJudge → MomentJudge
after_reset true judge = judge
after_reset false judge = after_end judge

-- the event of a line, whose entry says or doesn't that a run began
abbrev pub after_event : Happening → (starts : Bool) → MomentJudge → MomentJudge
after_event ResetGen starts judge = after_reset starts judge
after_event (ResetAll bytes) starts judge = after_reset starts (void judge)
after_event event starts judge = judge
