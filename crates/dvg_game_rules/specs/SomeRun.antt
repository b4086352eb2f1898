-- The laws aren't empty: a run of a program that draws, and takes NMIs.
use Rattle.std.specs.Prelude.{◌≡◌, ℕ, suc, ◌+◌, ◌&&◌, nat_eq, if◌then◌else◌}
use Rattle.dvg_calls_6502.specs.Code.{dvg_run, dvg_offer}
use Rattle.dvg_game_rules.specs.Machine.{State, IsRun, begins, steps, anew, nmi, nmi_within, turns, calls_driver}
use Rattle.dvg_game_rules.specs.Machine.{word_at}
use Rattle.dvg_game_rules.specs.First.{rom, start}

-- how many NMIs came in a run
unfoldable pub nmis : {rom : ℕ → ℕ} {start : ℕ} {st : State} → IsRun rom start st → ℕ
nmis (begins st first) = 0
nmis (steps choice run go) = nmis run
nmis (anew new run again first) = nmis run
nmis (nmi choice run late) = suc (nmis run)
nmis (nmi_within choice run outside is few) = suc (nmis run)
nmis (turns mem run same) = nmis run

-- how often a routine of the driver was called, and returned
unfoldable pub calls_of : {rom : ℕ → ℕ} {start : ℕ} {st : State} → ℕ → IsRun rom start st → ℕ
calls_of entry (begins st first) = 0
calls_of entry (steps {st} choice run go) =
    (if calls_driver st && nat_eq (word_at st.mem (st.pc + 1)) entry then 1 else 0) + calls_of entry run
calls_of entry (anew new run again first) = calls_of entry run
calls_of entry (nmi choice run late) = calls_of entry run
calls_of entry (nmi_within choice run outside is few) = calls_of entry run
calls_of entry (turns mem run same) = calls_of entry run

-- examples/first boots the driver, offers it the table of a frame, and shows that: one NMI comes amid the driver, and one
-- right after it
abbrev pub SomeRun : Type 0
SomeRun = (other : ℕ → ℕ) → (st : State) × (run : IsRun (rom other) start st) × (nmis run ≡ 2)
    × (calls_of dvg_offer run ≡ 1) × (calls_of dvg_run run ≡ 2)
