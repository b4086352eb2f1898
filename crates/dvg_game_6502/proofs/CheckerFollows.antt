-- The checker's machine follows the processor; what a step leaves of what the machine keeps along.
use Rattle.std.proofs.Common.{◌≡◌, ℕ, suc, ◌+◌, ◌%◌, ◌<◌, Bool, true, false, refl, sym, ◌∙◌, subst}
use Rattle.std.specs.Prelude.{not, if◌then◌else◌, Option, None, Some}
use Rattle.dvg_calls_6502.specs.Processor.{Cpu, A, X, Y}
use Rattle.dvg_game_rules.specs.Kinds.{Nothing, Only, ZeroPage, ZeroPageIndexed, Absolute, AbsoluteIndexed, Kind, Quiet}
use Rattle.dvg_game_rules.specs.Kinds.{Reads}
use Rattle.dvg_game_rules.specs.Kinds.{Transfer, Stores, Push, PushFlags, Pull, PullFlags, Branch, Jump, Call, Return, Finish}
use Rattle.dvg_game_rules.specs.Kinds.{Wild, kind_of}
use Rattle.dvg_game_rules.specs.Machine.{State, Choice, IsRun, steps, does, step, calling, restarting, restarts, is_driver}
use Rattle.dvg_game_rules.specs.Machine.{called, driven, goes_home, is_own, resumed_at, returned, word_at, address}
use Rattle.dvg_game_rules.specs.Alike.{IsOwn, MatchesCpu, idle, of_cpu}
use Rattle.dvg_game_rules.proofs.StepsByKind.{steps_alike}
use Rattle.dvg_game_rules.proofs.Facts.{both_true}
use Rattle.dvg_game_rules.proofs.LocalKinds.{ticked}
use Rattle.dvg_game_6502.specs.Play
use Rattle.dvg_game_6502.specs.Play.{done, fresh}

abbrev pub is_finish : Kind → Bool
is_finish Finish = true
is_finish kind = false

-- the machine with the processor's registers and memory is itself
pub as_cpu : (st : State) (cpu : Cpu) → MatchesCpu st cpu → st ≡ of_cpu cpu st
as_cpu st cpu alike = λ j. record st {
  a = alike.a j;
  x = alike.x j;
  y = alike.y j;
  pc = alike.pc j;
  s = alike.s j;
  mem = λ b. alike.mem b j;
}

-- a jump to the reset is one of the machine's, too
restarts_as : (kind : Kind) (cpu : Cpu) (st : State) → restarting kind (idle cpu) ≡ restarting kind (of_cpu cpu st)
restarts_as (Quiet sets bytes) cpu st = refl
restarts_as _ cpu st = refl

pub restarts_same : (cpu : Cpu) (st : State) → Play.restarts cpu ≡ restarts (of_cpu cpu st)
restarts_same cpu st = restarts_as (kind_of (cpu.mem cpu.pc)) cpu st

pub calls_as : (kind : Kind) (cpu : Cpu) (st : State) → calling kind (idle cpu) ≡ calling kind (of_cpu cpu st)
calls_as (Quiet sets bytes) cpu st = refl
calls_as _ cpu st = refl

-- what is asked of an instruction so that the machine follows
own : (kind : Kind) (cpu : Cpu) (st : State) → calling kind (of_cpu cpu st) ≡ false
    → (is_finish kind ≡ true → st.home ≡ None) → cpu.x < 256 → cpu.y < 256 → IsOwn kind cpu st
own (Stores AbsoluteIndexed) cpu st calls out x y = (x, y)
own Jump cpu st calls out x y = calls
own Call cpu st calls out x y = calls
own Finish cpu st calls out x y = out refl
own _ cpu st calls out x y = tt

-- the machine takes the processor's step
pub record Followed (rom : ℕ → ℕ) (start : ℕ) (cpu new : Cpu) (st : State) : Type 0 where
  pub choice : Choice
  pub run : IsRun rom start (of_cpu new (step choice (of_cpu cpu st)))
  pub alike : MatchesCpu (step choice (of_cpu cpu st)) new

pub follow : (rom : ℕ → ℕ) (start : ℕ) (cpu : Cpu) (st : State) (flags : ℕ → ℕ) → IsRun rom start (of_cpu cpu st)
    → Play.restarts cpu ≡ false → calling (kind_of (cpu.mem cpu.pc)) (of_cpu cpu st) ≡ false
    → (is_finish (kind_of (cpu.mem cpu.pc)) ≡ true → st.home ≡ None) → cpu.x < 256 → cpu.y < 256
    → Followed rom start cpu (done flags cpu) st
follow rom start cpu st flags run go calls out x y =
    let did = steps_alike (fresh flags cpu) st
    (own (kind_of (cpu.mem cpu.pc)) (fresh flags cpu) st calls out x y) in
    record {
      choice = did.0;
      run = subst (IsRun rom start) (as_cpu (step did.0 (of_cpu cpu st)) (done flags cpu) did.1)
          (steps did.0 run (sym (restarts_same cpu st) ∙ go));
      alike = did.1;
    }

-- what an instruction leaves of what is kept along, but for calls of the driver
pub record Along (st new : State) : Type 0 where
  pub since : new.since ≡ suc st.since
  pub blank : new.blank ≡ st.blank
  pub awake : new.awake ≡ true → st.awake ≡ true

-- and, but for an RTI, these
pub record Amid (st new : State) : Type 0 where
  pub amid : new.amid ≡ st.amid
  pub home : new.home ≡ st.home

home_along : (home : Option (ℕ × ℕ)) (st one : State) → Along st one → Along st (goes_home home one)
home_along None st one is = is
home_along (Some place) st one is = record { since = is.since; blank = is.blank; awake = is.awake }

pub along : (kind : Kind) (choice : Choice) (st : State) → calling kind st ≡ false
    → Along st (does kind choice (ticked st))
along (Quiet Nothing bytes) choice st calls = record { since = refl; blank = refl; awake = λ e. e }
along (Quiet (Only A) bytes) choice st calls = record { since = refl; blank = refl; awake = λ e. e }
along (Quiet (Only X) bytes) choice st calls = record { since = refl; blank = refl; awake = λ e. e }
along (Quiet (Only Y) bytes) choice st calls = record { since = refl; blank = refl; awake = λ e. e }
along (Reads Nothing place) choice st calls = record { since = refl; blank = refl; awake = λ e. e }
along (Reads (Only A) place) choice st calls = record { since = refl; blank = refl; awake = λ e. e }
along (Reads (Only X) place) choice st calls = record { since = refl; blank = refl; awake = λ e. e }
along (Reads (Only Y) place) choice st calls = record { since = refl; blank = refl; awake = λ e. e }
along (Transfer from A) choice st calls = record { since = refl; blank = refl; awake = λ e. e }
along (Transfer from X) choice st calls = record { since = refl; blank = refl; awake = λ e. e }
along (Transfer from Y) choice st calls = record { since = refl; blank = refl; awake = λ e. e }
along (Stores place) choice st calls = record {
  since = refl;
  blank = refl;
  awake = λ e. (both_true st.awake (not (is_own (address place st.mem st.pc choice.index))) e).0;
}
along Jump choice st calls = by (is_driver (word_at st.mem (st.pc + 1))) calls
  where
    by : (t : Bool) → t ≡ false → Along st (if t then returned (driven (word_at st.mem (st.pc + 1)) choice (ticked st))
        else record (ticked st) { pc = word_at st.mem (st.pc + 1) })
    by false is = record { since = refl; blank = refl; awake = λ e. e }
    by true is = absurd (cc)
along Call choice st calls = by (is_driver (word_at st.mem (st.pc + 1))) calls
  where
    by : (t : Bool) → t ≡ false → Along st (if t then record (driven (word_at st.mem (st.pc + 1)) choice (ticked st)) {
      pc = st.pc + 3;
    } else called (word_at st.mem (st.pc + 1)) (ticked st))
    by false is = record { since = refl; blank = refl; awake = λ e. e }
    by true is = absurd (cc)
along Finish choice st calls = home_along st.home st
    (record (ticked st) { pc = resumed_at st; s = (st.s + 3) % 256; amid = None; home = None })
    (record { since = refl; blank = refl; awake = λ e. e })
along _ choice st calls = record { since = refl; blank = refl; awake = λ e. e }

pub amid_stays : (kind : Kind) (choice : Choice) (st : State) → calling kind st ≡ false → is_finish kind ≡ false
    → Amid st (does kind choice (ticked st))
amid_stays (Quiet Nothing bytes) choice st calls more = record { amid = refl; home = refl }
amid_stays (Quiet (Only A) bytes) choice st calls more = record { amid = refl; home = refl }
amid_stays (Quiet (Only X) bytes) choice st calls more = record { amid = refl; home = refl }
amid_stays (Quiet (Only Y) bytes) choice st calls more = record { amid = refl; home = refl }
amid_stays (Reads Nothing place) choice st calls more = record { amid = refl; home = refl }
amid_stays (Reads (Only A) place) choice st calls more = record { amid = refl; home = refl }
amid_stays (Reads (Only X) place) choice st calls more = record { amid = refl; home = refl }
amid_stays (Reads (Only Y) place) choice st calls more = record { amid = refl; home = refl }
amid_stays (Transfer from A) choice st calls more = record { amid = refl; home = refl }
amid_stays (Transfer from X) choice st calls more = record { amid = refl; home = refl }
amid_stays (Transfer from Y) choice st calls more = record { amid = refl; home = refl }
amid_stays Jump choice st calls more = by (is_driver (word_at st.mem (st.pc + 1))) calls
  where
    by : (t : Bool) → t ≡ false → Amid st (if t then returned (driven (word_at st.mem (st.pc + 1)) choice (ticked st))
        else record (ticked st) { pc = word_at st.mem (st.pc + 1) })
    by false is = record { amid = refl; home = refl }
    by true is = absurd (cc)
amid_stays Call choice st calls more = by (is_driver (word_at st.mem (st.pc + 1))) calls
  where
    by : (t : Bool) → t ≡ false → Amid st (if t then record (driven (word_at st.mem (st.pc + 1)) choice (ticked st)) {
      pc = st.pc + 3;
    } else called (word_at st.mem (st.pc + 1)) (ticked st))
    by false is = record { amid = refl; home = refl }
    by true is = absurd (cc)
amid_stays Finish choice st calls more = absurd (cc)
amid_stays _ choice st calls more = record { amid = refl; home = refl }

-- in the game no step leads home
pub homeless : (kind : Kind) (choice : Choice) (st : State) → st.home ≡ None → calling kind st ≡ false
    → (does kind choice (ticked st)).home ≡ None
homeless kind choice st out calls = by (is_finish kind) refl
  where
    at_end : (kind : Kind) → is_finish kind ≡ true → (does kind choice (ticked st)).home ≡ None
    at_end Finish is = ended st.home out
      where
        ended : (home : Option (ℕ × ℕ)) → home ≡ None → (goes_home home (record (ticked st) {
          pc = resumed_at st;
          s = (st.s + 3) % 256;
          amid = None;
          home = None;
        })).home ≡ None
        ended None is = refl
        ended (Some place) is = absurd (cc)
    at_end kind is = absurd (cc)

    by : (t : Bool) → is_finish kind ≡ t → (does kind choice (ticked st)).home ≡ None
    by true is = at_end kind is
    by false is = (amid_stays kind choice st calls is).home ∙ out
