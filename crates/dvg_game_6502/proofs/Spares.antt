-- What an NMI's routine leaves as it was.
use Rattle.std.proofs.Common.{◌≡◌, ℕ, ◌+◌, ◌/◌, ◌%◌, ◌<◌, ◌≤◌, ◌⊎◌, inl, inr, Bool, true, false, refl, sym, ap, ◌∙◌}
use Rattle.std.proofs.Common.{subst, arith}
use Rattle.std.specs.Prelude.{if◌then◌else◌, None, Some}
use Rattle.dvg_calls_6502.specs.Processor.{A, X, Y, put, stack_place}
use Rattle.dvg_game_rules.specs.Kinds.{Nothing, Only, Kind, Quiet, Reads, Transfer, Stores, Push, PushFlags, Pull, PullFlags}
use Rattle.dvg_game_rules.specs.Kinds.{Branch, Jump, Call, Return, Finish, Wild, kind_of}
use Rattle.dvg_game_rules.specs.Machine.{State, Came, Choice, IsRun, does, restarting, is_driver, address}
use Rattle.dvg_game_rules.specs.Machine.{word_at, resumed_at, returned, driven, called}
use Rattle.dvg_game_rules.specs.Checker.{Notes, is_free, accepts, accepts_game}
use Rattle.dvg_game_rules.specs.Safe.{MayWrite, IsSafeBy, IsCalled, ComesBack, InCase}
use Rattle.dvg_game_rules.proofs.Facts.{both_true}
use Rattle.dvg_game_rules.proofs.Between.{home_mem}
use Rattle.dvg_game_rules.proofs.Early.{same_came}
use Rattle.dvg_game_rules.proofs.Memory.{other}
use Rattle.dvg_game_rules.proofs.LocalKinds.{ticked}
use Rattle.dvg_game_rules.proofs.RunInvariant.{Good, Runs, Handles, low as low_of}
use Rattle.dvg_game_rules.proofs.RunsAreSafe.{checked_is_safe, good_run}
use Rattle.dvg_game_6502.specs.Interrupt.{IsSpared, NmiSpares}

-- one instruction of it
module _ (st : State) (came : Came) (amid : st.amid ≡ Some came) (low : st.s + 3 ≤ came.s) (high : came.s ≤ 255)
    (b : ℕ) (spared : IsSpared came.s b) where
  off : (k : ℕ) → k ≤ st.s → b ≡ stack_place k → ⊥
  off k small is = by spared.above
    where
      by : ((b < 0x100) ⊎ (0x100 + came.s < b)) → ⊥
      by (inl less) = omega (arith, less, is)
      by (inr more) = omega (arith, more, is, small, low, high)

  not_none : st.amid ≡ None → ⊥
  not_none is = absurd (cc)

  leaves : (kind : Kind) (choice : Choice) → IsSafeBy kind st → restarting kind st ≡ false
      → (does kind choice (ticked st)).mem b ≡ st.mem b
  leaves (Quiet Nothing bytes) choice safe go = refl
  leaves (Quiet (Only A) bytes) choice safe go = refl
  leaves (Quiet (Only X) bytes) choice safe go = refl
  leaves (Quiet (Only Y) bytes) choice safe go = refl
  leaves (Reads Nothing place) choice safe go = refl
  leaves (Reads (Only A) place) choice safe go = refl
  leaves (Reads (Only X) place) choice safe go = refl
  leaves (Reads (Only Y) place) choice safe go = refl
  leaves (Transfer from A) choice safe go = refl
  leaves (Transfer from X) choice safe go = refl
  leaves (Transfer from Y) choice safe go = refl
  leaves (Stores place) choice safe go = by (safe choice.index)
    where
      a : ℕ
      a = address place st.mem st.pc choice.index

      by : MayWrite st a → put a choice.byte st.mem b ≡ st.mem b
      by (inl free) = other a choice.byte st.mem b
          (λ same. let no = spared.bound in let yes = ap is_free same in absurd (cc))
      by (inr more) = absurd (not_none more.0)
  leaves Push choice safe go = other (stack_place st.s) st.a st.mem b (off st.s (omega arith))
  leaves PushFlags choice safe go = other (stack_place st.s) choice.byte st.mem b (off st.s (omega arith))
  leaves Jump choice safe go = by (is_driver to) first
    where
      to : ℕ
      to = word_at st.mem (st.pc + 1)

      first : InCase (is_driver to) (IsCalled st to × ComesBack st) (Unit {0})
      first = subst (λ t. InCase t (st.amid ≡ None) (InCase (is_driver to) (IsCalled st to × ComesBack st) (Unit {0})))
          go safe

      by : (t : Bool) → InCase t (IsCalled st to × ComesBack st) (Unit {0})
          → (if t then returned (driven to choice (ticked st)) else record (ticked st) { pc = to }).mem b ≡ st.mem b
      by true is = absurd (not_none is.0.program)
      by false is = refl
  leaves Call choice safe go = by (is_driver to) safe
    where
      to : ℕ
      to = word_at st.mem (st.pc + 1)

      by : (t : Bool) → InCase t (IsCalled st to) (2 ≤ st.s)
          → (if t then record (driven to choice (ticked st)) { pc = st.pc + 3 } else called to (ticked st)).mem b
          ≡ st.mem b
      by true is = absurd (not_none is.program)
      by false is =
          other (stack_place (st.s + 255)) ((st.pc + 2) % 256) (put (stack_place st.s) ((st.pc + 2) / 256) st.mem) b
          (λ same. off (st.s + 255) (omega arith) same)
          ∙ other (stack_place st.s) ((st.pc + 2) / 256) st.mem b (off st.s (omega arith))
  leaves Finish choice safe go = home_mem st.home
      (record (ticked st) { pc = resumed_at st; s = (st.s + 3) % 256; amid = None; home = None }) b
  leaves Wild choice safe go = absurd safe
  leaves _ choice safe go = refl

module _ (rom : ℕ → ℕ) (start : ℕ) (notes : Notes) (accepted : accepts rom start notes ≡ true) where
  good : (st : State) → IsRun rom start st → Good rom notes st
  good st run = good_run rom start notes (both_true (accepts_game rom start notes) _ accepted).0 run

  -- where an NMI's routine stands on the stack
  pub stands : (st : State) (came : Came) → IsRun rom start st → st.amid ≡ Some came
      → (st.s + 3 ≤ came.s) × (came.s ≤ 255)
  stands st came run amid = by (good st run).stage
    where
      by : (Runs notes st ⊎ Handles notes st) → (st.s + 3 ≤ came.s) × (came.s ≤ 255)
      by (inl runs) = absurd (let none = runs.outside in cc)
      by (inr h) =
          let same = ap (λ (c : Came). c.s) (same_came h.came came (sym h.amid ∙ amid)) in
          let place = h.place in
          let near = h.near in
          let top = low_of notes st.awake st.mem h.stands.now.level
          (h.s + h.stands.now.depth) st.calls h.stands.below in
          (omega (arith, same, place), omega (arith, same, near, top))

pub spares : NmiSpares
spares rom start notes accepted st came run amid choice go b spared =
    let place = stands rom start notes accepted st came run amid in
    leaves st came amid place.0 place.1 b spared (kind_of (st.mem st.pc)) choice
    (checked_is_safe rom start notes accepted st run).next go
