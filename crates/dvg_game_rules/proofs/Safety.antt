-- What comes next where all holds is safe.
use Rattle.std.proofs.Common.{◌≡◌, ℕ, ◌+◌, ◌*◌, ◌%◌, ◌≤◌, ◌⊎◌, inl, inr, Bool, true, false, refl, sym, ap, ◌∙◌}
use Rattle.std.proofs.Common.{List, [], ◌∷◌, subst, arith, eqb-true, leb-true}
use Rattle.std.specs.Prelude.{nat_eq, nat_le, ◌&&◌, ◌||◌, not, if◌then◌else◌, None, Some}
use Rattle.dvg_calls_6502.specs.Processor.{stack_place}
use Rattle.dvg_game_rules.specs.Kinds.{Transfer, PushFlags, PullFlags, Kind, Quiet, Reads, Stores, Push, Pull, Branch, Jump}
use Rattle.dvg_game_rules.specs.Kinds.{Call, Return, Finish, Wild}
use Rattle.dvg_game_rules.specs.Machine.{IsLoaded, reset_vector, blank_after, Came, State}
use Rattle.dvg_game_rules.specs.Machine.{word_at, is_driver, is_reset, is_own, is_operand, resumed_at, address}
use Rattle.dvg_game_rules.specs.Checker.{implies, ends_of, goes_on, unchanged, Level, Main, Sub}
use Rattle.dvg_game_rules.specs.Checker.{Nmi, Note, Notes, noted, leads, begun, spare, same_level}
use Rattle.dvg_game_rules.specs.Checker.{fine_by, enters, is_entry, is_free, is_strobe, may_write, of_reached}
use Rattle.dvg_game_rules.specs.Safe.{MayWrite, IsCalled, ComesBack, InCase, IsSafeBy}
use Rattle.dvg_game_rules.proofs.Facts.{IsInside, placed, implied, both_true, not_true, same}
use Rattle.dvg_game_rules.proofs.RunInvariant.{Below, Runs, Handles, low}
use Rattle.dvg_game_rules.proofs.Memory.{either, reaching}
use Rattle.dvg_game_rules.proofs.CallsAndReturns.{leads_back, open_call, or_more as or_awake}
use Rattle.dvg_game_rules.proofs.Saved.{holds_less}
use Rattle.dvg_game_rules.proofs.SafeSteps.{vector}
use Rattle.dvg_game_rules.proofs.NmiStepsHold.{two_levels, is_nmi, not_entered, first_there}
use Rattle.dvg_game_rules.proofs.NmiStepsHold.{second_there, nmi_low, nmi_word, no_call}

-- what it asks of memory alone, wherever the stack is
abbrev pub IsBeside : Kind → State → Type 0
IsBeside (Stores place) st = (index : ℕ) → MayWrite st (address place st.mem st.pc index)
IsBeside Wild st = ⊥
IsBeside kind st = Unit {0}

pub beside_of : (kind : Kind) (st : State) → IsSafeBy kind st → IsBeside kind st
beside_of (Stores place) st safe = safe
beside_of Wild st safe = safe
beside_of kind st safe = tt

-- what an NMI came upon, part by part
abbrev upon : (pc s p a x y : ℕ) → Came
upon pc s p a x y = record { pc = pc; s = s; p = p; a = a; x = x; y = y }

all_same : (c : Came) (pc s p a x y : ℕ) → c.pc ≡ pc → c.s ≡ s → c.p ≡ p → c.a ≡ a → c.x ≡ x → c.y ≡ y
    → c ≡ upon pc s p a x y
all_same c pc s p a x y e f j g h i =
    ap (λ q. upon q c.s c.p c.a c.x c.y) e ∙ ap (λ q. upon pc q c.p c.a c.x c.y) f
    ∙ ap (λ q. upon pc s q c.a c.x c.y) j ∙ ap (λ q. upon pc s p q c.x c.y) g
    ∙ ap (λ q. upon pc s p a q c.y) h ∙ ap (λ q. upon pc s p a x q) i

-- where no subroutine is open, no call is
alone : (notes : Notes) (w : Bool) (mem : ℕ → ℕ) (level : Level) (place : ℕ) (backs : List ℕ) → level ≡ Main
    → Below notes w mem level place backs → backs ≡ []
alone notes w mem Main place [] main is = refl
alone notes w mem Main place (back ∷ backs) main is = absurd is
alone notes w mem Sub place backs main is = absurd (cc)
alone notes w mem Nmi place backs main is = absurd is

-- what is stored
may : (st : State) (level : Level) (a : ℕ) → (level ≡ Nmi → ⊥) → st.amid ≡ None → (level ≡ Main → st.calls ≡ [])
    → may_write level a ≡ true → MayWrite st a
may st Main a out outside closed is = one (either (is_free a) _ is)
  where
    two : ((is_operand a ≡ true) ⊎ (is_own a ≡ true)) → MayWrite st a
    two (inl operand) = inr (outside, inl operand)
    two (inr own) = inr (outside, inr (own, closed refl))

    one : ((is_free a ≡ true) ⊎ ((is_operand a || is_own a) ≡ true)) → MayWrite st a
    one (inl free) = inl free
    one (inr more) = two (either (is_operand a) _ more)
may st Sub a out outside closed is = one (either (is_free a) _ is)
  where
    one : ((is_free a ≡ true) ⊎ (is_operand a ≡ true)) → MayWrite st a
    one (inl free) = inl free
    one (inr operand) = inr (outside, inl operand)
may st Nmi a out outside closed is = absurd (out refl)

pub may_nmi : (st : State) (level : Level) (a : ℕ) → level ≡ Nmi → may_write level a ≡ true → MayWrite st a
may_nmi st Nmi a is fine = inl fine
may_nmi st _ a is fine = absurd (cc)

not_blank : (t u : Bool) → (t ≡ true → u ≡ true) → not u ≡ true → t ≡ false
not_blank true u up is = let e = up refl in absurd (cc)
not_blank false u up is = refl

module _ (rom : ℕ → ℕ) (notes : Notes) (st : State) (loaded : IsLoaded rom st.mem)
    (runs : Runs notes st) where
  now : Note
  now = runs.stands.now

  pc_rom : IsInside st.pc
  pc_rom = (placed notes st.pc runs.stands.now runs.stands.is)

  s_top : st.s + runs.stands.now.depth ≤ 255
  s_top = low notes st.awake st.mem runs.stands.now.level (st.s + runs.stands.now.depth) st.calls runs.stands.below

  room : runs.stands.now.room + spare ≤ st.s
  room = runs.stands.room

  first : st.mem (st.pc + 1) ≡ rom (st.pc + 1)
  first = first_there rom st.mem st.pc loaded pc_rom

  second : st.mem (st.pc + 1 + 1) ≡ rom (st.pc + 1 + 1)
  second = second_there rom st.mem st.pc loaded pc_rom

  word : word_at rom (st.pc + 1) ≡ word_at st.mem (st.pc + 1)
  word = sym (ap (λ b. b + 256 * st.mem (st.pc + 1 + 1)) first ∙ ap (λ b. rom (st.pc + 1) + 256 * b) second)

  no_nmi : runs.stands.now.level ≡ Nmi → ⊥
  no_nmi is = never (subst (λ l. Below notes st.awake st.mem l
      (st.s + runs.stands.now.depth) st.calls) is runs.stands.below)
    where
      never : Below notes st.awake st.mem Nmi (st.s + runs.stands.now.depth) st.calls → ⊥
      never is = is

  comes_back : runs.stands.now.level ≡ Sub → runs.stands.now.depth ≡ 0 → ComesBack st
  comes_back sub none = let call = open_call notes st runs.stands sub none in
      (call.rest, call.is ∙ ap (λ b. b ∷ call.rest) (sym (leads_back notes st runs.stands sub none)))

  is_called : (to : ℕ) → enters to runs.stands.now ≡ true → IsCalled st to
  is_called to fine =
      let one = both_true (is_entry to) _ fine in
      let some = both_true (nat_le 4 runs.stands.now.room) _ one.1 in
      let four = leb-true 4 runs.stands.now.room some.0 in
      let r = room in
      let two = both_true (not (same_level runs.stands.now.level Nmi)) _ some.1 in
      let three = both_true (is_reset to || runs.stands.now.awake) _ two.1 in
      record {
        entry = one.0;
        room = omega (arith, four, r);
        program = runs.outside;
        awake = or_awake (is_reset to) runs.stands.now.awake st.awake runs.stands.awake three.0;
        labs = λ on. not_blank st.blank runs.stands.now.blank runs.blank
            (implied (goes_on to) (not runs.stands.now.blank) three.1 on);
      }

  pub run_safe : (kind : Kind) → fine_by kind notes rom st.pc runs.stands.now ≡ true → IsSafeBy kind st
  run_safe (Reads sets place) fine = λ index. not_true (is_strobe (address place st.mem st.pc index))
      (reaching place rom st.mem st.pc index (λ a. not (is_strobe a)) first second
      (both_true (of_reached place rom st.pc (λ a. not (is_strobe a))) _ fine).0)
  run_safe PushFlags fine = let r = room in omega (arith, r)
  run_safe PullFlags fine =
      let some = leb-true 1 runs.stands.now.depth (both_true (nat_le 1 runs.stands.now.depth) _ fine).0 in
      let high = s_top in omega (arith, some, high)
  run_safe (Stores mode) fine = λ index. may st runs.stands.now.level
      (address mode st.mem st.pc index) no_nmi runs.outside
      (λ main. alone notes st.awake st.mem runs.stands.now.level
      (st.s + runs.stands.now.depth) st.calls main runs.stands.below)
      (reaching mode rom st.mem st.pc index (may_write runs.stands.now.level) first second
      (both_true (of_reached mode rom st.pc (may_write runs.stands.now.level)) _ fine).0)
  run_safe Push fine = let r = room in omega (arith, r)
  run_safe Pull fine =
      let some = leb-true 1 runs.stands.now.depth (both_true (nat_le 1 runs.stands.now.depth) _ fine).0 in
      let high = s_top in omega (arith, some, high)
  run_safe Jump fine = first_by (nat_eq to (word_at st.mem reset_vector)) (subst (λ v. whole_of to v ≡ true) (sym
      (vector rom notes st loaded))
      (subst (λ w. whole_of w (word_at rom reset_vector) ≡ true) word fine))
    where
      fine_of : ℕ → Bool
      fine_of w = if is_driver w then enters w runs.stands.now && (same_level runs.stands.now.level Sub
          && (nat_eq runs.stands.now.depth 0 && implies (blank_after w runs.stands.now.blank) runs.stands.now.ends))
          else leads notes w runs.stands.now

      whole_of : ℕ → ℕ → Bool
      whole_of w v = if nat_eq w v then not (same_level runs.stands.now.level Nmi) else fine_of w

      to : ℕ
      to = word_at st.mem (st.pc + 1)

      by : (t : Bool) → (if t then enters to runs.stands.now && (same_level runs.stands.now.level Sub
          && (nat_eq runs.stands.now.depth 0 && implies (blank_after to runs.stands.now.blank) runs.stands.now.ends))
          else leads notes to runs.stands.now) ≡ true
          → InCase t (IsCalled st to × ComesBack st) (Unit {0})
      by true fine =
          let one = both_true (enters to runs.stands.now) _ fine in
          let two = both_true (same_level runs.stands.now.level Sub) _ one.1 in (
            is_called to one.0,
            comes_back (same runs.stands.now.level Sub two.0)
                (eqb-true runs.stands.now.depth 0 (both_true (nat_eq runs.stands.now.depth 0) _ two.1).0),
          )
      by false fine = tt

      first_by : (t : Bool) → (if t then not (same_level runs.stands.now.level Nmi) else fine_of to) ≡ true
          → InCase t (st.amid ≡ None) (InCase (is_driver to) (IsCalled st to × ComesBack st) (Unit {0}))
      first_by true fine = runs.outside
      first_by false fine = by (is_driver to) fine
  run_safe Call fine = by (is_driver (word_at st.mem (st.pc + 1))) (subst (λ w. fine_of w ≡ true) word fine)
    where
      of_driver : ℕ → Bool
      of_driver w = enters w runs.stands.now
          && leads notes (st.pc + 3) (record runs.stands.now {
            awake = is_reset w || runs.stands.now.awake;
            blank = blank_after w runs.stands.now.blank;
          })

      of_game : ℕ → Bool
      of_game w = nat_le 2 runs.stands.now.room && (not (same_level runs.stands.now.level Nmi)
          && (leads notes w (begun (ends_of (noted notes w)) runs.stands.now)
          && leads notes (st.pc + 3) (record runs.stands.now { blank = ends_of (noted notes w) })))

      fine_of : ℕ → Bool
      fine_of w = if is_driver w then of_driver w else of_game w

      to : ℕ
      to = word_at st.mem (st.pc + 1)

      by : (t : Bool) → (if t then of_driver to else of_game to) ≡ true → InCase t (IsCalled st to) (2 ≤ st.s)
      by true fine = is_called to (both_true (enters to runs.stands.now) _ fine).0
      by false fine = let r = room in omega (arith, r)
  run_safe Return fine =
      let two = both_true (same_level runs.stands.now.level Sub) _ fine in
      comes_back (same runs.stands.now.level Sub two.0)
      (eqb-true runs.stands.now.depth 0 (both_true (nat_eq runs.stands.now.depth 0) _ two.1).0)
  run_safe Finish fine = absurd (no_nmi (same runs.stands.now.level Nmi
      (both_true (same_level runs.stands.now.level Nmi) _ fine).0))
  run_safe Wild fine = absurd (cc)
  run_safe _ fine = tt

module _ (rom : ℕ → ℕ) (notes : Notes) (st : State) (loaded : IsLoaded rom st.mem)
    (h : Handles notes st) where
  pub nmi_safe : (kind : Kind) → fine_by kind notes rom st.pc h.now ≡ true → IsSafeBy kind st
  nmi_safe (Reads sets place) fine = λ index. not_true (is_strobe (address place st.mem st.pc index))
      (reaching place rom st.mem st.pc index (λ a. not (is_strobe a))
      (first_there rom st.mem st.pc loaded (placed notes st.pc h.now h.is))
      (second_there rom st.mem st.pc loaded (placed notes st.pc h.now h.is))
      (both_true (of_reached place rom st.pc (λ a. not (is_strobe a))) _ fine).0)
  nmi_safe PushFlags fine =
      let some = leb-true 1 h.now.room (both_true (nat_le 1 h.now.room) _ fine).0 in
      let r = h.room in omega (arith, some, r)
  nmi_safe PullFlags fine =
      let some = leb-true 1 h.now.depth (both_true (nat_le 1 h.now.depth) _ fine).0 in
      let high = nmi_low rom notes st loaded h in omega (arith, some, high)
  nmi_safe (Stores mode) fine = λ index. may_nmi st h.now.level (address mode st.mem st.pc index) h.level
      (reaching mode rom st.mem st.pc index (may_write h.now.level)
      (first_there rom st.mem st.pc loaded (placed notes st.pc h.now h.is))
      (second_there rom st.mem st.pc loaded (placed notes st.pc h.now h.is))
      (both_true (of_reached mode rom st.pc (may_write h.now.level)) _ fine).0)
  nmi_safe Push fine =
      let some = leb-true 1 h.now.room (both_true (nat_le 1 h.now.room) _ fine).0 in
      let r = h.room in omega (arith, some, r)
  nmi_safe Pull fine =
      let some = leb-true 1 h.now.depth (both_true (nat_le 1 h.now.depth) _ fine).0 in
      let high = nmi_low rom notes st loaded h in omega (arith, some, high)
  nmi_safe Jump fine = first_by (nat_eq to (word_at st.mem reset_vector))
      (subst (λ v. whole_of to v ≡ true) (sym (vector rom notes st loaded))
      (subst (λ w. whole_of w (word_at rom reset_vector) ≡ true) (sym (nmi_word rom notes st loaded h)) fine))
    where
      fine_of : ℕ → Bool
      fine_of w = if is_driver w then enters w h.now && (same_level h.now.level Sub
          && (nat_eq h.now.depth 0 && implies (blank_after w h.now.blank) h.now.ends))
          else leads notes w h.now

      whole_of : ℕ → ℕ → Bool
      whole_of w v = if nat_eq w v then not (same_level h.now.level Nmi) else fine_of w

      to : ℕ
      to = word_at st.mem (st.pc + 1)

      by : (t : Bool) → (if t then enters to h.now && (same_level h.now.level Sub
          && (nat_eq h.now.depth 0 && implies (blank_after to h.now.blank) h.now.ends))
          else leads notes to h.now) ≡ true → InCase t (IsCalled st to × ComesBack st) (Unit {0})
      by true fine = absurd (not_entered to h.now h.level (both_true (enters to h.now) _ fine).0)
      by false fine = tt

      first_by : (t : Bool) → (if t then not (same_level h.now.level Nmi) else fine_of to) ≡ true
          → InCase t (st.amid ≡ None) (InCase (is_driver to) (IsCalled st to × ComesBack st) (Unit {0}))
      first_by true fine = absurd (is_nmi h.now.level h.level fine)
      first_by false fine = by (is_driver to) fine
  nmi_safe Call fine = absurd (no_call rom notes st loaded h fine)
  nmi_safe Return fine = absurd (two_levels h.now.level h.level (both_true (same_level h.now.level Sub) _ fine).0)
  nmi_safe Finish fine =
      let two = both_true (nat_eq h.now.depth 0) _ (both_true (same_level h.now.level Nmi) _ fine).1 in
      let none = eqb-true h.now.depth 0 two.0 in
      let back = holds_less unchanged h.now.held h.came st two.1 h.holds in
      let high = nmi_low rom notes st loaded h in
      let place = h.place in
      let s : h.came.s ≡ (st.s + 3) % 256 = omega (arith, place, none, high) in
      let flat : st.s + h.now.depth ≡ st.s = omega (arith, none) in
      let pc : h.came.pc ≡ resumed_at st =
      sym (subst (λ t. st.mem (stack_place (t + 2)) + 256 * st.mem (stack_place (t + 3)) ≡ h.came.pc) flat h.word) in
      let p : h.came.p ≡ st.mem (stack_place (st.s + 1)) =
      sym (subst (λ t. st.mem (stack_place (t + 1)) ≡ h.came.p) flat h.flags) in
      h.amid ∙ ap (λ c. Some c) (all_same h.came (resumed_at st) ((st.s + 3) % 256) (st.mem (stack_place (st.s + 1)))
      st.a st.x st.y pc s p (sym back.0) (sym back.1) (sym back.2))
  nmi_safe Wild fine = absurd (cc)
  nmi_safe _ fine = tt
