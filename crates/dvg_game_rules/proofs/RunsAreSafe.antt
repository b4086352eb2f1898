-- Whole runs, and that they are safe.
use Rattle.std.proofs.Common.{suc, ◌-◌, ◌≡◌, ℕ, ◌+◌, ◌*◌, ◌≤◌, ◌⊎◌, inl, inr, Bool, true, false, refl, sym, ap, ◌∙◌}
use Rattle.std.proofs.Common.{List, [], ◌∷◌, subst, arith, eqb-true, leb-true}
use Rattle.std.specs.Prelude.{length, nat_eq, nat_le, ◌&&◌, ◌||◌, not, if◌then◌else◌, Option, None, Some}
use Rattle.dvg_calls_6502.specs.Code.{code}
use Rattle.dvg_calls_6502.specs.Processor.{stack_place}
use Rattle.dvg_game_rules.specs.Kinds.{Transfer, PushFlags, PullFlags, Kind, Quiet, Reads, Stores, Push, Pull, Branch, Jump}
use Rattle.dvg_game_rules.specs.Kinds.{Call, Return, Finish, Wild, kind_of}
use Rattle.dvg_game_rules.specs.Machine.{IsLoaded, nmi_vector, reset_vector, within, calling, calls_driver}
use Rattle.dvg_game_rules.specs.Machine.{nmi_within, blank_after, restarting, restarts, anew, State, Choice}
use Rattle.dvg_game_rules.specs.Machine.{step, word_at, is_driver, is_reset}
use Rattle.dvg_game_rules.specs.Machine.{pushed, interrupted, Begins, IsRun, begins, steps, nmi, turns}
use Rattle.dvg_game_rules.specs.Checker.{boots, boot_most, stand_at, implies, ends_of, Main, Sub}
use Rattle.dvg_game_rules.specs.Checker.{Nmi, Note, Notes, noted, leads, begun, spare, interrupts, starts, same_level}
use Rattle.dvg_game_rules.specs.Checker.{fine_by, accepts_game, enters, is_entry}
use Rattle.dvg_game_rules.specs.Safe.{BytesLieAt, IsSafe, CheckedSafe}
use Rattle.dvg_game_rules.proofs.Facts.{IsInside, is_inside, placed, both_true, not_true, same}
use Rattle.dvg_game_rules.proofs.RunInvariant.{Fresh, Below, Runs, Handles, Good, low}
use Rattle.dvg_game_rules.proofs.Memory.{left_rom, other, above_pushed}
use Rattle.dvg_game_rules.proofs.CallsAndReturns.{comes_within, Enters, entering, comes}
use Rattle.dvg_game_rules.proofs.SafeSteps.{vector, checked, run_step}
use Rattle.dvg_game_rules.proofs.NmiStepsHold.{opcode_there, first_there, second_there, nmi_step}
use Rattle.dvg_game_rules.proofs.Safety.{run_safe, nmi_safe}
use Rattle.dvg_game_rules.proofs.OutsideTurns.{good_turns}

-- a step
good_step : (rom : ℕ → ℕ) (start : ℕ) (notes : Notes) (st : State) (choice : Choice)
    → accepts_game rom start notes ≡ true
    → Good rom notes st → restarts st ≡ false → Good rom notes (step choice st)
good_step rom start notes st choice accepted good go = by good.stage
  where
    same_kind : (pc : ℕ) → IsInside pc → kind_of (rom pc) ≡ kind_of (st.mem pc)
    same_kind pc at = ap kind_of (sym (opcode_there rom st.mem pc good.loaded at))

    by : (Runs notes st ⊎ Handles notes st) → Good rom notes (step choice st)
    by (inl runs) = run_step rom notes st good.loaded (kind_of (st.mem st.pc)) choice runs
        (subst (λ k. fine_by k notes rom st.pc runs.stands.now ≡ true)
        (same_kind st.pc (placed notes st.pc runs.stands.now runs.stands.is))
        (checked rom start notes st.pc runs.stands.now accepted runs.stands.is)) go
    by (inr h) = nmi_step rom notes st good.loaded h (kind_of (st.mem st.pc)) choice
        (subst (λ k. fine_by k notes rom st.pc h.now ≡ true) (same_kind st.pc (placed notes st.pc h.now h.is))
        (checked rom start notes st.pc h.now accepted h.is)) go

-- an NMI comes, and not amid another one
too_soon : (notes : Notes) (st : State) → Handles notes st → 860 ≤ st.since → ⊥
too_soon notes st h late = let time = h.time in omega (arith, time, late)

good_nmi : (rom : ℕ → ℕ) (start : ℕ) (notes : Notes) (st : State) (choice : Choice)
    → accepts_game rom start notes ≡ true
    → Good rom notes st → 860 ≤ st.since → Good rom notes (interrupted choice st)
good_nmi rom start notes st choice accepted good late = by good.stage
  where
    vector : word_at rom nmi_vector ≡ word_at st.mem nmi_vector
    vector = ap (λ b. b + 256 * rom (nmi_vector + 1)) (sym (good.loaded nmi_vector (omega arith) (omega arith)))
        ∙ ap (λ b. st.mem nmi_vector + 256 * b) (sym (good.loaded (nmi_vector + 1) (omega arith) (omega arith)))

    enters_there : Enters notes (word_at st.mem nmi_vector)
    enters_there = subst (λ a. Enters notes a) vector (entering notes (word_at rom nmi_vector)
        (both_true (interrupts (noted notes (word_at rom nmi_vector))) _
        (both_true (starts (noted notes start)) _ accepted).1).0)

    by : (Runs notes st ⊎ Handles notes st) → Good rom notes (interrupted choice st)
    by (inl runs) =
        let room = runs.stands.room in
        let high = low notes st.awake st.mem runs.stands.now.level
        (st.s + runs.stands.now.depth) st.calls runs.stands.below in
        record {
          loaded = λ b up top.
              other (stack_place (st.s + 254)) choice.byte (pushed st.pc st.s st.mem) b (λ is. omega (arith, is, up))
              ∙ above_pushed st.pc st.s st.mem b (omega (arith, room)) (omega (arith, high)) (inr (omega
              (arith, up, high)))
              ∙ good.loaded b up top;
          stage = inr (comes notes st choice runs enters_there);
        }
    by (inr h) = absurd (too_soon notes st h late)

-- an NMI amid a call of the driver
enters_room : (to : ℕ) (now : Note) → enters to now ≡ true → 4 ≤ now.room
enters_room to now fine = leb-true 4 now.room (both_true (nat_le 4 now.room) _ (both_true (is_entry to) _ fine).1).0

calling_room : (rom : ℕ → ℕ) (notes : Notes) (st : State) (now : Note) (kind : Kind)
    → word_at st.mem (st.pc + 1) ≡ word_at rom (st.pc + 1) → word_at st.mem reset_vector ≡ word_at rom reset_vector
    → fine_by kind notes rom st.pc now ≡ true → calling kind st ≡ true → restarting kind st ≡ false → 4 ≤ now.room
calling_room rom notes st now Jump word to_reset fine is go =
    by (nat_eq (word_at rom (st.pc + 1)) (word_at rom reset_vector)) (is_driver (word_at rom (st.pc + 1)))
    (subst (λ v. nat_eq (word_at rom (st.pc + 1)) v ≡ false) to_reset
    (subst (λ w. nat_eq w (word_at st.mem reset_vector) ≡ false) word go))
    (subst (λ w. is_driver w ≡ true) word is) fine
  where
    to : ℕ
    to = word_at rom (st.pc + 1)

    by : (r d : Bool) → r ≡ false → d ≡ true → (if r then not (same_level now.level Nmi) else if d then enters to now
        && (same_level now.level Sub && (nat_eq now.depth 0 && implies (blank_after to now.blank) now.ends))
        else leads notes to now) ≡ true → 4 ≤ now.room
    by true d one two fine = absurd (cc)
    by false true one two fine = enters_room to now (both_true (enters to now) _ fine).0
    by false false one two fine = absurd (cc)
calling_room rom notes st now Call word to_reset fine is go =
    by (is_driver (word_at rom (st.pc + 1))) (subst (λ w. is_driver w ≡ true) word is) fine
  where
    to : ℕ
    to = word_at rom (st.pc + 1)

    by : (d : Bool) → d ≡ true → (if d then enters to now && leads notes (st.pc + 3)
        (record now { awake = is_reset to || now.awake; blank = blank_after to now.blank })
        else nat_le 2 now.room && (not (same_level now.level Nmi)
        && (leads notes to (begun (ends_of (noted notes to)) now)
        && leads notes (st.pc + 3) (record now { blank = ends_of (noted notes to) })))) ≡ true → 4 ≤ now.room
    by true is fine = enters_room to now (both_true (enters to now) _ fine).0
    by false is fine = absurd (cc)
calling_room rom notes st now _ word to_reset fine is go = absurd (cc)

good_within : (rom : ℕ → ℕ) (start : ℕ) (notes : Notes) (st : State) (choice : Choice)
    → accepts_game rom start notes ≡ true
    → Good rom notes st → st.amid ≡ None → calls_driver st ≡ true → choice.deep ≤ 4
    → Good rom notes (interrupted choice (within choice st))
good_within rom start notes st choice accepted good outside is few = by good.stage
  where
    left : IsLoaded rom (within choice st).mem
    left b high top = left_rom st.s choice.left st.mem b high top ∙ good.loaded b high top

    nmi_there : word_at rom nmi_vector ≡ word_at (within choice st).mem nmi_vector
    nmi_there = ap (λ b. b + 256 * rom (nmi_vector + 1)) (sym (left nmi_vector (omega arith) (omega arith)))
        ∙ ap (λ b. (within choice st).mem nmi_vector + 256 * b) (sym (left (nmi_vector + 1) (omega arith)
        (omega arith)))

    enters_there : Enters notes (word_at (within choice st).mem nmi_vector)
    enters_there = subst (λ a. Enters notes a) nmi_there (entering notes (word_at rom nmi_vector)
        (both_true (interrupts (noted notes (word_at rom nmi_vector))) _
        (both_true (starts (noted notes start)) _ accepted).1).0)

    two : (calling (kind_of (st.mem st.pc)) st ≡ true) × (not (restarts st) ≡ true)
    two = both_true (calling (kind_of (st.mem st.pc)) st) (not (restarts st)) is

    by : (Runs notes st ⊎ Handles notes st) → Good rom notes (interrupted choice (within choice st))
    by (inr h) = absurd (let one = h.amid in cc)
    by (inl runs) =
        let at = placed notes st.pc runs.stands.now runs.stands.is in
        let one = first_there rom st.mem st.pc good.loaded at in
        let next = second_there rom st.mem st.pc good.loaded at in
        let word : word_at st.mem (st.pc + 1) ≡ word_at rom (st.pc + 1) =
        ap (λ b. b + 256 * st.mem (st.pc + 1 + 1)) one ∙ ap (λ b. rom (st.pc + 1) + 256 * b) next in
        let four = calling_room rom notes st runs.stands.now (kind_of (st.mem st.pc)) word
        (vector rom notes st good.loaded)
        (subst (λ b. fine_by (kind_of b) notes rom st.pc runs.stands.now ≡ true)
        (sym (opcode_there rom st.mem st.pc good.loaded at))
        (checked rom start notes st.pc runs.stands.now accepted runs.stands.is)) two.0 (not_true (restarts st) two.1) in
        let room = runs.stands.room in
        let high = low notes st.awake st.mem runs.stands.now.level
        (st.s + runs.stands.now.depth) st.calls runs.stands.below in
        record {
          loaded = λ b up top. other (stack_place (st.s - choice.deep + 254)) choice.byte
              (pushed choice.place (st.s - choice.deep) (within choice st).mem) b (λ is. omega (arith, is, up))
              ∙ above_pushed choice.place (st.s - choice.deep) (within choice st).mem b (omega (arith, room, few))
              (omega (arith, high)) (inr (omega (arith, up, high))) ∙ left b up top;
          stage = inr (comes_within notes st choice runs few four enters_there);
        }

-- the first state
good_start : (rom : ℕ → ℕ) (start : ℕ) (notes : Notes) (st : State) → accepts_game rom start notes ≡ true
    → Begins rom start st → Good rom notes st
good_start rom start notes st accepted first = record {
  loaded = first.loaded;
  stage = inl (by (noted notes start) refl (both_true (starts (noted notes start)) _ accepted).0);
}
  where
    by : (n : Option Note) → noted notes start ≡ n → starts n ≡ true → Runs notes st
    by None is fine = absurd (cc)
    by (Some now) is fine =
        let a = both_true (same_level now.level Main) _ fine in
        let b = both_true (nat_eq now.depth 0) _ a.1 in
        let c = both_true (nat_le (now.room + spare) 255) _ b.1 in
        let none = eqb-true now.depth 0 b.0 in
        let stack = first.stack in
        let room = leb-true (now.room + spare) 255 c.0 in
        let sleeps = not_true now.awake c.1 in
        let place : st.s + now.depth ≡ 255 = omega (arith, none, stack) in
        record {
          stands = record {
            now = now;
            is = ap (noted notes) first.entry ∙ is;
            below = subst (λ c. Below notes st.awake st.mem now.level (st.s + now.depth) c) (sym first.calls)
                (subst (λ l. Below notes st.awake st.mem l (st.s + now.depth) []) (sym
                (same now.level Main a.0)) place);
            fresh = subst (λ c. Fresh notes now.ends now.level c) (sym first.calls)
                (subst (λ l. Fresh notes now.ends l []) (sym (same now.level Main a.0)) tt);
            room = omega (arith, room, stack);
            awake = λ is. absurd (cc);
          };
          outside = first.amid;
          homeless = first.home;
          blank = λ is. let not_blank = first.blank in absurd (cc);
        }

-- all states of a run
pub good_run : (rom : ℕ → ℕ) (start : ℕ) (notes : Notes) → accepts_game rom start notes ≡ true → {st : State}
    → IsRun rom start st → Good rom notes st
good_run rom start notes accepted (begins st first) = good_start rom start notes st accepted first
good_run rom start notes accepted (steps {st} choice run go) =
    good_step rom start notes st choice accepted (good_run rom start notes accepted run) go
good_run rom start notes accepted (anew {st} new run again first) = good_start rom start notes new accepted first
good_run rom start notes accepted (nmi {st} choice run late) =
    good_nmi rom start notes st choice accepted (good_run rom start notes accepted run) late
good_run rom start notes accepted (nmi_within {st} choice run outside is few) =
    good_within rom start notes st choice accepted (good_run rom start notes accepted run) outside is few
good_run rom start notes accepted (turns {st} mem run same) =
    good_turns rom notes st mem same (good_run rom start notes accepted run)

-- the driver's bytes
bytes_there : (bytes : List ℕ) (rom mem : ℕ → ℕ) (at : ℕ) → 0x4800 ≤ at → at + length bytes ≤ 0x8000 → IsLoaded rom mem
    → stand_at bytes rom at ≡ true → BytesLieAt bytes mem at
bytes_there [] rom mem at low high same is = tt
bytes_there (byte ∷ bytes) rom mem at low high same is =
    let two = both_true (nat_eq (rom at) byte) _ is in (
      same at low (omega (arith, high)) ∙ eqb-true (rom at) byte two.0,
      bytes_there bytes rom mem (suc at) (omega (arith, low)) (omega (arith, high)) same two.1,
    )

driver_ends : 0x6800 + length code ≤ 0x8000
driver_ends = leb-true (0x6800 + length code) 0x8000 refl

-- each run is safe
pub checked_is_safe : CheckedSafe
checked_is_safe rom start notes all st run = by good.stage
  where
    two : (accepts_game rom start notes ≡ true)
        × ((stand_at code rom 0x6800 && boots boot_most rom (word_at rom reset_vector) start) ≡ true)
    two = both_true (accepts_game rom start notes) _ all

    good : Good rom notes st
    good = good_run rom start notes two.0 run

    driver : BytesLieAt code st.mem 0x6800
    driver = bytes_there code rom st.mem 0x6800 (omega arith) driver_ends good.loaded
        (both_true (stand_at code rom 0x6800) _ two.1).0

    by : (Runs notes st ⊎ Handles notes st) → IsSafe rom st
    by (inl runs) = record {
      rom_kept = good.loaded;
      driver = driver;
      inside = is_inside notes st.pc runs.stands.now runs.stands.is;
      next = run_safe rom notes st good.loaded runs (kind_of (st.mem st.pc))
          (subst (λ b. fine_by (kind_of b) notes rom st.pc runs.stands.now ≡ true)
          (sym (opcode_there rom st.mem st.pc good.loaded (placed notes st.pc runs.stands.now runs.stands.is)))
          (checked rom start notes st.pc runs.stands.now two.0 runs.stands.is));
      alone = λ late. runs.outside;
      room = λ out. let r = runs.stands.room in omega (arith, r);
    }
    by (inr h) = record {
      rom_kept = good.loaded;
      driver = driver;
      inside = is_inside notes st.pc h.now h.is;
      next = nmi_safe rom notes st good.loaded h (kind_of (st.mem st.pc))
          (subst (λ b. fine_by (kind_of b) notes rom st.pc h.now ≡ true)
          (sym (opcode_there rom st.mem st.pc good.loaded (placed notes st.pc h.now h.is)))
          (checked rom start notes st.pc h.now two.0 h.is));
      alone = λ late. absurd (too_soon notes st h late);
      room = λ out. absurd (let one = h.amid in cc);
    }
