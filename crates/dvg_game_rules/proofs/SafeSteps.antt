-- Each step of a run that the checker accepts_game, kind by kind, and that it is safe.
use Rattle.std.proofs.Common.{ap, ◌∙◌, ◌*◌, ◌-◌, ◌≡◌, ℕ, suc, ◌+◌, ◌≤◌, inl, inr, Bool, true, false, sym}
use Rattle.std.proofs.Common.{subst, arith, eqb-true, leb-true}
use Rattle.std.specs.Prelude.{nat_eq, nat_le, ◌&&◌, ◌||◌, not, if◌then◌else◌, Some}
use Rattle.dvg_game_rules.specs.Kinds.{Transfer, PushFlags, PullFlags, Kind, Quiet, Reads, Stores, Push, Pull, Branch, Jump}
use Rattle.dvg_game_rules.specs.Kinds.{Call, Return, Finish, Wild, kind_of}
use Rattle.dvg_game_rules.specs.Machine.{IsLoaded, nmi_vector, reset_vector, blank_after, restarting, State, Choice, does}
use Rattle.dvg_game_rules.specs.Machine.{word_at, is_driver, is_reset, driven, returned, called}
use Rattle.dvg_game_rules.specs.Checker.{implies, ends_of, Sub, Nmi, Note, Notes, noted, leads, begun, interrupts, starts}
use Rattle.dvg_game_rules.specs.Checker.{same_level, first, places, fine_by, fine_at, accepts_game, enters}
use Rattle.dvg_game_rules.proofs.Facts.{within, placed, IsInside, implied, else_true, both_true, same, under}
use Rattle.dvg_game_rules.proofs.RunInvariant.{Below, Runs, Good, low}
use Rattle.dvg_game_rules.proofs.WithinLevel.{Moves, runs_on}
use Rattle.dvg_game_rules.proofs.Memory.{above_pushed, left_rom}
use Rattle.dvg_game_rules.proofs.LocalKinds.{transfer_moves, push_flags_moves, pull_flags_moves, ticked, reads_moves}
use Rattle.dvg_game_rules.proofs.LocalKinds.{quiet_moves, stores_moves, push_moves, pull_moves, branch_moves, jump_moves}
use Rattle.dvg_game_rules.proofs.LocalKinds.{same_word}
use Rattle.dvg_game_rules.proofs.CallsAndReturns.{blank_more, returns, calls, drives, driver_call}

-- what was checked of a place that is noted
pub checked : (rom : ℕ → ℕ) (start : ℕ) (notes : Notes) (at : ℕ) (now : Note) → accepts_game rom start notes ≡ true
    → noted notes at ≡ Some now → fine_by (kind_of (rom at)) notes rom at now ≡ true
checked rom start notes at now accepted is =
    let one = both_true (starts (noted notes start)) _ accepted in
    let two = both_true (interrupts (noted notes (word_at rom nmi_vector))) _ one.1 in
    let here = within notes at now is in
    let low = here.0 in
    let high = here.1 in
    let back : first + (at - first) ≡ at = omega (arith, low) in
    subst (λ n. fine_at notes rom at n ≡ true) is
    (subst (λ at. fine_at notes rom at (noted notes at) ≡ true) back
    (under places (λ i. fine_at notes rom (first + i) (noted notes (first + i))) two.1 (at - first) (omega
    (arith, low, high))))

-- what holds doesn't rest on when the last NMI was
pub later : (notes : Notes) (st : State) (since : ℕ) → Runs notes st → Runs notes (record st { since = since })
later notes st since runs = record {
  stands = record {
    now = runs.stands.now;
    is = runs.stands.is;
    below = runs.stands.below;
    fresh = runs.stands.fresh;
    room = runs.stands.room;
    awake = runs.stands.awake;
  };
  outside = runs.outside;
  homeless = runs.homeless;
  blank = runs.blank;
}

-- facts of the program's place
module _ (rom : ℕ → ℕ) (notes : Notes) (st : State) (loaded : IsLoaded rom st.mem) where
  after_moves : (now : Note) (after : State) → Moves notes now st after → IsLoaded rom after.mem
  after_moves now after moves b high top = moves.rom b high top ∙ loaded b high top

  module _ (runs : Runs notes st) where
    at_rom : IsInside st.pc
    at_rom = (placed notes st.pc runs.stands.now runs.stands.is)

    is_low : st.s + runs.stands.now.depth ≤ 255
    is_low = low notes st.awake st.mem runs.stands.now.level (st.s + runs.stands.now.depth) st.calls runs.stands.below

    has_room : runs.stands.now.room ≤ st.s
    has_room = let room = runs.stands.room in omega (arith, room)

    moved : (after : State) → Moves notes runs.stands.now st after → Good rom notes after
    moved after moves = record {
      loaded = after_moves runs.stands.now after moves;
      stage = inl (runs_on notes st after runs moves);
    }

    outside_nmi : same_level runs.stands.now.level Nmi ≡ true → ⊥
    outside_nmi is = no (subst (λ l. Below notes st.awake st.mem l (st.s + runs.stands.now.depth) st.calls)
        (same runs.stands.now.level Nmi is) runs.stands.below)
      where
        no : Below notes st.awake st.mem Nmi (st.s + runs.stands.now.depth) st.calls → ⊥
        no is = is

  -- an instruction was counted
  counted : Runs notes st → Runs notes (ticked st)
  counted = later notes st (suc st.since)

  -- the reset's vector
  pub vector : word_at st.mem reset_vector ≡ word_at rom reset_vector
  vector = ap (λ b. b + 256 * st.mem (reset_vector + 1)) (loaded reset_vector (omega arith) (omega arith))
      ∙ ap (λ b. rom reset_vector + 256 * b) (loaded (reset_vector + 1) (omega arith) (omega arith))

  pub run_step : (kind : Kind) (choice : Choice) (runs : Runs notes st)
      → fine_by kind notes rom st.pc runs.stands.now ≡ true
      → restarting kind st ≡ false → Good rom notes (does kind choice (ticked st))
  unfolding counted drives later
  run_step (Quiet sets bytes) choice runs fine go = moved runs _
      (quiet_moves notes rom choice st runs.stands.now loaded (at_rom runs) (is_low runs)
      (has_room runs) sets bytes fine)
  run_step (Reads sets place) choice runs fine go = moved runs _
      (reads_moves notes rom choice st runs.stands.now loaded (at_rom runs) (is_low runs)
      (has_room runs) sets place fine)
  run_step (Transfer from to) choice runs fine go = moved runs _
      (transfer_moves notes rom choice st runs.stands.now loaded (at_rom runs) (is_low runs)
      (has_room runs) from to fine)
  run_step (Stores mode) choice runs fine go = moved runs _
      (stores_moves notes rom choice st runs.stands.now loaded (at_rom runs) (is_low runs) (has_room runs) mode fine)
  run_step Push choice runs fine go = moved runs _
      (push_moves notes rom choice st runs.stands.now loaded (at_rom runs) (is_low runs) (has_room runs) fine)
  run_step Pull choice runs fine go = moved runs _
      (pull_moves notes rom choice st runs.stands.now loaded (at_rom runs) (is_low runs) (has_room runs) fine)
  run_step PushFlags choice runs fine go = moved runs _
      (push_flags_moves notes rom choice st runs.stands.now loaded (at_rom runs) (is_low runs) (has_room runs) fine)
  run_step PullFlags choice runs fine go = moved runs _
      (pull_flags_moves notes rom choice st runs.stands.now loaded (at_rom runs) (is_low runs) (has_room runs) fine)
  run_step Branch choice runs fine go = moved runs _
      (branch_moves notes rom choice st runs.stands.now loaded (at_rom runs) (is_low runs) (has_room runs) fine)
  run_step Jump choice runs fine go = by (is_driver to) (subst (λ w. fine_of w ≡ true) (sym word)
      (else_true (nat_eq (word_at rom (st.pc + 1)) (word_at rom reset_vector)) (not (same_level now.level Nmi))
      (fine_of (word_at rom (st.pc + 1)))
      (subst (λ v. nat_eq (word_at rom (st.pc + 1)) v ≡ false) vector
      (subst (λ w. nat_eq w (word_at st.mem reset_vector) ≡ false) word go)) fine))
    where
      now : Note
      now = runs.stands.now

      to : ℕ
      to = word_at st.mem (st.pc + 1)

      word : to ≡ word_at rom (st.pc + 1)
      word = same_word notes rom choice st now loaded (at_rom runs) (is_low runs) (has_room runs)

      fine_of : ℕ → Bool
      fine_of w = if is_driver w then enters w now && (same_level now.level Sub
          && (nat_eq now.depth 0 && implies (blank_after w now.blank) now.ends)) else leads notes w now

      by : (t : Bool) → (if t then enters to now && (same_level now.level Sub
          && (nat_eq now.depth 0 && implies (blank_after to now.blank) now.ends)) else leads notes to now) ≡ true
          → Good rom notes (if t then returned (driven to choice (ticked st)) else record (ticked st) { pc = to })
      by true fine =
          let one = both_true (enters to now) _ fine in
          let two = both_true (same_level now.level Sub) _ one.1 in
          let three = both_true (nat_eq now.depth 0) _ two.1 in
          record {
            loaded = λ b high top. left_rom st.s choice.left st.mem b high top ∙ loaded b high top;
            stage = inl (returns notes (driven to choice (ticked st)) (drives notes (ticked st) to choice
                (counted runs).stands)
                runs.outside runs.homeless (same now.level Sub two.0) (eqb-true now.depth 0 three.0)
                (λ is. implied (blank_after to now.blank) now.ends three.1
                (blank_more to st.blank now.blank runs.blank is)));
          }
      by false fine = moved runs _
          (jump_moves notes rom choice st now loaded (at_rom runs) (is_low runs) (has_room runs) fine)
  run_step Call choice runs fine go = by (is_driver to) (subst (λ w. fine_of w ≡ true) (sym word) fine)
    where
      now : Note
      now = runs.stands.now

      to : ℕ
      to = word_at st.mem (st.pc + 1)

      word : to ≡ word_at rom (st.pc + 1)
      word = same_word notes rom choice st now loaded (at_rom runs) (is_low runs) (has_room runs)

      of_driver : ℕ → Bool
      of_driver w = enters w now && leads notes (st.pc + 3) (record now {
        awake = is_reset w || now.awake;
        blank = blank_after w now.blank;
      })

      of_game : ℕ → Bool
      of_game w = nat_le 2 now.room && (not (same_level now.level Nmi)
          && (leads notes w (begun (ends_of (noted notes w)) now)
          && leads notes (st.pc + 3) (record now { blank = ends_of (noted notes w) })))

      fine_of : ℕ → Bool
      fine_of w = if is_driver w then of_driver w else of_game w

      by : (t : Bool) → (if t then of_driver to else of_game to) ≡ true
          → Good rom notes (if t then record (driven to choice (ticked st)) { pc = st.pc + 3 }
          else called to (ticked st))
      by true fine = record {
        loaded = λ b high top. left_rom st.s choice.left st.mem b high top ∙ loaded b high top;
        stage = inl (driver_call notes (ticked st) to choice (counted runs) (both_true (enters to now) _ fine).1);
      }
      by false fine =
          let one = both_true (nat_le 2 now.room) _ fine in
          let two = both_true (not (same_level now.level Nmi)) _ one.1 in
          let three = both_true (leads notes to (begun (ends_of (noted notes to)) now)) _ two.1 in
          let some = leb-true 2 now.room one.0 in
          let room = has_room runs in
          let high = is_low runs in
          record {
            loaded = λ b up top. above_pushed (st.pc + 2) st.s st.mem b (omega (arith, some, room)) (omega
                (arith, high))
                (inr (omega (arith, up, high))) ∙ loaded b up top;
            stage = inl (calls notes (ticked st) to (counted runs) some three.0 three.1);
          }
  run_step Return choice runs fine go =
      let two = both_true (same_level runs.stands.now.level Sub) _ fine in
      let three = both_true (nat_eq runs.stands.now.depth 0) _ two.1 in
      record {
        loaded = loaded;
        stage = inl (returns notes (ticked st) (counted runs).stands runs.outside runs.homeless
            (same runs.stands.now.level Sub two.0)
            (eqb-true runs.stands.now.depth 0 three.0)
            (λ is. implied runs.stands.now.blank runs.stands.now.ends three.1 (runs.blank is)));
      }
  run_step Finish choice runs fine go =
      absurd (outside_nmi runs (both_true (same_level runs.stands.now.level Nmi) _ fine).0)
  run_step Wild choice runs fine go = absurd (cc)
