-- Each step of the NMI leaves what held.
use Rattle.std.proofs.Common.{suc, ◌≡◌, ℕ, ◌+◌, ◌%◌, ◌≤◌, inl, inr, Bool, true, false, refl, sym, ◌∙◌}
use Rattle.std.proofs.Common.{subst, arith, eqb-true}
use Rattle.std.specs.Prelude.{nat_eq, nat_le, ◌&&◌, ◌||◌, not, if◌then◌else◌, Option, None, Some}
use Rattle.dvg_game_rules.specs.Kinds.{Transfer, PushFlags, PullFlags, Kind, Quiet, Reads, Stores, Push, Pull, Branch, Jump}
use Rattle.dvg_game_rules.specs.Kinds.{Call, Return, Finish, Wild}
use Rattle.dvg_game_rules.specs.Machine.{IsLoaded, reset_vector, goes_home}
use Rattle.dvg_game_rules.specs.Machine.{blank_after, restarting, State, Choice, does, word_at, is_driver, is_reset}
use Rattle.dvg_game_rules.specs.Machine.{driven, returned, resumed_at}
use Rattle.dvg_game_rules.specs.Checker.{implies, ends_of, Level, Main, Sub}
use Rattle.dvg_game_rules.specs.Checker.{Nmi, Note, Notes, noted, leads, begun, same_level, fine_by, enters, is_entry}
use Rattle.dvg_game_rules.proofs.Facts.{IsInside, placed, else_true, both_true}
use Rattle.dvg_game_rules.proofs.RunInvariant.{Runs, Handles, Good, low}
use Rattle.dvg_game_rules.proofs.WithinLevel.{Moves, handles_on}
use Rattle.dvg_game_rules.proofs.LocalKinds.{transfer_moves, push_flags_moves, pull_flags_moves, ticked, reads_moves}
use Rattle.dvg_game_rules.proofs.LocalKinds.{quiet_moves, stores_moves, push_moves, pull_moves, branch_moves, jump_moves}
use Rattle.dvg_game_rules.proofs.LocalKinds.{same_word}
use Rattle.dvg_game_rules.proofs.CallsAndReturns.{finishes}
use Rattle.dvg_game_rules.proofs.SafeSteps.{later, vector}

-- the levels of two tests are one
pub two_levels : (l : Level) → l ≡ Nmi → same_level l Sub ≡ true → ⊥
two_levels Main is sub = absurd (cc)
two_levels _ is sub = absurd (cc)

pub is_nmi : (l : Level) → l ≡ Nmi → not (same_level l Nmi) ≡ true → ⊥
is_nmi Main is out = absurd (cc)
is_nmi _ is out = absurd (cc)

-- what an NMI calls of the driver is refused
pub not_entered : (to : ℕ) (now : Note) → now.level ≡ Nmi → enters to now ≡ true → ⊥
not_entered to now is fine = is_nmi now.level is
    (both_true (not (same_level now.level Nmi)) _ (both_true (nat_le 4 now.room) _ (both_true
    (is_entry to) _ fine).1).1).0

-- the opcode at PC, and the two bytes behind it
pub opcode_there : (rom mem : ℕ → ℕ) (pc : ℕ) → IsLoaded rom mem → IsInside pc → mem pc ≡ rom pc
opcode_there rom mem pc loaded at = let low = at.0 in let high = at.1 in loaded pc low (omega (arith, high))

pub first_there : (rom mem : ℕ → ℕ) (pc : ℕ) → IsLoaded rom mem → IsInside pc → mem (pc + 1) ≡ rom (pc + 1)
first_there rom mem pc loaded at = let low = at.0 in let high = at.1 in
    loaded (pc + 1) (omega (arith, low)) (omega (arith, high))

pub second_there : (rom mem : ℕ → ℕ) (pc : ℕ) → IsLoaded rom mem → IsInside pc → mem (pc + 1 + 1) ≡ rom (pc + 1 + 1)
second_there rom mem pc loaded at = let low = at.0 in let high = at.1 in
    loaded (pc + 1 + 1) (omega (arith, low)) (omega (arith, high))

module _ (rom : ℕ → ℕ) (notes : Notes) (st : State) (loaded : IsLoaded rom st.mem)
    (h : Handles notes st) where
  nmi_rom : IsInside st.pc
  nmi_rom = (placed notes st.pc h.now h.is)

  pub nmi_low : st.s + h.now.depth + 3 ≤ 255
  nmi_low = let old = h.stands in
      let high = low notes st.awake st.mem old.now.level (h.s + old.now.depth) st.calls old.below in
      let place = h.place in let near = h.near in omega (arith, high, place, near)

  nmi_top : st.s + h.now.depth ≤ 255
  nmi_top = let less = nmi_low in omega (arith, less)

  pub nmi_word : word_at st.mem (st.pc + 1) ≡ word_at rom (st.pc + 1)
  nmi_word = let choice : Choice = record {
    place = 0;
    deep = 0;
    a = 0;
    x = 0;
    y = 0;
    index = 0;
    byte = 0;
    taken = true;
    left = st.mem;
    since = 0;
  } in
      same_word notes rom choice st h.now loaded nmi_rom nmi_top h.room

  nmi_moved : (after : State) → Moves notes h.now st after → Good rom notes after
  nmi_moved after moves = record {
    loaded = λ b high top. moves.rom b high top ∙ loaded b high top;
    stage = inr (handles_on notes st after h moves);
  }

  reset_there : word_at st.mem reset_vector ≡ word_at rom reset_vector
  reset_there = vector rom notes st loaded

  -- it calls no subroutine
  pub no_call : fine_by Call notes rom st.pc h.now ≡ true → ⊥
  no_call fine = by (is_driver (word_at rom (st.pc + 1))) fine
    where
      to : ℕ
      to = word_at rom (st.pc + 1)

      by : (t : Bool) → (if t then enters to h.now && leads notes (st.pc + 3)
          (record h.now { awake = is_reset to || h.now.awake; blank = blank_after to h.now.blank })
          else nat_le 2 h.now.room
          && (not (same_level h.now.level Nmi) && (leads notes to (begun (ends_of (noted notes to)) h.now)
          && leads notes (st.pc + 3) (record h.now { blank = ends_of (noted notes to) })))) ≡ true → ⊥
      by true fine = not_entered to h.now h.level (both_true (enters to h.now) _ fine).0
      by false fine = is_nmi h.now.level h.level
          (both_true (not (same_level h.now.level Nmi)) _ (both_true (nat_le 2 h.now.room) _ fine).1).0

  pub nmi_step : (kind : Kind) (choice : Choice) → fine_by kind notes rom st.pc h.now ≡ true
      → restarting kind st ≡ false → Good rom notes (does kind choice (ticked st))
  nmi_step (Quiet sets bytes) choice fine go =
      nmi_moved _ (quiet_moves notes rom choice st h.now loaded nmi_rom nmi_top h.room sets bytes fine)
  nmi_step (Reads sets place) choice fine go =
      nmi_moved _ (reads_moves notes rom choice st h.now loaded nmi_rom nmi_top h.room sets place fine)
  nmi_step (Transfer from to) choice fine go =
      nmi_moved _ (transfer_moves notes rom choice st h.now loaded nmi_rom nmi_top h.room from to fine)
  nmi_step PushFlags choice fine go = nmi_moved _ (push_flags_moves notes rom choice st h.now loaded nmi_rom nmi_top
      h.room fine)
  nmi_step PullFlags choice fine go = nmi_moved _ (pull_flags_moves notes rom choice st h.now loaded nmi_rom nmi_top
      h.room fine)
  nmi_step (Stores mode) choice fine go =
      nmi_moved _ (stores_moves notes rom choice st h.now loaded nmi_rom nmi_top h.room mode fine)
  nmi_step Push choice fine go = nmi_moved _ (push_moves notes rom choice st h.now loaded nmi_rom nmi_top h.room fine)
  nmi_step Pull choice fine go = nmi_moved _ (pull_moves notes rom choice st h.now loaded nmi_rom nmi_top h.room fine)
  nmi_step Branch choice fine go = nmi_moved _ (branch_moves notes rom choice st h.now loaded nmi_rom nmi_top h.room
      fine)
  nmi_step Jump choice fine go = by (is_driver to) (subst (λ w. fine_of w ≡ true) (sym nmi_word)
      (else_true (nat_eq (word_at rom (st.pc + 1)) (word_at rom reset_vector)) (not (same_level h.now.level Nmi))
      (fine_of (word_at rom (st.pc + 1)))
      (subst (λ v. nat_eq (word_at rom (st.pc + 1)) v ≡ false) reset_there
      (subst (λ w. nat_eq w (word_at st.mem reset_vector) ≡ false) nmi_word go)) fine))
    where
      to : ℕ
      to = word_at st.mem (st.pc + 1)

      fine_of : ℕ → Bool
      fine_of w = if is_driver w then enters w h.now && (same_level h.now.level Sub
          && (nat_eq h.now.depth 0 && implies (blank_after w h.now.blank) h.now.ends))
          else leads notes w h.now

      by : (t : Bool) → (if t then enters to h.now && (same_level h.now.level Sub
          && (nat_eq h.now.depth 0 && implies (blank_after to h.now.blank) h.now.ends))
          else leads notes to h.now) ≡ true
          → Good rom notes (if t then returned (driven to choice (ticked st)) else record (ticked st) { pc = to })
      by true fine = absurd (not_entered to h.now h.level (both_true (enters to h.now) _ fine).0)
      by false fine = nmi_moved _ (jump_moves notes rom choice st h.now loaded nmi_rom nmi_top h.room fine)
  nmi_step Call choice fine go = absurd (no_call fine)
  nmi_step Return choice fine go =
      absurd (two_levels h.now.level h.level (both_true (same_level h.now.level Sub) _ fine).0)
  nmi_step Finish choice fine go = record {
    loaded = λ b high top. same_rom st.home b ∙ loaded b high top;
    stage = inl (resumes st.home (finishes notes st h (eqb-true h.now.depth 0
        (both_true (nat_eq h.now.depth 0) _ (both_true (same_level h.now.level Nmi) _ fine).1).0)));
  }
    where
      after : State
      after = record st { pc = resumed_at st; s = (st.s + 3) % 256; amid = None; home = None }

      same_rom : (o : Option (ℕ × ℕ)) (b : ℕ) → (goes_home o (record after { since = suc st.since })).mem b ≡ st.mem b
      same_rom None b = refl
      same_rom (Some place) b = refl

      resumes : (o : Option (ℕ × ℕ)) → Runs notes (goes_home o after)
          → Runs notes (goes_home o (record after { since = suc st.since }))
      resumes None runs = later notes after (suc st.since) runs
      resumes (Some place) runs = later notes (goes_home (Some place) after) (suc st.since) runs
  nmi_step Wild choice fine go = absurd (cc)
