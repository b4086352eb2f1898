-- What is outside turns, and a run stands as it stood.
use Rattle.std.proofs.Common.{◌≡◌, ◌⊎◌, inl, inr, ℕ, ◌+◌, ◌*◌, ◌<◌, ◌≤◌, suc, Bool, true, false, refl, ap, ◌∙◌, arith}
use Rattle.std.proofs.Common.{leb-true, le-leb}
use Rattle.std.specs.Prelude.{nat_le, nat_lt, ◌&&◌, ◌||◌, not}
use Rattle.dvg_calls_6502.specs.Board.{is_readable}
use Rattle.dvg_calls_6502.specs.Processor.{stack_place}
use Rattle.dvg_game_rules.specs.Machine.{State, IsTurned, is_outside}
use Rattle.dvg_game_rules.specs.Checker.{Notes}
use Rattle.dvg_game_rules.proofs.Saved.{saved_kept}
use Rattle.dvg_game_rules.proofs.RunInvariant.{Stands, Runs, Handles, Good, keeps}

-- the zero page and the stack are the program's own
pub low_inside : (b : ℕ) → b < 0x200 → is_outside b ≡ false
low_inside b less = ap (λ t. t && not (is_readable b || (nat_le 0x4800 b && nat_lt b 0x8000))) (by (nat_le 0x200 b) refl)
  where
    by : (t : Bool) → nat_le 0x200 b ≡ t → t ≡ false
    by false is = refl
    by true is = let low = leb-true 0x200 b is in absurd (omega (arith, low, less))

-- and so is the ROM
pub rom_inside : (b : ℕ) → 0x4800 ≤ b → b < 0x8000 → is_outside b ≡ false
rom_inside b low high = by (nat_le 0x200 b) (is_readable b) (nat_le 0x4800 b) (nat_lt b 0x8000) (le-leb 0x4800 b low)
    (le-leb (suc b) 0x8000 high)
  where
    by : (t h u v : Bool) → u ≡ true → v ≡ true → (t && not (h || (u && v))) ≡ false
    by false h u v one two = refl
    by true true u v one two = refl
    by true false true true one two = refl
    by true false false v one two = absurd (cc)
    by true false true false one two = absurd (cc)

-- and so is what the driver reads of its hardware
pub readable_inside : (b : ℕ) → is_readable b ≡ true → is_outside b ≡ false
readable_inside b is = by (nat_le 0x200 b) (is_readable b) (nat_le 0x4800 b && nat_lt b 0x8000) is
  where
    by : (t h u : Bool) → h ≡ true → (t && not (h || u)) ≡ false
    by false h u is = refl
    by true true u is = refl
    by true false u is = absurd (cc)

module _ (rom : ℕ → ℕ) (notes : Notes) (st : State) (mem : ℕ → ℕ) (same : IsTurned st.mem mem) where
  abbrev after : State
  after = record st { mem = mem }

  stack : (k : ℕ) → k ≤ 255 → mem (stack_place k) ≡ st.mem (stack_place k)
  stack k few = same (stack_place k) (low_inside (stack_place k) (omega arith))

  abbrev stands_on : {pc s : ℕ} → Stands notes st pc s → Stands notes after pc s
  stands_on {pc} {s} stands = record {
    now = stands.now;
    is = stands.is;
    below = keeps notes st.awake st.awake st.mem mem stands.now.level (s + stands.now.depth) st.calls (λ is. is)
        (λ k above few. stack k few) stands.below;
    fresh = stands.fresh;
    room = stands.room;
    awake = stands.awake;
  }

  runs_on : Runs notes st → Runs notes after
  runs_on runs = record {
    stands = stands_on runs.stands;
    outside = runs.outside;
    homeless = runs.homeless;
    blank = runs.blank;
  }

  handles_on : Handles notes st → Handles notes after
  handles_on h = record {
    now = h.now;
    is = h.is;
    level = h.level;
    came = h.came;
    amid = h.amid;
    place = h.place;
    word = ap (λ b. b + 256 * mem (stack_place (st.s + h.now.depth + 3))) (stack_at (st.s + h.now.depth + 2))
        ∙ ap (λ b. st.mem (stack_place (st.s + h.now.depth + 2)) + 256 * b) (stack_at (st.s + h.now.depth + 3)) ∙ h.word;
    flags = stack_at (st.s + h.now.depth + 1) ∙ h.flags;
    pc = h.pc;
    s = h.s;
    home = h.home;
    near = h.near;
    stands = stands_on h.stands;
    blank = h.blank;
    holds = h.holds;
    saved = saved_kept h.now.slots h.came st.mem mem st.s (λ k above few. stack k few) h.saved;
    room = h.room;
    time = h.time;
    awake = h.awake;
  }
    where
      stack_at : (k : ℕ) → mem (stack_place k) ≡ st.mem (stack_place k)
      stack_at k = same (stack_place k) (low_inside (stack_place k) (omega arith))

  pub good_turns : Good rom notes st → Good rom notes after
  good_turns good = record {
    loaded = λ b low high. same b (rom_inside b low high) ∙ good.loaded b low high;
    stage = by good.stage;
  }
    where
      by : (Runs notes st ⊎ Handles notes st) → Runs notes after ⊎ Handles notes after
      by (inl runs) = inl (runs_on runs)
      by (inr h) = inr (handles_on h)
