-- A play in a call of the driver: its steps, an NMI, and its return.
use Rattle.std.proofs.Common.{◌≡◌, ◌⊎◌, inl, inr, ℕ, suc, ◌+◌, ◌-◌, ◌%◌, ◌<◌, ◌≤◌, Bool, true, false, List}
use Rattle.std.proofs.Common.{◌++◌, refl, sym, ap, ◌∙◌, subst, arith, leb-true}
use Rattle.std.specs.Prelude.{◌&&◌, ◌||◌, not, nat_eq, nat_le, nat_lt, if◌then◌else◌, Some}
use Rattle.std.proofs.lemmas.Bool.{ne_eqb}
use Rattle.dvg_calls_6502.specs.Processor.{Cpu, Access, at_return, flags_byte, stack_place, step, turn}
use Rattle.dvg_calls_6502.specs.Amid as driver
use Rattle.dvg_calls_6502.specs.Amid.{changed, guards, is_kept, is_work}
use Rattle.dvg_calls_6502.specs.Board.{is_hardware, is_own, seen}
use Rattle.dvg_calls_6502.specs.Calls.{Call, Routine, after, is_table}
use Rattle.dvg_game_rules.specs.Machine.{Choice, State, IsRun, calls_driver, left_by, nmi_within, restarts, within}
use Rattle.dvg_game_rules.specs.Machine as machine
use Rattle.dvg_game_rules.specs.Safe.{IsSafe}
use Rattle.dvg_game_rules.specs.Alike.{of_cpu}
use Rattle.dvg_game_rules.proofs.Facts.{both_true}
use Rattle.dvg_game_rules.proofs.Memory.{between}
use Rattle.dvg_game_6502.specs.Play.{IsByteWide, done, interrupted}
use Rattle.dvg_game_6502.specs.Open.{IsIn, IsOpen}
use Rattle.dvg_game_6502.specs.Stays.{Stays, is_written}
use Rattle.dvg_game_6502.proofs.Bearers.{Bearer}
use Rattle.dvg_game_6502.proofs.CallsStay.{calls_stay}
use Rattle.dvg_game_6502.proofs.GameSteps.{bytes_pushed, pushed_below}
use Rattle.dvg_game_6502.proofs.Logs.{log_is_passive, upon}
use Rattle.dvg_game_6502.proofs.Stages.{Back, jmp, jsr, InDriver, InNmi, IsAccepted, safe_at}
use Rattle.dvg_game_6502.proofs.CallPlaces.{untouched}

turned : (s : ℕ) (cpu : Cpu) → at_return s cpu ≡ false → turn s cpu ≡ step cpu
turned s cpu not_there = ap (λ (t : Bool). if t then cpu else step cpu) not_there

-- S is at most two lower
pub two_levels : (now s : ℕ) → (now ≡ s) ⊎ (now + 2 ≡ s) → (now ≤ s) × (s ≤ now + 2)
two_levels now s (inl same) = (omega (arith, same), omega (arith, same))
two_levels now s (inr less) = (omega (arith, less), omega (arith, less))

-- what a step of a call leaves, as the play does it
pub stays : (R : List ℕ) (routine : Routine) (s : ℕ) (calls : List Call) (cpu : Cpu) (log : List Access)
    (flags : ℕ → ℕ) → IsOpen R routine s calls cpu log → at_return s cpu ≡ false → 4 ≤ s → Stays s cpu (done flags cpu)
stays R routine s calls cpu log flags call not_there deep = record {
  place = ap (λ (k : Cpu). driver.is_code k.pc) (sym same) ∙ did.place;
  level = subst (λ (q : ℕ). ((done flags cpu).s ≡ q) ⊎ ((done flags cpu).s + 2 ≡ q)) level
      (subst (λ (k : Cpu). (k.s ≡ is.call.from.s) ⊎ (k.s + 2 ≡ is.call.from.s)) same did.level);
  kept = λ b off. ap (λ (k : Cpu). k.mem b) (sym same) ∙ did.kept b (ap (λ q. is_written q b) level ∙ off);
}
  where
    is : IsIn R routine s calls cpu log flags
    is = call flags

    level : is.call.from.s ≡ s
    level = is.level

    did : Stays is.call.from.s (changed cpu.mem (after is.call)) (turn is.call.from.s (changed cpu.mem (after is.call)))
    did = calls_stay R is.call calls cpu.mem is.session (subst (λ q. 4 ≤ q) (sym level) deep) (λ b guarded.
        is.same b (subst (λ q. guards (is_kept (is_table is.call calls)) q cpu.s b ≡ true) level
        (subst (λ (k : Cpu). guards (is_kept (is_table is.call calls)) is.call.from.s k.s b ≡ true) is.after guarded))
        ∙ sym (ap (λ (k : Cpu). k.mem b) is.after))

    -- but for the log it is the play's
    same : turn is.call.from.s (changed cpu.mem (after is.call)) ≡ upon log (done flags cpu)
    same = ap (λ k. turn is.call.from.s (changed cpu.mem k)) is.after
        ∙ ap (λ k. turn k (record cpu { flags = flags; log = log })) level
        ∙ turned s (record cpu { flags = flags; log = log }) not_there
        ∙ log_is_passive (record cpu { flags = flags; log = log })

-- the ROM and the stack above are none that a call writes
pub unwritten : (s b : ℕ) → 2 ≤ s → s ≤ 255 → ((0x100 + s < b) × (b < 0x200)) ⊎ (0x4800 ≤ b) → is_written s b ≡ false
unwritten s b some most far =
    by (is_own b) (is_work b) (is_hardware b) (nat_eq b (stack_place s)) (nat_eq b (stack_place (s + 255)))
    (untouched b (above far) (beside far)) (ne_eqb b (stack_place s) (λ e. off s (omega arith) (omega (arith, e, most)) far))
    (ne_eqb b (stack_place (s + 255)) (λ e. off (s - 1) (omega arith) (omega (arith, e, most, some)) far))
  where
    above : ((0x100 + s < b) × (b < 0x200)) ⊎ (0x4800 ≤ b) → 0x21 ≤ b
    above (inl two) = let low = two.0 in omega (arith, low)
    above (inr low) = omega (arith, low)

    beside : ((0x100 + s < b) × (b < 0x200)) ⊎ (0x4800 ≤ b) → (b < 0x2002) ⊎ (0x4800 ≤ b)
    beside (inl two) = let high = two.1 in inl (omega (arith, high))
    beside (inr low) = inr low

    off : (k : ℕ) → k ≤ s → b ≡ 0x100 + k → ((0x100 + s < b) × (b < 0x200)) ⊎ (0x4800 ≤ b) → ⊥
    off k less is (inl two) = let low = two.0 in omega (arith, low, less, is)
    off k less is (inr low) = omega (arith, low, less, is, most)

    by : (t u v w x : Bool) → (t || (u || v)) ≡ false → w ≡ false → x ≡ false → (t || (u || (v || (w || x)))) ≡ false
    by false false false false x one two three = three
    by true u v w x one two three = absurd (cc)
    by false true v w x one two three = absurd (cc)
    by false false true w x one two three = absurd (cc)
    by false false false true x one two three = absurd (cc)

module _ {R : List ℕ} {B : Bearer R} {rom : ℕ → ℕ} {start : ℕ} (game : IsAccepted rom start)
    {cpu : Cpu} {w : B.World} (d : InDriver R B rom start cpu w) where
  pub safe : IsSafe rom d.st
  safe = safe_at game d.st d.run

  -- S where the driver was called
  pub deep : (32 ≤ d.st.s) × (d.st.s ≤ d.s + 2)
  deep = (safe.room d.outside, by d.back)
    where
      by : Back d.st cpu.mem d.s → d.st.s ≤ d.s + 2
      by (jsr is level one two) = omega (arith, level)
      by (jmp is level) = omega (arith, level)

  pub driver_step : (flags : ℕ → ℕ) (v : B.World) → at_return d.s cpu ≡ false → IsByteWide (done flags cpu)
      → B.Makes (seen (done flags cpu).log) w v → InDriver R B rom start (done flags cpu) v
  driver_step flags v not_there bytes makes = record {
    st = d.st;
    run = d.run;
    outside = d.outside;
    homeless = d.homeless;
    calls_it = d.calls_it;
    goes = d.goes;
    routine = d.routine;
    to = d.to;
    s = d.s;
    back = on d.back;
    calls = d.calls;
    mine = (done flags cpu).log ++ d.mine;
    doing = B.steps d.routine d.s d.calls cpu d.mine w v flags d.bytes d.place not_there makes d.doing;
    most = d.most;
    top = d.top;
    level = did.level;
    place = did.place;
    rom_kept = λ b low high. did.kept b (unwritten d.s b few small (inr low)) ∙ d.rom_kept b low high;
    stack_kept = λ b low high. did.kept b (unwritten d.s b few small (inl (above b low, high)))
        ∙ d.stack_kept b low high;
    bytes = bytes;
    frame = d.frame;
  }
    where
      most : d.st.s ≤ 255
      most = d.most

      few : 2 ≤ d.s
      few = let one = deep.0 in let two = deep.1 in omega (arith, one, two)

      small : d.s ≤ 255
      small = let top = d.top in omega (arith, top, most)

      above : (b : ℕ) → 0x100 + d.st.s < b → 0x100 + d.s < b
      above b low = let top = d.top in omega (arith, low, top)

      did : Stays d.s cpu (done flags cpu)
      did = stays R d.routine d.s d.calls cpu d.mine flags (B.is_open d.routine d.s d.calls cpu d.mine w
          d.doing) not_there
          (let one = deep.0 in let two = deep.1 in omega (arith, one, two))

      on : Back d.st cpu.mem d.s → Back d.st (done flags cpu).mem d.s
      on (jsr is level one two) = jsr is level
          (did.kept (0x100 + (d.s + 1)) (unwritten d.s (0x100 + (d.s + 1)) few small
          (inl (omega arith, omega (arith, level, most)))) ∙ one)
          (did.kept (0x100 + (d.s + 2)) (unwritten d.s (0x100 + (d.s + 2)) few small
          (inl (omega arith, omega (arith, level, most)))) ∙ two)
      on (jmp is level) = jmp is level

  -- what the machine leaves open where an NMI comes
  abbrev pub choice : Choice
  choice = record {
    a = cpu.a;
    x = cpu.x;
    y = cpu.y;
    index = 0;
    byte = flags_byte false cpu;
    taken = false;
    left = cpu.mem;
    since = 0;
    place = cpu.pc;
    deep = d.st.s - cpu.s;
  }

  -- the driver left what the machine says
  pub left_as : (b : ℕ) → left_by d.st.s cpu.mem d.st.mem b ≡ cpu.mem b
  left_as b = by (nat_le 0x4800 b && nat_lt b 0x8000) refl (nat_lt (0x100 + d.st.s % 256) b && nat_lt b 0x200) refl
    where
      by : (t : Bool) → (nat_le 0x4800 b && nat_lt b 0x8000) ≡ t
          → (u : Bool) → (nat_lt (0x100 + d.st.s % 256) b && nat_lt b 0x200) ≡ u
          → (if t || u then d.st.mem b else cpu.mem b) ≡ cpu.mem b
      by true is u or = let two = between 0x4800 0x8000 b is in
          safe.rom_kept b two.0 two.1 ∙ sym (d.rom_kept b two.0 two.1)
      by false is true or =
          let two = both_true (nat_lt (0x100 + d.st.s % 256) b) (nat_lt b 0x200) or in
          let low = leb-true (suc (0x100 + d.st.s % 256)) b two.0 in
          let high = leb-true (suc b) 0x200 two.1 in
          sym (d.stack_kept b (above low high) high)
        where
          above : 0x100 + d.st.s % 256 < b → b < 0x200 → 0x100 + d.st.s < b
          above low high = let most = d.most in omega (arith, low, most)
      by false is false or = refl

  -- amid the call, where the NMI comes
  abbrev amid_call : State
  amid_call = of_cpu cpu (record d.st { home = Some (d.st.pc, d.st.s) })

  near : (d.st.s - cpu.s ≤ 4) × (d.st.s - (d.st.s - cpu.s) ≡ cpu.s) × (28 ≤ cpu.s)
  near =
      let one = deep.0 in let two = deep.1 in let low = (two_levels cpu.s d.s d.level).0 in
      let high = (two_levels cpu.s d.s d.level).1 in let top = d.top in
      (omega (arith, two, high), omega (arith, low, top), omega (arith, one, two, high))

  within_is : within choice d.st ≡ amid_call
  within_is = λ j. record d.st {
    pc = cpu.pc;
    s = near.1 j;
    mem = λ b. left_as b j;
    a = cpu.a;
    x = cpu.x;
    y = cpu.y;
    home = Some (d.st.pc, d.st.s);
  }

  called : calls_driver d.st ≡ true
  called = ap (λ t. t && not (restarts d.st)) d.calls_it ∙ ap not d.goes

  pub driver_nmi : InNmi R B rom start (interrupted cpu) 0 w
  driver_nmi = record {
    outer = cpu;
    driver = d;
    st = machine.interrupted choice amid_call;
    run = subst (λ k. IsRun rom start (machine.interrupted choice k)) within_is
        (nmi_within choice d.run d.outside called near.0);
    time = refl;
    amid = refl;
    home = refl;
    blank = refl;
    bytes = bytes_pushed cpu d.bytes (let high = (between 0x6800 0x6A87 cpu.pc d.place).1 in omega (arith, high));
    kept = λ b spared inside. pushed_below cpu b (let some = near.2 in omega (arith, some)) small spared.above;
  }
    where
      small : cpu.s ≤ 255
      small = let low = (two_levels cpu.s d.s d.level).0 in let top = d.top in let most = d.most in omega
          (arith, low, top, most)
